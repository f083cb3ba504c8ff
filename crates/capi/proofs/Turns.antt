-- What crate recovery lays out of a list is what is asked for, where a number is a direction, and a refusal is one of a number that is none; and which end a number asks for.
use Rattle.std.proofs.Common.{◌≡◌, ℕ, ◌<◌, ◌≤◌, Bool, true, false, cond, List, map, sym, refl, ap, ◌∙◌, subst, ne_eqb, le-leb}
use Rattle.std.specs.Prelude.{Result, Ok, Err}
use borrow.Author.Tests.{lt-leb}
use Rattle.statuses.specs.Numbers.{number}
use Rattle.statuses.specs.declared.Status.{Status}
use Rattle.statuses.specs.declared.Status.TheVariants.{Inval}
use Rattle.places.specs.Lists.{chosen}
use Rattle.files.specs.File.{source_of}
use Rattle.recovery.specs.Calls.{listed, lend}
use Rattle.recovery.specs.Record.{is_wanted, number_of, listing_of}
use Rattle.recovery.specs.declared.listing.Listing.{Listing}
use Rattle.recovery.specs.declared.record.Record.{Record}
use Rattle.mirroring.specs.declared.source.Direction.{Direction}
use Rattle.mirroring.specs.declared.source.Direction.TheVariants.{Lowest, Highest}
use Rattle.capi.specs.Asked.{is_direction, direction_of, asked_by, listing_by}

pub asked-highest : (n : ℕ) → n ≤ 2 → (n ≡ 1 → ⊥) → Ok Highest ≡ asked_by n
asked-highest n h e = rw (le-leb n 2 h, ne_eqb n 1 e) refl

pub asked-lowest : (n : ℕ) → n ≡ 1 → Ok Lowest ≡ asked_by n
asked-lowest n e = rw e refl

pub asked-none : (n : ℕ) → 2 < n → Err Inval ≡ asked_by n
asked-none n h = rw (lt-leb n 2 h) refl

module _ (k : Listing) (n : ℕ) (r : Record) (a b : List ℕ) where
  abbrev answers : Result Direction Status → Type 0
  answers (Ok d) = lend (map number_of (chosen (is_wanted k) r.files)) (map (source_of d) (chosen (is_wanted k) r.files)) a b ≡ listing_by k n r a b
  answers (Err s) = listed (number s) 0 a b ≡ listing_by k n r a b

  pub asked-so : (q : Result Direction Status) → q ≡ asked_by n → answers q
  unfolding listing_by listing_of
  asked-so q e = by (is_direction n) refl
    where
      by : (t : Bool) → is_direction n ≡ t → answers q
      by true h = subst answers (sym (e ∙ ap (λ u. cond u (Ok (direction_of n)) (Err Inval)) h)) (rw h refl)
      by false h = subst answers (sym (e ∙ ap (λ u. cond u (Ok (direction_of n)) (Err Inval)) h)) (rw h refl)
