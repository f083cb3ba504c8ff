-- What a listing leaves: too short a slice, and both long enough.
use mathlib.Core.Path.{◌≡◌, sym, ◌∙◌}
use mathlib.Core.List.{List, map}
use Prim.Native.Nat.{ℕ, ◌<◌, ◌≤◌}
use lib.ListN.{length, length-map}
use borrow.Author.Tests.{le-leb, lt-leb}
use Rattle.places.specs.Lists.{chosen, fill}
use Rattle.files.specs.File.{source_of}
use Rattle.mirroring.specs.declared.source.Direction.{Direction}
use Rattle.recovery.specs.Calls.{Answer, listed, lend}
use Rattle.recovery.specs.Record.{is_wanted, number_of}
use Rattle.recovery.specs.declared.listing.Listing.{Listing}
use Rattle.files.specs.declared.file.File.{File}

module _ (k : Listing) (d : Direction) (fs : List File) {n : ℕ} (e : n ≡ length (chosen (is_wanted k) fs)) where
  many : length (map number_of (chosen (is_wanted k) fs)) ≡ n
  many = length-map (chosen (is_wanted k) fs) number_of ∙ sym e

  abbrev lent : List ℕ → List ℕ → Answer
  lent a b = lend (map number_of (chosen (is_wanted k) fs)) (map (source_of d) (chosen (is_wanted k) fs)) a b

  pub short-numbers : {a b : List ℕ} → length a < n → listed 28 0 a b ≡ lent a b
  unfolding lend
  short-numbers {a} {b} h = rw (many, lt-leb n (length a) h)

  pub short-sources : {a b : List ℕ} → n ≤ length a → length b < n → listed 28 0 a b ≡ lent a b
  unfolding lend
  short-sources {a} {b} g h = rw (many, le-leb n (length a) g, lt-leb n (length b) h)

  pub both-filled : (a b : List ℕ) → n ≤ length a → n ≤ length b → {a' b' : List ℕ} → a' ≡ fill (map number_of (chosen (is_wanted k) fs)) a
      → b' ≡ fill (map (source_of d) (chosen (is_wanted k) fs)) b → listed 0 n a' b' ≡ lent a b
  unfolding lend
  both-filled a b g h x y = rw (many, le-leb n (length a) g, le-leb n (length b) h, x, y)
