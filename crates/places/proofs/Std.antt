-- The words of places are std's, in this order: a search is `position`, a test of each is `list_any`, those that pass are `filter`.
use mathlib.Core.Path.{◌≡◌, refl, ap, ◌∙◌}
use mathlib.Core.List.{List, [], ◌∷◌}
use mathlib.Core.Bool.{Bool, true, false, cond}
use Prim.Native.Nat.{ℕ, ◌+◌}
use native.Mathlib.Omega.{arith}
use Rattle.std.specs.Prelude.{Option, Some, None, position, filter, ◌||◌}
use Rattle.std.specs.List.{position_from, list_any}
use Rattle.std.proofs.lemmas.Iterator.Adapters.{position_from-zero}
use Rattle.places.specs.Lists.{any, chosen}
use Rattle.places.specs.Places.{first, bump}

-- a place of the rest, where the rest begins at n
abbrev after : ℕ → Option ℕ → Option ℕ
after n (Some k) = Some (n + k)
after n None = None

after-item : (b : Bool) (n : ℕ) (o : Option ℕ) → cond b (Some n) (after (n + 1) o) ≡ after n (cond b (Some 0) (bump o))
after-item true n o = ap Some (omega arith)
after-item false n (Some k) = ap Some (omega arith)
after-item false n None = refl

after-first : {A : Type 0} (p : A → Bool) (n : ℕ) (xs : List A) → position_from p n xs ≡ after n (first p xs)
unfolding first
after-first p n [] = refl
after-first p n (x ∷ xs) = ap (cond (p x) (Some n)) (after-first p (n + 1) xs) ∙ after-item (p x) n (first p xs)

at-start : (o : Option ℕ) → after 0 o ≡ o
at-start (Some k) = ap Some (omega arith)
at-start None = refl

pub first-position : {A : Type 0} (p : A → Bool) (xs : List A) → position p xs ≡ first p xs
first-position p xs = position_from-zero p xs ∙ after-first p 0 xs ∙ at-start (first p xs)

pub any-std : {A : Type 0} (p : A → Bool) (xs : List A) → list_any p xs ≡ any p xs
unfolding any
any-std p [] = refl
any-std p (x ∷ xs) = by (p x) (any-std p xs)
  where
    by : (b : Bool) {u v : Bool} → u ≡ v → ◌||◌ b u ≡ cond b true v
    by true e = refl
    by false e = e

pub chosen-filter : {A : Type 0} (p : A → Bool) (xs : List A) → filter p xs ≡ chosen p xs
unfolding chosen
chosen-filter p [] = refl
chosen-filter {A} p (x ∷ xs) = ap {B = List A} (λ t. cond (p x) (x ∷ t) t) (chosen-filter p xs)
