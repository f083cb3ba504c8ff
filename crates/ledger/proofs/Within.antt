-- Part of a list of numbers, in its order: what it has the list has, and one may be taken out of the part, of both, or of the list alone. Last, a list of things
-- that have numbers each, and the list of those.
use mathlib.Core.Path.{◌≡◌, refl, sym}
use mathlib.Core.List.{List, [], ◌∷◌, map}
use mathlib.Core.Bool.{Bool, true, false, cond}
use Prim.Native.Nat.{ℕ}
use lib.Dec.{eqb}
use borrow.Author.Tests.{eq-eqb}
use Rattle.places.specs.Lists.{any, has, none, discard}
use Rattle.places.proofs.Sets.{true-false, first-no, rest-no}

-- ---- part of a list, in its order
pub data Within : List ℕ → List ℕ → Type 0 where
  within-nil : Within [] []
  within_both : {xs ys : List ℕ} (x : ℕ) → Within xs ys → Within (x ∷ xs) (x ∷ ys)
  within_more : {xs ys : List ℕ} (y : ℕ) → Within xs ys → Within xs (y ∷ ys)

pub within-self : (xs : List ℕ) → Within xs xs
within-self [] = within-nil
within-self (x ∷ xs) = within_both x (within-self xs)

pub or-true : (b c : Bool) → c ≡ true → cond b true c ≡ true
or-true true c e = refl
or-true false c e = e

has_here : (x : ℕ) (xs : List ℕ) → has x (x ∷ xs) ≡ true
unfolding has any
has_here x xs = rw (eq-eqb x x refl)

has-later : (c x : ℕ) (xs : List ℕ) → has c xs ≡ true → has c (x ∷ xs) ≡ true
unfolding has any
has-later c x xs e = or-true (eqb x c) (any (λ z. eqb z c) xs) e

-- what one of the part passes, one of the list does
pub any-within : (p q : ℕ → Bool) {xs ys : List ℕ} → ((c : ℕ) → has c xs ≡ true → p c ≡ true → q c ≡ true) → Within xs ys → any p xs ≡ true → any q ys ≡ true
unfolding any
any-within p q f within-nil e = e
any-within p q f (within_both {xs} {ys} x s) e = by (p x) refl (any-within p q (λ c j. f c (has-later c x xs j)) s) e
  where
    by : (b : Bool) → p x ≡ b → (any p xs ≡ true → any q ys ≡ true) → cond b true (any p xs) ≡ true → cond (q x) true (any q ys) ≡ true
    by true h k i = rw (f x (has_here x xs) h)
    by false h k i = or-true (q x) (any q ys) (k i)
any-within p q f (within_more {ys} y s) e = or-true (q y) (any q ys) (any-within p q f s e)

pub has_within : {xs ys : List ℕ} (c : ℕ) → Within xs ys → has c xs ≡ true → has c ys ≡ true
unfolding has
has_within c s e = any-within (λ x. eqb x c) (λ x. eqb x c) (λ d h k. k) s e

pub none_within : {xs ys : List ℕ} → Within xs ys → none ys ≡ true → none xs ≡ true
unfolding none
none_within within-nil e = refl
none_within (within_both x s) e = e
none_within (within_more y s) e = true-false (sym e)

module _ (p : ℕ → Bool) where
  -- one is taken out of the part; of both; of the list alone, if the part has none such
  pub within-less : {xs ys : List ℕ} → Within xs ys → Within (discard p xs) ys
  unfolding discard
  within-less within-nil = within-nil
  within-less (within_both {xs} {ys} x s) = by (p x) (within-less s)
    where
      by : (b : Bool) → Within (discard p xs) ys → Within (cond b xs (x ∷ discard p xs)) (x ∷ ys)
      by true h = within_more x s
      by false h = within_both x h
  within-less (within_more y s) = within_more y (within-less s)

  pub within-discard : {xs ys : List ℕ} → Within xs ys → Within (discard p xs) (discard p ys)
  unfolding discard
  within-discard within-nil = within-nil
  within-discard (within_both {xs} {ys} x s) = by (p x) (within-discard s)
    where
      by : (b : Bool) → Within (discard p xs) (discard p ys) → Within (cond b xs (x ∷ discard p xs)) (cond b ys (x ∷ discard p ys))
      by true h = s
      by false h = within_both x h
  within-discard (within_more {xs} {ys} y s) = by (p y) (within-discard s)
    where
      by : (b : Bool) → Within (discard p xs) (discard p ys) → Within (discard p xs) (cond b ys (y ∷ discard p ys))
      by true h = within-less s
      by false h = within_more y h

  pub within-but : {xs ys : List ℕ} → any p xs ≡ false → Within xs ys → Within xs (discard p ys)
  unfolding discard any
  within-but e within-nil = within-nil
  within-but e (within_both {xs} {ys} x s) = rw (first-no (p x) (any p xs) e) (within_both x (within-but (rest-no (p x) (any p xs) e) s))
  within-but {xs} e (within_more {ys = ys} y s) = by (p y) (within-but e s)
    where
      by : (b : Bool) → Within xs (discard p ys) → Within xs (cond b ys (y ∷ discard p ys))
      by true h = s
      by false h = within_more y h

-- ---- things, and the number of each
module _ {A : Type 0} (key : A → ℕ) where
  pub any-key : (p : ℕ → Bool) (xs : List A) → any p (map key xs) ≡ any (λ x. p (key x)) xs
  unfolding any
  any-key p [] = refl
  any-key p (x ∷ xs) = rw (any-key p xs)

  pub none-key : (xs : List A) → none (map key xs) ≡ none xs
  unfolding none
  none-key [] = refl
  none-key (x ∷ xs) = refl

  pub discard-key : (p : ℕ → Bool) (xs : List A) → map key (discard (λ x. p (key x)) xs) ≡ discard p (map key xs)
  unfolding discard
  discard-key p [] = refl
  discard-key p (x ∷ xs) = by (p (key x)) (discard-key p xs)
    where
      by : (b : Bool) → map key (discard (λ x. p (key x)) xs) ≡ discard p (map key xs) → map key (cond b xs (x ∷ discard (λ x. p (key x)) xs)) ≡ cond b (map key xs) (key x ∷ discard p (map key xs))
      by true e = refl
      by false e = rw e

  -- each changed to one of its number
  pub map-key : (g : A → A) → ((x : A) → key (g x) ≡ key x) → (xs : List A) → map key (map g xs) ≡ map key xs
  map-key g k [] = refl
  map-key g k (x ∷ xs) = rw (k x, map-key g k xs)
