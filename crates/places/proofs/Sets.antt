-- Lists of numbers as sets, and tests of lists.
use mathlib.Core.Path.{◌≡◌, refl, sym, ◌∙◌}
use mathlib.Core.List.{List, [], ◌∷◌, ◌++◌}
use mathlib.Core.Bool.{Bool, cond, true, false}
use Prim.Native.Nat.{ℕ, zero, suc}
use lib.ListN.{get_or}
use native.Mathlib.Omega.{arith}
use native.Mathlib.Decide.{ℕ_discrete}
use lib.Dec.{eqb}
use borrow.Author.Tests.{eqb-true, eq-eqb, ne_eqb}
use Rattle.places.specs.Places.{bump, first}
use Rattle.places.specs.Lists.{any, has, with}
use Rattle.std.specs.Prelude.{Option, Some, None}

pub true-false : {A : Type 0} → true ≡ false → A
true-false e = let z : ◌≡◌ {A = ℕ} 0 1 = cc in absurd (omega arith)

eqb-sym-of : (a b : ℕ) → Dec (a ≡ b) → eqb a b ≡ eqb b a
eqb-sym-of a b (yes e) = eq-eqb a b e ∙ sym (eq-eqb b a (sym e))
eqb-sym-of a b (no e) = ne_eqb a b e ∙ sym (ne_eqb b a (λ q. e (sym q)))

pub eqb-sym : (a b : ℕ) → eqb a b ≡ eqb b a
eqb-sym a b = eqb-sym-of a b (ℕ_discrete a b)

pub any_append : {A : Type 0} (p : A → Bool) (xs ys : List A) → any p (xs ++ ys) ≡ cond (any p xs) true (any p ys)
unfolding any
any_append p [] ys = refl
any_append p (x ∷ xs) ys = by (p x) _ (any p xs) (any p ys) (any_append p xs ys)
  where
    by : (b u v w : Bool) → u ≡ cond v true w → cond b true u ≡ cond (cond b true v) true w
    by true u v w e = refl
    by false u v w e = e

pub any_same : {A : Type 0} (p q : A → Bool) → ((x : A) → p x ≡ q x) → (xs : List A) → any p xs ≡ any q xs
unfolding any
any_same p q e [] = refl
any_same p q e (x ∷ xs) = rw (e x, any_same p q e xs)

-- a list has a number that it is given
with-by : (c d : ℕ) (xs : List ℕ) (b : Bool) → has c xs ≡ b → (k : Bool) → eqb d c ≡ k → has d (cond b xs (xs ++ c ∷ [])) ≡ cond k true (has d xs)
unfolding has any
with-by c d xs true e true h = rw (eqb-true d c h) e
with-by c d xs true e false h = refl
with-by c d xs false e true h = any_append (λ x. eqb x d) xs (c ∷ []) ∙ rw (eqb-sym c d, h) (last (any (λ x. eqb x d) xs))
  where
    last : (b : Bool) → cond b true true ≡ true
    last true = refl
    last false = refl
with-by c d xs false e false h = any_append (λ x. eqb x d) xs (c ∷ []) ∙ rw (eqb-sym c d, h) (last (any (λ x. eqb x d) xs))
  where
    last : (b : Bool) → cond b true false ≡ b
    last true = refl
    last false = refl

pub has-with : (c d : ℕ) (xs : List ℕ) → has d (with c xs) ≡ cond (eqb d c) true (has d xs)
unfolding with
has-with c d xs = with-by c d xs (has c xs) refl (eqb d c) refl

pub with-old : (c : ℕ) (xs : List ℕ) → has c xs ≡ true → with c xs ≡ xs
unfolding with
with-old c xs e = rw e

pub with-new : (c : ℕ) (xs : List ℕ) → has c xs ≡ false → with c xs ≡ xs ++ c ∷ []
unfolding with
with-new c xs e = rw e

-- what a search says of a test of the whole list
first_by : (b : Bool) (o : Option ℕ) (c : Bool) → ((i : ℕ) → o ≡ Some i → c ≡ true) → (i : ℕ) → cond b (Some 0) (bump o) ≡ Some i → cond b true c ≡ true
first_by true o c f i e = refl
first_by false (Some j) c f i e = f j refl
first_by false None c f i e = let z : ◌≡◌ {A = ℕ} 0 1 = cc in absurd (omega arith)

no-by : (b : Bool) (o : Option ℕ) (c : Bool) → (o ≡ None → c ≡ false) → cond b (Some 0) (bump o) ≡ None → cond b true c ≡ false
no-by true o c g e = let z : ◌≡◌ {A = ℕ} 0 1 = cc in absurd (omega arith)
no-by false (Some j) c g e = let z : ◌≡◌ {A = ℕ} 0 1 = cc in absurd (omega arith)
no-by false None c g e = g refl

pub first-nothing : {A : Type 0} (p : A → Bool) (xs : List A) → first p xs ≡ None → any p xs ≡ false
unfolding first any
first-nothing p [] e = refl
first-nothing p (x ∷ xs) e = no-by (p x) (first p xs) (any p xs) (λ q. first-nothing p xs q) e

pub first-at : {A : Type 0} (p : A → Bool) (xs : List A) (i : ℕ) → first p xs ≡ Some i → any p xs ≡ true
unfolding first any
first-at p [] i e = let z : ◌≡◌ {A = ℕ} 0 1 = cc in absurd (omega arith)
first-at p (x ∷ xs) i e = first_by (p x) (first p xs) (any p xs) (λ j q. first-at p xs j q) i e

pub none_first : {A : Type 0} (p : A → Bool) (xs : List A) → any p xs ≡ false → first p xs ≡ None
unfolding first any
none_first p [] e = refl
none_first p (x ∷ xs) e = by (p x) (any p xs) e (none_first p xs)
  where
    by : (b c : Bool) → cond b true c ≡ false → (c ≡ false → first p xs ≡ None) → cond b (Some 0) (bump (first p xs)) ≡ None
    by true c q f = true-false q
    by false c q f = rw (f q)

pub first-no : (b c : Bool) → cond b true c ≡ false → b ≡ false
first-no true c e = e
first-no false c e = refl

pub rest-no : (b c : Bool) → cond b true c ≡ false → c ≡ false
rest-no true c e = true-false e
rest-no false c e = e

-- none passes, so that at no place does
pub none-at : {A : Type 0} (p : A → Bool) (d : A) → p d ≡ false → (xs : List A) (i : ℕ) → any p xs ≡ false → p (get_or xs i d) ≡ false
unfolding any
none-at p d z [] i e = z
none-at p d z (x ∷ xs) zero e = first-no (p x) (any p xs) e
none-at p d z (x ∷ xs) (suc i) e = none-at p d z xs i (rest-no (p x) (any p xs) e)
