-- Equal bytes: the library's test, pair by pair, is the definition's. Then zeros.
use Prim.Native.Nat.{ℕ, zero, suc, ◌+◌, ◌-◌, ◌≤◌}
use mathlib.Core.Path.{◌≡◌, refl, sym, ap, ◌∙◌}
use mathlib.Core.List.{List, [], ◌∷◌}
use mathlib.Core.Bool.{Bool, true, false, ◌&&◌}
use native.Mathlib.Omega.{arith}
use native.Mathlib.Nat.{suc-add}
use borrow.Author.Tests.{eqb-true, eq-eqb}
use lib.ListN.{take}
use lib.Dec.{eqb}
use lib.Pointwise.{pointwise}
use Rattle.xdr.specs.Reader.{same_bytes, zeros}

pub false-true : false ≡ true → ⊥
false-true e =
    let z : ◌≡◌ {A = ℕ} 0 1 = cc in
    omega arith

pub same-are : (a b : List ℕ) → same_bytes a b ≡ true → a ≡ b
unfolding same_bytes
same-are [] [] h = refl
same-are [] (y ∷ b) h = absurd (false-true h)
same-are (x ∷ a) [] h = absurd (false-true h)
same-are (x ∷ a) (y ∷ b) h = by-head (eqb x y) refl h (same-are a b)
  where
    by-head : (e : Bool) → eqb x y ≡ e → e && same_bytes a b ≡ true → (same_bytes a b ≡ true → a ≡ b) → x ∷ a ≡ y ∷ b
    by-head true e h go = rw (eqb-true x y e, go h)
    by-head false e h go = absurd (false-true h)

-- the same bytes are found the same, and others are not
pub same_self : (a : List ℕ) → same_bytes a a ≡ true
unfolding same_bytes
same_self [] = refl
same_self (x ∷ a) = rw (eq-eqb x x refl) (same_self a)

pub are-same : (a b : List ℕ) → a ≡ b → same_bytes a b ≡ true
are-same a b e = rw e (same_self b)

pub not_same : (a b : List ℕ) → same_bytes a b ≡ false → a ≡ b → ⊥
not_same a b h e = false-true (sym h ∙ are-same a b e)

pub differ : (a b : List ℕ) → (a ≡ b → ⊥) → same_bytes a b ≡ false
differ a b h = by (same_bytes a b) refl
  where
    by : (t : Bool) → same_bytes a b ≡ t → t ≡ false
    by true e = absurd (h (same-are a b e))
    by false e = refl

-- pair by pair, as the library compares slices
pub pairs_same : (a b : List ℕ) → pointwise eqb a b ≡ same_bytes a b
unfolding same_bytes
pairs_same [] [] = refl
pairs_same [] (y ∷ b) = refl
pairs_same (x ∷ a) [] = refl
pairs_same (x ∷ a) (y ∷ b) = rw (pairs_same a b)

some-zeros : (m n : ℕ) → take m (zeros (m + n)) ≡ zeros m
some-zeros zero n = refl
some-zeros (suc m) n = rw suc-add (ap (λ (l : List ℕ). 0 ∷ l) (some-zeros m n))

-- the first of four zeros
pub first-zeros : (p : ℕ) → p ≤ 4 → take p (zeros 4) ≡ zeros p
first-zeros p h =
    let q : p + (4 - p) ≡ 4 = omega arith in
    rw q at (some-zeros p (4 - p))
