-- DEFINITION. Plain lists, in this order: a test of each; sets of numbers; one that is changed, taken out or looked up; a lent slice whose first places
-- are filled; strictly rising numbers.
use Rattle.std.specs.Prelude.{List, [], ◌∷◌, ◌++◌, Bool, true, false, cond, ℕ, ◌<◌, eqb}

-- whether one of a list passes
unfoldable pub any : {A : Type 0} → (A → Bool) → List A → Bool
any p [] = false
any p (x ∷ xs) = cond (p x) true (any p xs)

-- those of a list that pass, in its order
unfoldable pub chosen : {A : Type 0} → (A → Bool) → List A → List A
chosen p [] = []
chosen p (x ∷ xs) = cond (p x) (x ∷ chosen p xs) (chosen p xs)

-- a set of numbers is a list: what it has, one more, one less
unfoldable pub has : ℕ → List ℕ → Bool
has n xs = any (λ x. eqb x n) xs

unfoldable pub with : ℕ → List ℕ → List ℕ
with n xs = cond (has n xs) xs (xs ++ n ∷ [])

unfoldable pub none : {A : Type 0} → List A → Bool
none [] = true
none (x ∷ xs) = false

-- the first that passes is changed by g; the first that passes is taken out
unfoldable pub amend : {A : Type 0} → (A → Bool) → (A → A) → List A → List A
amend p g [] = []
amend p g (x ∷ xs) = cond (p x) (g x ∷ xs) (x ∷ amend p g xs)

unfoldable pub discard : {A : Type 0} → (A → Bool) → List A → List A
discard p [] = []
discard p (x ∷ xs) = cond (p x) xs (x ∷ discard p xs)

-- the first that passes, or d
unfoldable pub first_or : {A : Type 0} → (A → Bool) → A → List A → A
first_or p d [] = d
first_or p d (x ∷ xs) = cond (p x) x (first_or p d xs)

-- xs in place of the first places of d; later places stay
unfoldable pub fill : {A : Type 0} → List A → List A → List A
fill [] d = d
fill (x ∷ xs) [] = []
fill (x ∷ xs) (y ∷ ys) = x ∷ fill xs ys

-- strictly rising numbers
abbrev pub Above : ℕ → List ℕ → Type 0
Above n [] = Unit {0}
Above n (m ∷ ms) = (n < m) × Above n ms

abbrev pub Rising : List ℕ → Type 0
Rising [] = Unit {0}
Rising (n ∷ ns) = Above n ns × Rising ns
