-- MODEL. Places of an array: the first that passes a test, and what stands after a place pulled down over it.
use Rattle.std.specs.Prelude.{List, [], ◌∷◌, ◌++◌, Bool, true, false, cond, ℕ, suc, take, drop, Option, Some, None}

abbrev pub bump : Option ℕ → Option ℕ
bump (Some i) = Some (suc i)
bump None = None

unfoldable pub first : {A : Type 0} → (A → Bool) → List A → Option ℕ
first p [] = None
first p (x ∷ xs) = cond (p x) (Some 0) (bump (first p xs))

abbrev pub is_found : Option ℕ → Bool
is_found (Some i) = true
is_found None = false

-- the place, or e if there is none
abbrev pub place_or : ℕ → Option ℕ → ℕ
place_or e (Some i) = i
place_or e None = e

unfoldable pub pull : {A : Type 0} → A → List A → List A
pull e [] = []
pull e (x ∷ []) = e ∷ []
pull e (x ∷ y ∷ ys) = y ∷ pull e (y ∷ ys)

abbrev pub left_out : {A : Type 0} → A → ℕ → List A → List A
left_out e i l = take i l ++ pull e (drop i l)
