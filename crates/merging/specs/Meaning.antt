-- DEFINITION. What a list of extents says of a byte of the file (Rules 2.12). In this order: some of a list, and all of it; what one extent says of
-- a byte; what a list says; two lists that say the same.
use Rattle.std.specs.Prelude.{ℕ, ◌+◌, ◌-◌, ◌≡◌, List, [], ◌∷◌, ◌⊎◌, ◌↔◌, cond, eqb}
use Rattle.extents.specs.Sentences.{Covers}
use Rattle.extents.specs.declared.Extent.{Extent}

-- some of a list, and all of it
abbrev pub Some : {A : Type 0} → (A → Type 0) → List A → Type 0
Some P [] = ⊥
Some P (e ∷ es) = P e ⊎ Some P es

abbrev pub All : {A : Type 0} → (A → Type 0) → List A → Type 0
All P [] = Unit {0}
All P (e ∷ es) = P e × All P es

-- the state, the device and the storage byte; for a hole (state 3) the state alone
pub data Meaning : Type 0 where
  stored : ℕ → List ℕ → ℕ → Meaning
  hole : Meaning

unfoldable pub meaning_of : Extent → ℕ → Meaning
meaning_of e x = cond (eqb e.state 3) hole (stored e.state e.device (e.storage + (x - e.offset)))

-- the extent lies over the byte x and gives it this meaning
pub record Gives (x : ℕ) (m : Meaning) (e : Extent) : Type 0 where
  pub over : Covers e x
  pub means : meaning_of e x ≡ m

abbrev pub Says : List Extent → ℕ → Meaning → Type 0
Says es x m = Some (Gives x m) es

-- every byte of the file has the same meaning under both
abbrev pub SameMeaning : List Extent → List Extent → Type 0
SameMeaning es fs = (x : ℕ) (m : Meaning) → Says es x m ↔ Says fs x m
