-- DEFINITION. The first of a list of rising places by a direction (Rules 5.7; 02, Ticket 11), or 255 if there is none.
use Rattle.std.specs.Prelude.{List, [], ◌∷◌, ℕ}
use Rattle.mirroring.specs.declared.source.Direction.{Direction}
use Rattle.mirroring.specs.declared.source.Direction.TheVariants.{Lowest, Highest}

unfoldable pub head_or : ℕ → List ℕ → ℕ
head_or e [] = e
head_or e (p ∷ ps) = p

unfoldable pub last_or : ℕ → List ℕ → ℕ
last_or e [] = e
last_or e (p ∷ ps) = last_or p ps

unfoldable pub first_by : Direction → List ℕ → ℕ
first_by Lowest ps = head_or 255 ps
first_by Highest ps = last_or 255 ps
