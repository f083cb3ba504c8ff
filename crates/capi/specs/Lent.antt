-- DEFINITION. What C is handed of totals (Rules 7.5) in a slice that it lends. The mask beside it is the totals' own (`over`, mirroring/specs/Totals.antt).
use Rattle.std.specs.Prelude.{ℕ, List, length, replicate}
use Rattle.places.specs.Lists.{fill}

-- each place of a lent slice d has its mirror's total, and place 4 the proxy's; those after have 0, however long the slice is
unfoldable pub column_of : List ℕ → List ℕ → List ℕ
column_of ns d = fill ns (replicate (length d) 0)
