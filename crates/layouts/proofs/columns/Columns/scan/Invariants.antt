-- scan meets its contract by the turns of the one pass.
use lib.ListN.{length}
use Rattle.layouts.specs.Columns.{lent, column_row}
use Rattle.extents.proofs.Turns.{Scanning}
use Rattle.layouts.proofs.columns.Columns.scan.Given as goal

abbrev pub invariant-loop-i : goal.invariant-loop-i
invariant-loop-i l = Scanning (λ j. (column_row (lent l.self) j).extent) (length l.self.offsets.now) l.passed l.i
