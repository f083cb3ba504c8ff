-- fill stores one more extent at each turn.
use mathlib.Core.Path.{◌≡◌}
use lib.ListN.{length}
use lib.Seq.{sets}
use Rattle.extents.specs.Extents.{list_from}
use Rattle.layouts.specs.Layout.{rows_bytes}
use Rattle.layouts.specs.Columns.{lent, column_row}
use Rattle.layouts.proofs.columns.Columns.fill.Given as goal

abbrev pub invariant-loop-i : goal.invariant-loop-i
invariant-loop-i l = (length l.d ≡ length l.initial.d) × (l.d ≡ sets l.initial.d 4 (rows_bytes l.kind (list_from (column_row (lent l.self)) l.i 0)))
