-- scan meets its contract by the turns of the one pass.
use Rattle.layouts.specs.Layout.{row_at}
use Rattle.extents.proofs.Turns.{Scanning}
use Rattle.layouts.proofs.layout.scan.Given as goal

abbrev pub invariant-loop-i : goal.invariant-loop-i
invariant-loop-i l = Scanning (λ j. (row_at l.kind l.s j).extent) l.count l.passed l.i
