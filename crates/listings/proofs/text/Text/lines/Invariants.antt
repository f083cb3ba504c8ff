-- lines stores one more line at each turn.
use Rattle.listings.specs.Text.{lines_of}
use Rattle.listings.specs.Adds.{Adds}
use Rattle.layouts.specs.Layout.{row_at}
use Rattle.extents.specs.Extents.{list_from}
use Prim.Native.Nat.{◌+◌, ◌*◌, ◌≤◌}
use Rattle.listings.proofs.text.Text.lines.Given as goal

abbrev pub invariant-loop-i : goal.invariant-loop-i
invariant-loop-i l = (l.self.at ≤ l.initial.self.at + 105 * l.i) × Adds l.initial.self (lines_of l.kind (list_from (row_at l.kind l.s) l.i 0)) l.self
