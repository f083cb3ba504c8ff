-- The turns from the index on lead where all turns lead.
use Rattle.std.proofs.Common.{◌-◌, ◌≡◌, ◌≤◌}
use Rattle.capi.specs.Whole.{gathered}
use Rattle.capi.proofs.end_file.Given as goal

abbrev pub invariant-loop-i : goal.invariant-loop-i
invariant-loop-i l = (gathered (8 - l.i) l.i l.n l.f ≡ gathered 8 0 0 l.initial.f) × (l.n ≤ l.i)
