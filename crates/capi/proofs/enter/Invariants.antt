-- The files that are raised from the index down are those that are raised from the free place down.
use Rattle.std.proofs.Common.{◌≡◌, ◌<◌}
use Rattle.recovery.specs.Record.{with_files, raised, enter}
use Rattle.capi.proofs.enter.Given as goal

abbrev pub invariant-loop-i : goal.invariant-loop-i
invariant-loop-i l = (with_files (raised l.x l.i l.r.files) l.r ≡ with_files (enter l.x l.fn.r.files) l.fn.r) × (l.i < 64)

abbrev pub decreases-loop-i : goal.decreases-loop-i
decreases-loop-i l = l.i
