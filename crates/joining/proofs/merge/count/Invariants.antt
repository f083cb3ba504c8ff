-- count meets its contract by the turns of the pass that checks and counts.
use Rattle.std.proofs.Common.{length}
use Rattle.joining.proofs.Loops.{Counting}
use Rattle.joining.proofs.merge.count.Given as goal

abbrev pub invariant-loop-i : goal.invariant-loop-i
invariant-loop-i l = Counting l.rows.devices.now l.rows.offsets.now l.rows.lengths.now l.rows.storages.now l.rows.states.now (length l.rows.offsets.now) l.passed l.runs l.i
