-- fill meets its contract by the turns of the pass that writes.
use Rattle.std.proofs.Common.{length}
use lib.Seq.{sets}
use Rattle.joining.specs.Merge.{column_list}
use Rattle.merging.specs.Merged.{merged}
use Rattle.joining.specs.Joiner.{bytes_of}
use Rattle.joining.proofs.Loops.{Filling}
use Rattle.joining.proofs.merge.fill.Given as goal

abbrev pub invariant-loop-i : goal.invariant-loop-i
invariant-loop-i l =
    Filling l.rows.devices.now l.rows.offsets.now l.rows.lengths.now l.rows.storages.now l.rows.states.now (length l.rows.offsets.now) (length l.initial.d) (sets l.initial.d 4 (bytes_of (merged (column_list l.rows.devices.now l.rows.offsets.now l.rows.lengths.now l.rows.storages.now l.rows.states.now)))) l.d l.runs l.i
