-- sweep meets its contract by the turns.
use Rattle.commits.proofs.Swept.{turns_left}
use Rattle.commits.proofs.Turns.{Turning}
use Rattle.commits.proofs.sweep.sweep.Given as goal

abbrev pub invariant-loop-p : goal.invariant-loop-p
invariant-loop-p g l =
    Turning l.ranges.list.now l.ranges.count l.rows.devices.now l.rows.offsets.now l.rows.lengths.now l.rows.storages.now l.rows.states.now g.P.Pass.writes l.initial.d l.p l.runs l.d l.bare

abbrev pub decreases-loop-p : goal.decreases-loop-p
decreases-loop-p g l = turns_left l.p
