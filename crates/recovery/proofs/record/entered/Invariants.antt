-- The loop enters a file: `Raising` holds at its head.
use Rattle.recovery.specs.Record.{enter}
use Rattle.recovery.proofs.Moving.{Raising}
use Rattle.recovery.proofs.record.entered.Given as goal

abbrev pub invariant-loop-i : goal.invariant-loop-i
invariant-loop-i l = Raising (enter l.x l.initial.fs) l.x l.fs l.i
