-- The loop reads the list: `Enrolling` holds at its head.
use Rattle.mirroring.proofs.Enrolling.{Enrolling}
use Rattle.mirroring.proofs.enrol.enrol.Given as goal

abbrev pub invariant-loop-i : goal.invariant-loop-i
invariant-loop-i l = Enrolling l.list l.ms l.i
