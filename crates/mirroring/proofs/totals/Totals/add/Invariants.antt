-- The loop counts place by place: `Counting-both` holds at its head.
use Rattle.mirroring.proofs.Summing.{Counting-both}
use Rattle.mirroring.proofs.totals.Totals.add.Given as goal

abbrev pub invariant-loop-i : goal.invariant-loop-i
invariant-loop-i l = Counting-both l.m-items l.high l.low l.read l.written l.initial.t l.t l.i
