-- By the laws of `Moving`.
use mathlib.Core.Path.{refl}
use native.Mathlib.Omega.{arith}
use Rattle.recovery.proofs.Moving.{lowered-here, lowering-on, lowered-last}
use Rattle.recovery.proofs.record.left_out.Goals as goal

pub returns-then-free : goal.returns-then-free
returns-then-free c = lowered-here c.loop-i.invariant.2 c.loop-i-test.true _ refl _ c.free.ensures c.if-free.true _ c.loop-i.invariant.1

pub loop-i-preserved : goal.loop-i-preserved
loop-i-preserved c = (omega arith, c.loop-i.invariant.1, lowering-on c.loop-i.invariant.2 c.loop-i-test.true _ refl _ c.free.ensures c.if-free.false)

pub returns : goal.returns
returns c = lowered-last c.loop-i.invariant.2 (omega arith) _ c.loop-i.invariant.1
