-- By the laws of such a loop in `Loops` of places.
use Rattle.std.proofs.Common.{rules, ◌≡◌, length, ◌<◌}
use native.Mathlib.Omega.{arith}
use Rattle.places.proofs.Loops.{mapped-length, counting-none, filling-none, counting-skip, counting_more, filling_skip, filling-more}
use Rattle.intents.specs.Intents.{no_intent}
use Rattle.intents.proofs.staying.Goals.{then-stays, else-stays}
use Rattle.intents.proofs.staying.Goals as goal

pub loop-x-init : goal.loop-x-init
loop-x-init c = (omega arith, counting-none _ _, rw c.none-xs.ensures (filling-none _ _ _ _))

pub loop-x-preserved : goal.loop-x-preserved
loop-x-preserved c =
    let long : length c.args.intents ≡ 8 = search (mapped-length, rules) in
    let s = c.loop-x.invariant in
    let h : c.loop-x.x-index < length c.args.intents = omega (arith, long) in
    elim c.if-stays.branch [
      | then-stays w ↦ rw (w.xs-is, w.n-is) (omega (arith, s.0), counting_more s.1 no_intent h _ c.stays.ensures w.if-stays.true, filling-more s.1 no_intent h _ c.stays.ensures s.2 w.if-stays.true _ w.settled.ensures)
      | else-stays w ↦ rw (w.xs-is, w.n-is) (omega (arith, s.0), counting-skip s.1 no_intent h _ c.stays.ensures w.if-stays.false, filling_skip s.1 no_intent h _ c.stays.ensures s.2 w.if-stays.false)
    ]
