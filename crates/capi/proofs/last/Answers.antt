-- Rests on a turn, which stops or goes on, and on where no turn is left.
use Rattle.std.proofs.Common.{refl, sym, ◌∙◌}
use Rattle.capi.specs.Whole.{last_sought}
use Rattle.capi.proofs.Whole.{last-stops, last-goes, last-none}
use Rattle.capi.proofs.last.Goals as goal

pub loop-i-init : goal.loop-i-init
unfolding last_sought
loop-i-init c = refl

pub loop-i-preserved : goal.loop-i-preserved
loop-i-preserved c = sym (last-goes c.args.r.now.files 63 c.loop-i.i c.loop-i-test.true (sym c.free.ensures ∙ c.if-free.false)) ∙ c.loop-i.invariant

pub returns : goal.returns
returns c = last-none c.args.r.now c.args.at c.loop-i.i c.max.result c.max.ensures c.loop-i.auto.i-end c.loop-i-test.false c.loop-i.invariant

pub returns-then-free : goal.returns-then-free
returns-then-free c = sym (last-stops c.args.r.now.files 63 c.loop-i.i c.loop-i-test.true (sym c.free.ensures ∙ c.if-free.true)) ∙ c.loop-i.invariant
