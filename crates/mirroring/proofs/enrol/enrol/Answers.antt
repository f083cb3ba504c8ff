-- By the laws of `Enrolling`.
use mathlib.Core.Path.{sym, ◌∙◌}
use native.Mathlib.Omega.{arith}
use Rattle.mirroring.proofs.Enrolling.{refused-whole, enrolling-none, enrolling-twice, enrolling-more, enrolled-all}
use Rattle.mirroring.proofs.enrol.enrol.Goals as goal

pub returns-then-not-whole : goal.returns-then-not-whole
returns-then-not-whole c = refused-whole _ (sym c.whole.ensures ∙ c.if-not-whole.true)

pub loop-i-init : goal.loop-i-init
loop-i-init c = enrolling-none _ (sym c.whole.ensures ∙ c.if-not-whole.false) _ c.none-ms.ensures

pub returns-then-stands : goal.returns-then-stands
returns-then-stands c = enrolling-twice c.loop-i.invariant (omega arith) c.be64-high.ensures c.be64-low.ensures (sym c.stands.ensures ∙ c.if-stands.true)

pub loop-i-preserved : goal.loop-i-preserved
loop-i-preserved c = enrolling-more c.loop-i.invariant (omega arith) c.be64-high.ensures c.be64-low.ensures (sym c.stands.ensures ∙ c.if-stands.false) _ c.new.ensures

pub returns : goal.returns
returns c = enrolled-all c.loop-i.invariant (omega arith)
