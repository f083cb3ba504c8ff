-- is_unfit, test by test.
use Prim.Native.Nat.{◌%◌}
use mathlib.Core.Path.{ap, ◌∙◌}
use mathlib.Core.Bool.{not}
use native.Mathlib.Omega.{arith}
use borrow.Author.Tests.{eq-eqb, ne_eqb, lt-ltb}
use Rattle.committing.proofs.Ranges.{no_bytes, too_far, offset-cut, length_cut, too-soon}
use Rattle.commits.proofs.ranges.is_unfit.Goals as goal

pub returns-then-len-eq0 : goal.returns-then-len-eq0
returns-then-len-eq0 c = let a = c.args in eq-eqb a.len 0 c.if-len-eq0.true ∙ no_bytes a.block a.before (record { offset = a.off; len = a.len }) c.if-len-eq0.true

pub returns-then-off-len : goal.returns-then-off-len
returns-then-off-len c = let a = c.args in lt-ltb _ a.len c.if-off-len.true ∙ too_far a.block a.before (record { offset = a.off; len = a.len }) c.if-len-eq0.false (omega (arith, c.if-off-len.true))

pub returns-then-off-block-ne0 : goal.returns-then-off-block-ne0
returns-then-off-block-ne0 c = let a = c.args in ap not (ne_eqb (a.off % a.block) 0 c.if-off-block-ne0.true) ∙ offset-cut a.block a.before (record { offset = a.off; len = a.len }) c.if-len-eq0.false (omega (arith, c.if-off-len.false)) c.if-off-block-ne0.true

pub returns-then-len-block-ne0 : goal.returns-then-len-block-ne0
returns-then-len-block-ne0 c = let a = c.args in ap not (ne_eqb (a.len % a.block) 0 c.if-len-block-ne0.true) ∙ length_cut a.block a.before (record { offset = a.off; len = a.len }) c.if-len-eq0.false (omega (arith, c.if-off-len.false)) c.if-off-block-ne0.false c.if-len-block-ne0.true

pub returns-else-len-block-ne0 : goal.returns-else-len-block-ne0
returns-else-len-block-ne0 c = let a = c.args in too-soon a.block a.before (record { offset = a.off; len = a.len }) c.if-len-eq0.false (omega (arith, c.if-off-len.false)) c.if-off-block-ne0.false c.if-len-block-ne0.false
