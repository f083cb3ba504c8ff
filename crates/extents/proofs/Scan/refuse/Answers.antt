-- Scan::refuse meets its contract: the two ranges are rule 3.
use Rattle.extents.specs.OnePass.{refusal_after}
use mathlib.Core.Path.{◌∙◌}
use borrow.Author.Tests.{lt-ltb, le-ltb}
use native.Mathlib.Omega.{arith}
use Rattle.extents.proofs.Scan.refuse.Goals as goal

pub returns-in-0-to-3 : goal.returns-in-0-to-3
unfolding refusal_after
returns-in-0-to-3 c = let a = c.args in c.refuse_known.ensures ∙ simp (le-ltb 3 a.e.state (omega arith))

pub returns-in-4-to-4294967295 : goal.returns-in-4-to-4294967295
unfolding refusal_after
returns-in-4-to-4294967295 c = let a = c.args in simp (lt-ltb 3 a.e.state (omega arith))
