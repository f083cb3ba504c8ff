-- By the claim of step 4.
use Rattle.std.proofs.Common.{◌∙◌}
use Rattle.layoutreturn.specs.OneWalk.{assessed_by}
use Rattle.layoutreturn.proofs.Refusals.{refusal}
use Rattle.layoutreturn.proofs.assessed.Goals as goal

pub returns-in-Err : goal.returns-in-Err
unfolding assessed_by
returns-in-Err c = c.only.ensures ∙ rw (c.from.ensures, c.in-Err.is, refusal c.in-Err.status)

pub returns : goal.returns
unfolding assessed_by
returns c = rw (c.in_default.is, ← c.assess-a.ensures) c.taken.ensures
