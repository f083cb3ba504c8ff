-- Where a body is read, `OneWalk` says that what was assessed is the outcome.
use Rattle.std.proofs.Common.{◌≡◌, refl, ap, ◌∙◌, Ok}
use Rattle.layoutreturn.specs.Answers.{numbered_as}
use Rattle.layoutreturn.specs.LayoutReturn.{ReadBody, ReturnBody}
use Rattle.layoutreturn.proofs.OneWalk.{outcome_assessed}
use Rattle.layoutreturn.proofs.outcome_by.Goals as goal

pub returns-in-ReadBody : goal.returns-in-ReadBody
returns-in-ReadBody c =
    let is : numbered_as c.args.d ≡ ReadBody c.in-ReadBody.len = ap numbered_as c.in-Ok.is ∙ ap (λ y. numbered_as (Ok y)) c.in-ReadBody.is in
    rw is (c.read_outcome.ensures ∙ outcome_assessed _ _ _ _ _ (ReadBody c.in-ReadBody.len) refl)

pub returns-in-ReturnBody : goal.returns-in-ReturnBody
returns-in-ReturnBody c =
    let is : numbered_as c.args.d ≡ ReturnBody c.in-ReturnBody.len = ap numbered_as c.in-Ok.is ∙ ap (λ y. numbered_as (Ok y)) c.in-ReturnBody.is in
    rw is (c.read_outcome-in-ReturnBody.ensures ∙ outcome_assessed _ _ _ _ _ (ReturnBody c.in-ReturnBody.len) refl)
