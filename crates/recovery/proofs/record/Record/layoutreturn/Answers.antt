-- The law of LAYOUTRETURN at a place, at the place that is asked.
use mathlib.Core.Path.{◌≡◌, ap, ◌∙◌}
use lib.ListN.{length}
use Rattle.layoutreturn.specs.Answers.{numbered_as}
use Rattle.layoutreturn.specs.LayoutReturn.{Decision, decision_of}
use Rattle.layoutreturn.specs.declared.Outcome.{Outcome}
use Rattle.recovery.specs.LayoutReturn.{layoutreturn_of, stateid_by, reply_after}
use Rattle.recovery.proofs.Returning.{Placed, returned_at, placed-for, returned-at, stateid-at}
use Rattle.recovery.proofs.record.Record.layoutreturn.Goals as goal

pub returns : goal.returns
unfolding reply_after
returns c =
    let answered = c in
    let placed = answered in
    let a = placed.args in
    let i = placed.place_for-i.result in
    let numbered = placed.numbered-d in
    let d : Decision = numbered_as numbered.result in
    let decided : d ≡ decision_of a.self.head a.request.now (length a.reply.now) = numbered.ensures ∙ placed.decide-decided.ensures in
    let at : Placed a.file a.self i d = placed-for a.file a.self i d placed.place_for-i.ensures.0 in
    let q : returned_at a.self i answered.answer-o.result ≡ layoutreturn_of a.file a.client a.request.now a.reply.now a.self =
    ap (returned_at a.self i) answered.answer-o.ensures.0
    ∙ returned-at a.file a.client a.request.now a.reply.now a.self i d decided at in
    let t : answered.answer-o.result.stateid ≡ stateid_by a.file a.client a.request.now a.self (decision_of a.self.head a.request.now (length a.reply.now)) =
    ap (λ (o : Outcome). o.stateid) answered.answer-o.ensures.0
    ∙ stateid-at a.file a.client a.request.now a.reply.now a.self i d decided at in
    (rw c.apply-g.ensures q, rw (← q, ← t) answered.answer-o.ensures.1)
