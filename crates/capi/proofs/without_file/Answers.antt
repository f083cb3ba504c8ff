-- The reply is what `reply` promises of no stateid; no totals are handed out.
use Rattle.std.proofs.Common.{refl, ap, ◌∙◌}
use Rattle.wire.specs.declared.stateid.Stateid.{Stateid}
use Rattle.layoutreturn.specs.LayoutReturn.{reply_by}
use Rattle.capi.proofs.Settling.{none_over}
use Rattle.capi.proofs.without_file.Goals as goal

pub returns : goal.returns
returns c =
    let a = c.args in
    let h = c.hand_out_none.ensures in
    (refl, c.reply.ensures ∙ ap (λ (t : Stateid). reply_by a.status t a.reply.now) c.none.ensures, h.0, h.1, h.2 ∙ none_over, h.3 ∙ none_over)
