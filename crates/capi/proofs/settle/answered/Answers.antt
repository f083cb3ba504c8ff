-- By the claim, and by the status of steps 5 and 6: `Settling` puts together what the calls promise.
use Rattle.std.proofs.Common.{◌≡◌, Bool, not, eqb, sym, ap, ◌∙◌}
use Rattle.reports.specs.Report.{Report, report_of}
use Rattle.reports.specs.StatisticsSteps.{statistics_from}
use Rattle.wire.specs.Request.{part_of}
use Rattle.mirroring.specs.Blame.{change_in, assessment_of, settled_of, tallied_of}
use Rattle.mirroring.specs.declared.blame.Change.{Change}
use Rattle.mirroring.specs.declared.totals.Totals.{Totals}
use Rattle.statuses.specs.Numbers.{number, code}
use Rattle.layoutreturn.specs.Answers.{claim_as}
use Rattle.layoutreturn.specs.OneWalk.{Claim}
use Rattle.layoutreturn.proofs.Refusals.{refusal}
use Rattle.layoutreturn.specs.LayoutReturn.{reply_by}
use Rattle.layoutreturn.specs.Settled.{refused_as, later_of, counts_if, is_silent}
use Rattle.layoutreturn.specs.declared.Settled.{Settled}
use Rattle.capi.specs.Lent.{column_of}
use Rattle.capi.proofs.Settling.{barred-so, barred-totals, settled-refused, settled-accepted, settled-totals, and-later, none_over}
use Rattle.capi.proofs.settle.answered.Goals as goal

pub returns-in-Err : goal.returns-in-Err
returns-in-Err c =
    let a = c.args in
    let x : Claim = claim_as a.c in
    let h = c.hand_out_none.ensures in
    let p : Report = report_of (part_of a.len a.request.now) in
    let z = ap (λ r. eqb (code r) 0) c.in-Err.is ∙ refusal c.in-Err.refusal in
    let t = barred-totals a.head a.client x p a.f z in (
      c.refused.ensures.0 ∙ ap (λ y. refused_as y a.head a.client) (sym (ap (λ r. code r) c.in-Err.is)) ∙ barred-so a.head a.client x p a.f z,
      c.refused.ensures.1 ∙ ap (λ (y : Settled). reply_by y.status y.stateid a.reply.now) (sym c.refused.ensures.0),
      h.0 ∙ ap (λ (u : Totals). column_of u.read.bytes a.read.now) t,
      h.1 ∙ ap (λ (u : Totals). column_of u.written.bytes a.written.now) t,
      h.2 ∙ none_over ∙ ap (λ (u : Totals). u.read.over) t,
      h.3 ∙ none_over ∙ ap (λ (u : Totals). u.written.over) t,
    )

pub returns-in-Err-and : goal.returns-in-Err-and
returns-in-Err-and c =
    let a = c.args in
    let own : Claim = claim_as a.c in
    let body = c.part-body in
    let e = c.blamed-e in
    let sums = c.tally_out-form.ensures in
    let x : Change = change_in e.result in
    let p : Report = report_of (part_of a.len a.request.now) in
    let tail : Report = statistics_from body.result.now e.result.next in
    let passes = ap (λ r. eqb (code r) 0) c.in_default.is in
    let told : settled_of a.f.mirrors x tail ≡ assessment_of a.f.mirrors p = e.ensures ∙ ap (λ y. assessment_of a.f.mirrors (report_of y)) body.ensures in
    let silent : Bool = is_silent a.head (not a.head.grace) in
    let counts : c.counting-counts.result ≡ counts_if x.unknown own.late silent = c.counting-counts.ensures ∙ ap (λ b. counts_if x.unknown own.late b) c.silent_in.ensures in
    let is : code c.and.result ≡ later_of (tallied_of a.f.mirrors (counts_if x.unknown own.late silent) tail).status own.late =
    ap (λ r. code r) c.and.ensures ∙ and-later c.tally_out-form.result a.c.late ∙ ap (λ y. later_of y own.late) (sums.0 ∙ ap (λ b. (tallied_of a.f.mirrors b tail).status) counts) in
    let k : number c.in-Err-and.refusal ≡ code c.and.result = sym (ap (λ r. code r) c.in-Err-and.is) in
    let z = ap (λ y. eqb y 0) (sym (k ∙ is)) ∙ refusal c.in-Err-and.refusal in
    let t = ap (λ b. (tallied_of a.f.mirrors b tail).totals) counts ∙ settled-totals a.head a.client own p a.f x tail passes told in (
      c.refused-in-Err-and.ensures.0 ∙ ap (λ y. refused_as y a.head a.client) (k ∙ is) ∙ settled-refused a.head a.client own p a.f x tail passes told z,
      c.refused-in-Err-and.ensures.1 ∙ ap (λ (y : Settled). reply_by y.status y.stateid a.reply.now) (sym c.refused-in-Err-and.ensures.0),
      sums.1 ∙ ap (λ (u : Totals). column_of u.read.bytes a.read.now) t,
      sums.2 ∙ ap (λ (u : Totals). column_of u.written.bytes a.written.now) t,
      sums.3 ∙ ap (λ (u : Totals). u.read.over) t,
      sums.4 ∙ ap (λ (u : Totals). u.written.over) t,
    )

pub returns : goal.returns
returns c =
    let a = c.args in
    let own : Claim = claim_as a.c in
    let body = c.part-body in
    let e = c.blamed-e in
    let sums = c.tally_out-form.ensures in
    let x : Change = change_in e.result in
    let p : Report = report_of (part_of a.len a.request.now) in
    let tail : Report = statistics_from body.result.now e.result.next in
    let passes = ap (λ r. eqb (code r) 0) c.in_default.is in
    let told : settled_of a.f.mirrors x tail ≡ assessment_of a.f.mirrors p = e.ensures ∙ ap (λ y. assessment_of a.f.mirrors (report_of y)) body.ensures in
    let silent : Bool = is_silent a.head (not a.head.grace) in
    let counts : c.counting-counts.result ≡ counts_if x.unknown own.late silent = c.counting-counts.ensures ∙ ap (λ b. counts_if x.unknown own.late b) c.silent_in.ensures in
    let is : code c.and.result ≡ later_of (tallied_of a.f.mirrors (counts_if x.unknown own.late silent) tail).status own.late =
    ap (λ r. code r) c.and.ensures ∙ and-later c.tally_out-form.result a.c.late ∙ ap (λ y. later_of y own.late) (sums.0 ∙ ap (λ b. (tallied_of a.f.mirrors b tail).status) counts) in
    let z = ap (λ y. eqb y 0) (sym is) ∙ ap (λ r. eqb (code r) 0) c.in_default-and.is in
    let t = ap (λ b. (tallied_of a.f.mirrors b tail).totals) counts ∙ settled-totals a.head a.client own p a.f x tail passes told in (
      c.accepted.ensures.0 ∙ settled-accepted a.head a.client own p a.f x tail passes told z,
      c.accepted.ensures.1 ∙ ap (λ (y : Settled). reply_by y.status y.stateid a.reply.now) (sym c.accepted.ensures.0),
      sums.1 ∙ ap (λ (u : Totals). column_of u.read.bytes a.read.now) t,
      sums.2 ∙ ap (λ (u : Totals). column_of u.written.bytes a.written.now) t,
      sums.3 ∙ ap (λ (u : Totals). u.read.over) t,
      sums.4 ∙ ap (λ (u : Totals). u.written.over) t,
    )
