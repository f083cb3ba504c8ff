-- Rests on what `answered` makes of the file at the place that is sought, told its claim, and on what is changed there.
use Rattle.std.proofs.Common.{◌≡◌, ℕ, eqb, false, length, get_or, set, ap, ◌∙◌, rules}
use Rattle.places.proofs.Loops.{mapped-length}
use Rattle.layoutreturn.specs.OneWalk.{Claim}
use Rattle.records.proofs.Headed.{if-called, accepted-so, refused-so}
use Rattle.reports.specs.Report.{report_of}
use Rattle.wire.specs.Request.{part_of}
use Rattle.files.specs.File.{no_file}
use Rattle.layoutreturn.specs.LayoutReturn.{outcome_by, file_after, reply_by}
use Rattle.layoutreturn.specs.Answers.{claim_as}
use Rattle.layoutreturn.specs.Settled.{without_totals, claimed_outcome}
use Rattle.layoutreturn.specs.declared.Outcome.{Outcome}
use Rattle.layoutreturn.specs.declared.Settled.{Settled}
use Rattle.layoutreturn.proofs.Settling.{claimed-so}
use Rattle.layoutreturn.proofs.Refusing.{refused-leaves}
use Rattle.recovery.specs.Record.{with_files, with_head}
use Rattle.recovery.specs.declared.record.Record.{Record}
use Rattle.recovery.specs.declared.returns.Returned.{Returned}
use Rattle.recovery.proofs.Returning.{returned_at}
use Rattle.capi.specs.LayoutReturn.{body_read, outcome_in, returned_in, stateid_for, changed_files}
use Rattle.capi.specs.Lent.{column_of}
use Rattle.capi.proofs.Parting.{after-change, returned-so, sought-so, sought-stateid}
use Rattle.capi.proofs.with_file.Goals.{then-s-eq0, else-s-eq0}
use Rattle.capi.proofs.with_file.Goals as goal

pub returns : goal.returns
unfolding changed_files
returns c =
    let long : length c.args.r.now.files ≡ 64 = search (mapped-length, rules) in
    let r = c.args.r.now in
    let i = c.position-i.result in
    let n = c.args.file in
    let len = c.args.len in
    let k = c.args.client in
    let q = c.args.request.now in
    let s = c.answered-s.result in
    let e = c.answered-s.ensures in
    let f = get_or r.files i no_file in
    let out : Outcome = outcome_by n r.head k q f (body_read r.head len) in
    let is-out : claimed_outcome r.head k (claim_as c.claim_at-c.result) (report_of (part_of len q)) f ≡ out =
    ap (λ (x : Claim). claimed_outcome r.head k x (report_of (part_of len q)) f) c.claim_at-c.ensures ∙ claimed-so n r.head k q f len in
    let so : returned_at r i out ≡ returned_in n len k q r =
    ap (λ (j : ℕ). returned_at r j (outcome_in n len k q r (get_or r.files j no_file))) c.position-i.ensures.0 ∙ sought-so n len k q r long in
    let said : s ≡ without_totals out = e.0 ∙ ap without_totals is-out in
    let stays : (eqb out.status 0 ≡ false → file_after f out ≡ f) = refused-leaves n r.head k q f (body_read r.head len) in
    let own : s.stateid ≡ stateid_for n len k q r =
    ap (λ (x : Settled). x.stateid) said ∙ ap (λ (j : ℕ). (outcome_in n len k q r (get_or r.files j no_file)).stateid) c.position-i.ensures.0 ∙ sought-stateid n len k q r long in
    let changed : c.if-s-eq0.r ≡ if-called (eqb s.status 0) (changed_files r i s) r =
    elim c.if-s-eq0.branch [
      | then-s-eq0 w ↦ accepted-so _ _ _ _ w.if-s-eq0.true (w.r-is ∙ ap (λ g. with_files (set r.files i g) r) w.change.ensures)
      | else-s-eq0 w ↦ refused-so _ _ _ _ w.if-s-eq0.false w.r-is
    ] in (
      ap (λ (x : Settled). x.status) said ∙ ap (λ (a : Returned). a.status) so,
      ap (λ (z : Record). with_head s.head z) changed ∙ ap (after-change r i) said ∙ returned-so r i out stays ∙ ap (λ (a : Returned). a.after) so,
      e.1 ∙ ap (λ t. reply_by s.status t c.args.reply.now) own,
      e.2 ∙ ap (λ (x : Outcome). column_of x.totals.read.bytes c.args.read.now) is-out ∙ ap (λ (a : Returned). column_of a.totals.read.bytes c.args.read.now) so,
      e.3 ∙ ap (λ (x : Outcome). column_of x.totals.written.bytes c.args.written.now) is-out ∙ ap (λ (a : Returned). column_of a.totals.written.bytes c.args.written.now) so,
      e.4 ∙ ap (λ (x : Outcome). x.totals.read.over) is-out ∙ ap (λ (a : Returned). a.totals.read.over) so,
      e.5 ∙ ap (λ (x : Outcome). x.totals.written.over) is-out ∙ ap (λ (a : Returned). a.totals.written.over) so,
    )
