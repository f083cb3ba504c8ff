-- Rests on the two halves: with a file where one is wanted, and without.
use Rattle.std.proofs.Common.{◌≡◌, length, Ok, Err, sym, ap, ◌∙◌}
use Rattle.mirroring.specs.Totals.{no_totals}
use Rattle.layoutreturn.specs.LayoutReturn.{decision_of, reply_by}
use Rattle.recovery.specs.LayoutReturn.{returning, layoutreturn_of, reply_after, stateid_by}
use Rattle.recovery.specs.declared.returns.Returned.{Returned}
use Rattle.capi.specs.LayoutReturn.{begun_of, returned_in, stateid_for}
use Rattle.capi.specs.Lent.{column_of}
use Rattle.capi.proofs.Parting.{wanted-so, stateid-wanted, unwanted-so, stateid-unwanted}
use Rattle.capi.proofs.sc_record_layoutreturn.Goals as goal

pub returns-in-Ok : goal.returns-in-Ok
unfolding reply_after
returns-in-Ok c =
    let r = c.args.r.now in
    let n = c.args.file in
    let k = c.args.client in
    let q = c.args.request.now in
    let d = c.args.reply.now in
    let p = c.with_file.ensures in
    let len = c.in-Ok.len in
    let w : begun_of (decision_of r.head q (length d)) ≡ Ok len = sym c.begin.ensures ∙ c.in-Ok.is in
    let so : returned_in n len k q r ≡ layoutreturn_of n k q d r = wanted-so n k q d r len w in
    let own : stateid_for n len k q r ≡ stateid_by n k q r (decision_of r.head q (length d)) = stateid-wanted n k q d r len w in
    let said = p.0 ∙ ap (λ (a : Returned). a.status) so in (
      said,
      p.1 ∙ ap (λ (a : Returned). a.after) so,
      p.2 ∙ ap (λ t. reply_by c.with_file.result t d) own ∙ ap (λ z. reply_by z (stateid_by n k q r (decision_of r.head q (length d))) d) said,
      p.3 ∙ ap (λ (a : Returned). column_of a.totals.read.bytes c.args.read.now) so,
      p.4 ∙ ap (λ (a : Returned). column_of a.totals.written.bytes c.args.written.now) so,
      p.5 ∙ ap (λ (a : Returned). a.totals.read.over) so,
      p.6 ∙ ap (λ (a : Returned). a.totals.written.over) so,
    )

pub returns-in-Err : goal.returns-in-Err
unfolding reply_after
returns-in-Err c =
    let r = c.args.r.now in
    let n = c.args.file in
    let k = c.args.client in
    let q = c.args.request.now in
    let d = c.args.reply.now in
    let p = c.without_file.ensures in
    let z = c.in-Err.status in
    let w : begun_of (decision_of r.head q (length d)) ≡ Err z = sym c.begin.ensures ∙ c.in-Err.is in
    let so : returning z no_totals r ≡ layoutreturn_of n k q d r = unwanted-so n k q d r z w in (
      p.0 ∙ ap (λ (a : Returned). a.status) so,
      ap (λ (a : Returned). a.after) so,
      p.1 ∙ ap (λ t. reply_by z t d) (stateid-unwanted n k q d r (decision_of r.head q (length d)) z w) ∙ ap (λ (a : Returned). reply_by a.status (stateid_by n k q r (decision_of r.head q (length d))) d) so,
      p.2 ∙ ap (λ (a : Returned). column_of a.totals.read.bytes c.args.read.now) so,
      p.3 ∙ ap (λ (a : Returned). column_of a.totals.written.bytes c.args.written.now) so,
      p.4 ∙ ap (λ (a : Returned). a.totals.read.over) so,
      p.5 ∙ ap (λ (a : Returned). a.totals.written.over) so,
    )
