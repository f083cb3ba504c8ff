-- Rests on whether a file uses the `other`, and on the method of `File`, put back at the place that is sought.
use Rattle.std.proofs.Common.{◌≡◌, Bool, length, get_or, sym, ap, ◌∙◌, rules}
use Rattle.places.proofs.Loops.{mapped-length}
use Rattle.wire.specs.declared.stateid.Stateid.{Stateid}
use Rattle.wire.specs.Stateid.{new_stateid}
use Rattle.files.specs.Answers.{answered_as}
use Rattle.files.specs.File.{no_file, stated_file}
use Rattle.recovery.specs.Record.{is_barred, set_up_of}
use Rattle.capi.proofs.OnFile.{kept-so}
use Rattle.capi.proofs.SetUp.{barred-in, barred-by-file}
use Rattle.capi.proofs.sc_record_set_up_stateid.Goals.{then-bad_other, else-bad_other}
use Rattle.capi.proofs.sc_record_set_up_stateid.Goals as goal

pub returns : goal.returns
unfolding set_up_of
returns c =
    let long : length c.args.r.now.files ≡ 64 = search (mapped-length, rules) in
    let r = c.args.r.now in
    let s = c.args.other.now in
    let barred : c.if-bad_other.barred ≡ is_barred s r.files =
    elim c.if-bad_other.branch [
      | then-bad_other w ↦ w.barred-is ∙ w.if-bad_other.true ∙ barred-in s r.files (sym c.bad_other.ensures ∙ w.if-bad_other.true)
      | else-bad_other w ↦ w.barred-is ∙ w.used-barred.ensures ∙ barred-by-file s r.files c.begun-t.result c.begun-t.ensures (sym c.bad_other.ensures ∙ w.if-bad_other.false)
    ] in
    let i = c.position-i.result in
    let f = get_or r.files i no_file in
    let so =
    kept-so c.args.file (stated_file c.args.file r.head c.args.client (new_stateid s) (is_barred s r.files)) r long i c.position-i.ensures.0 (answered_as r.head f c.set_up_stateid-s.result)
    (c.set_up_stateid-s.ensures ∙ ap (λ (t : Stateid). stated_file c.args.file r.head c.args.client t c.if-bad_other.barred f) c.begun-t.ensures ∙ ap (λ (b : Bool). stated_file c.args.file r.head c.args.client (new_stateid s) b f) barred) in
    (c.put.ensures.0 ∙ so.0, c.put.ensures.1 ∙ so.1)
