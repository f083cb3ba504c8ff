-- Rests on what is decided of the file at the place that is sought, and done to the files.
use Rattle.std.proofs.Common.{◌≡◌, ℕ, length, get_or, sym, ap, ◌∙◌, rules}
use Rattle.places.proofs.Loops.{mapped-length}
use Rattle.records.proofs.Headed.{if-called}
use Rattle.statuses.specs.Numbers.{number}
use Rattle.files.specs.File.{FileAnswered, no_file}
use Rattle.recovery.specs.Record.{with_head}
use Rattle.capi.specs.Place.{sought_in}
use Rattle.capi.specs.Whole.{admitted_of, entered_files, refused_with}
use Rattle.layoutreturn.proofs.Refusals.{refusal}
use Rattle.capi.proofs.Whole.{registered-so, after-entering}
use Rattle.capi.proofs.sc_record_register.Goals as goal

pub returns-in-Ok : goal.returns-in-Ok
unfolding entered_files
returns-in-Ok c =
    let long : length c.args.r.now.files ≡ 64 = search (mapped-length, rules) in
    let r = c.args.r.now in
    let i = c.position-i.result in
    let so = registered-so c.args.file c.args.mirrors.now r long in
    let at = ap (λ (j : ℕ). admitted_of c.args.file r.head c.args.mirrors.now (get_or r.files j no_file)) c.position-i.ensures.0 in (
      ap (λ (a : FileAnswered). a.status) (c.in-Ok.ensures ∙ at) ∙ so.0,
      c.enter.ensures ∙ ap (λ (a : FileAnswered). after-entering r i a) (c.in-Ok.ensures ∙ at)
          ∙ ap (λ (j : ℕ). after-entering r j (admitted_of c.args.file r.head c.args.mirrors.now (get_or r.files (sought_in c.args.file r) no_file))) c.position-i.ensures.0
          ∙ so.1,
    )

pub returns-in-Err : goal.returns-in-Err
returns-in-Err c =
    let long : length c.args.r.now.files ≡ 64 = search (mapped-length, rules) in
    let r = c.args.r.now in
    let i = c.position-i.result in
    let k = number c.in-Err.status in
    let so = registered-so c.args.file c.args.mirrors.now r long in
    let at = ap (λ (j : ℕ). admitted_of c.args.file r.head c.args.mirrors.now (get_or r.files j no_file)) c.position-i.ensures.0 in (
      c.from.ensures ∙ ap (λ (a : FileAnswered). a.status) (c.in-Err.ensures ∙ at) ∙ so.0,
      sym (ap (λ b. with_head r.head (if-called b (entered_files r i (refused_with k r.head)) r)) (refusal c.in-Err.status))
          ∙ ap (λ (a : FileAnswered). after-entering r i a) (c.in-Err.ensures ∙ at)
          ∙ ap (λ (j : ℕ). after-entering r j (admitted_of c.args.file r.head c.args.mirrors.now (get_or r.files (sought_in c.args.file r) no_file))) c.position-i.ensures.0
          ∙ so.1,
    )
