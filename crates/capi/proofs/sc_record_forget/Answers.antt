-- Rests on what is decided of the file at the place that is sought, and done to the files.
use Rattle.std.proofs.Common.{◌≡◌, ℕ, length, get_or, refl, ap, ◌∙◌, rules}
use Rattle.places.proofs.Loops.{mapped-length}
use Rattle.files.specs.File.{no_file, forgettable}
use Rattle.statuses.specs.Numbers.{number}
use Rattle.layoutreturn.proofs.Refusals.{refusal}
use Rattle.capi.specs.Whole.{verdict, pulled_files}
use Rattle.capi.proofs.Whole.{freed-so, kept-so}
use Rattle.capi.proofs.sc_record_forget.Goals as goal

pub returns-in-Err : goal.returns-in-Err
returns-in-Err c =
    let long : length c.args.r.now.files ≡ 64 = search (mapped-length, rules) in
    let r = c.args.r.now in
    let is = c.in-Err.ensures ∙ ap (λ j. forgettable c.args.file r.head (get_or r.files j no_file)) c.position-i.ensures.0 in
    let so = kept-so c.args.file r long (number c.in-Err.status) is (refusal c.in-Err.status) in
    (c.from.ensures ∙ so.0, so.1)

pub returns : goal.returns
returns c =
    let long : length c.args.r.now.files ≡ 64 = search (mapped-length, rules) in
    let r = c.args.r.now in
    let is = c.in_default.ensures ∙ ap (λ j. forgettable c.args.file r.head (get_or r.files j no_file)) c.position-i.ensures.0 in
    let so = freed-so c.args.file r long 0 is refl in
    (so.0, c.pull.ensures ∙ ap (λ (j : ℕ). pulled_files r j (verdict 0 r.head)) c.position-i.ensures.0 ∙ so.1)
