-- Rests on what is decided of the file at the place that is sought, and done to it where it lies.
use Rattle.std.proofs.Common.{◌≡◌, length, get_or, set, ap, ◌∙◌, rules}
use Rattle.places.proofs.Loops.{mapped-length}
use Rattle.statuses.specs.Numbers.{number}
use Rattle.files.specs.Answers.{begins}
use Rattle.files.specs.File.{no_file, file_answered, opened_file, with_begun}
use Rattle.recovery.specs.Record.{with_files, open_of}
use Rattle.capi.proofs.OnFile.{unchanged, kept-so, decided-so}
use Rattle.capi.proofs.sc_record_open.Goals as goal

pub returns-in-Ok-Some : goal.returns-in-Ok-Some
unfolding open_of
returns-in-Ok-Some c =
    let long : length c.args.r.now.files ≡ 64 = search (mapped-length, rules) in
    let r = c.args.r.now in
    let s = c.in-Ok-Some.s in
    decided-so c.args.file (opened_file c.args.file r.head c.args.client) r long c.position-i.result c.position-i.ensures.0 0 s.head (with_begun s.at (begins s)) (rw c.in-Ok-Some.field-0-is at c.in-Ok-Some.ensures) (with_files (set r.files c.position-i.result c.begin_intent.new.f) r) (ap (λ f. with_files (set r.files c.position-i.result f) r) c.begin_intent.ensures)

pub returns-in-Ok-None : goal.returns-in-Ok-None
unfolding open_of
returns-in-Ok-None c =
    let long : length c.args.r.now.files ≡ 64 = search (mapped-length, rules) in
    let r = c.args.r.now in
    let i = c.position-i.result in
    let so = kept-so c.args.file (opened_file c.args.file r.head c.args.client) r long i c.position-i.ensures.0 (file_answered 0 r.head (get_or r.files i no_file)) (rw c.in-Ok-None.field-0-is at c.in-Ok-None.ensures) in
    (so.0, unchanged r i 0 ∙ so.1)

pub returns-in-Err : goal.returns-in-Err
unfolding open_of
returns-in-Err c =
    let long : length c.args.r.now.files ≡ 64 = search (mapped-length, rules) in
    let r = c.args.r.now in
    let i = c.position-i.result in
    let k = number c.in-Err.status in
    let so = kept-so c.args.file (opened_file c.args.file r.head c.args.client) r long i c.position-i.ensures.0 (file_answered k r.head (get_or r.files i no_file)) c.in-Err.ensures in
    (c.from.ensures ∙ so.0, unchanged r i k ∙ so.1)
