-- Rests on what is decided of the file at the place that is sought, and done to it where it lies.
use Rattle.std.proofs.Common.{◌≡◌, length, get_or, set, ap, ◌∙◌, rules}
use Rattle.places.proofs.Loops.{mapped-length}
use Rattle.statuses.specs.Numbers.{number}
use Rattle.files.specs.Answers.{ends}
use Rattle.files.specs.File.{no_file, file_answered, closed_file, with_ended}
use Rattle.recovery.specs.Record.{with_files, close_of}
use Rattle.capi.proofs.OnFile.{unchanged, kept-so, decided-so}
use Rattle.capi.proofs.sc_record_close.Goals as goal

pub returns-in-Ok : goal.returns-in-Ok
unfolding close_of
returns-in-Ok c =
    let long : length c.args.r.now.files ≡ 64 = search (mapped-length, rules) in
    let r = c.args.r.now in
    let s = c.in-Ok.s in
    decided-so c.args.file (closed_file c.args.file r.head c.args.client) r long c.position-i.result c.position-i.ensures.0 0 s.head (with_ended s.at (ends s)) c.in-Ok.ensures (with_files (set r.files c.position-i.result c.end_intent.new.f) r) (ap (λ f. with_files (set r.files c.position-i.result f) r) c.end_intent.ensures)

pub returns-in-Err : goal.returns-in-Err
unfolding close_of
returns-in-Err c =
    let long : length c.args.r.now.files ≡ 64 = search (mapped-length, rules) in
    let r = c.args.r.now in
    let i = c.position-i.result in
    let k = number c.in-Err.status in
    let so = kept-so c.args.file (closed_file c.args.file r.head c.args.client) r long i c.position-i.ensures.0 (file_answered k r.head (get_or r.files i no_file)) c.in-Err.ensures in
    (c.from.ensures ∙ so.0, unchanged r i k ∙ so.1)
