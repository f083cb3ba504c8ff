-- Rests on the method of `File`, put back at the place that is sought.
use Rattle.std.proofs.Common.{◌≡◌, length, get_or, ◌∙◌, rules}
use Rattle.places.proofs.Loops.{mapped-length}
use Rattle.files.specs.Answers.{answered_as}
use Rattle.files.specs.File.{no_file, proxy_removed_file}
use Rattle.recovery.specs.Record.{remove_proxy_of}
use Rattle.capi.proofs.OnFile.{kept-so}
use Rattle.capi.proofs.sc_record_remove_proxy.Goals as goal

pub returns : goal.returns
unfolding remove_proxy_of
returns c =
    let long : length c.args.r.now.files ≡ 64 = search (mapped-length, rules) in
    let r = c.args.r.now in
    let i = c.position-i.result in
    let so = kept-so c.args.file (proxy_removed_file c.args.file r.head) r long i c.position-i.ensures.0 (answered_as r.head (get_or r.files i no_file) c.remove_proxy-s.result) c.remove_proxy-s.ensures in
    (c.put.ensures.0 ∙ so.0, c.put.ensures.1 ∙ so.1)
