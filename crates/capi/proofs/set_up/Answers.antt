-- Rests on a turn, and on all of them.
use Rattle.std.proofs.Common.{◌≡◌, length, map, ap, ◌∙◌, arith, rules}
use Rattle.places.proofs.Loops.{mapped-length}
use Rattle.records.proofs.Each.{done-turn, done-all}
use Rattle.files.specs.File.{no_file}
use Rattle.files.specs.declared.head.Head.{Head}
use Rattle.recovery.specs.Record.{with_head, with_files}
use Rattle.capi.specs.Whole.{emptied_file}
use Rattle.capi.proofs.Whole.{fresh-so}
use Rattle.capi.proofs.set_up.Goals as goal

pub loop-f-preserved : goal.loop-f-preserved
loop-f-preserved c =
    let long : length c.args.r.now.files ≡ 64 = search (mapped-length, rules) in
    done-turn emptied_file c.loop-f.f-index c.args.r.now.files no_file (omega (arith, long)) c.loop-f.f-items c.loop-f.invariant _ c.blank.ensures

pub returns : goal.returns
returns c =
    let long : length c.args.r.now.files ≡ 64 = search (mapped-length, rules) in
    let r = c.args.r.now in
    ap (λ fs. with_head c.fresh-r.result (with_files fs r)) (c.loop-f.invariant ∙ done-all emptied_file c.loop-f.f-index r.files (omega (arith, long)))
    ∙ ap (λ (h : Head). with_head h (with_files (map emptied_file r.files) r)) c.fresh-r.ensures
    ∙ fresh-so c.args.edition r long
