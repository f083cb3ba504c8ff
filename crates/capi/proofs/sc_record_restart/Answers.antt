-- Rests on a file restarted, and on all of them.
use Rattle.std.proofs.Common.{◌≡◌, true, length, refl, ap, ◌∙◌, arith, rules}
use Rattle.places.proofs.Loops.{mapped-length}
use Rattle.records.proofs.Each.{done-turn, done-all}
use Rattle.files.specs.File.{no_file, restarted_file}
use Rattle.recovery.specs.Record.{restart_of, with_files, with_grace}
use Rattle.capi.proofs.sc_record_restart.Goals as goal

pub loop-f-preserved : goal.loop-f-preserved
loop-f-preserved c =
    let long : length c.args.r.now.files ≡ 64 = search (mapped-length, rules) in
    done-turn restarted_file c.loop-f.f-index c.args.r.now.files no_file (omega (arith, long)) c.loop-f.f-items c.loop-f.invariant _ c.restarted.ensures

pub returns : goal.returns
unfolding restart_of
returns c =
    let long : length c.args.r.now.files ≡ 64 = search (mapped-length, rules) in
    (refl, ap (λ fs. with_grace true (with_files fs c.args.r.now)) (c.loop-f.invariant ∙ done-all restarted_file c.loop-f.f-index c.args.r.now.files (omega (arith, long))))
