-- Rests on a file changed and counted, and on all of them.
use Rattle.std.proofs.Common.{◌≡◌, length, rules}
use Rattle.places.proofs.Loops.{mapped-length}
use Rattle.capi.proofs.Whole.{ended-next, ended-all}
use Rattle.capi.proofs.end_each.Goals as goal

pub loop-f-preserved : goal.loop-f-preserved
loop-f-preserved c =
    let long : length c.args.r.now.files ≡ 64 = search (mapped-length, rules) in
    ended-next c.args.r.now long c.loop-f.f-index c.loop-f-test.true c.loop-f.f-items c.loop-f.head _ c.counted-head.result c.loop-f.invariant.0 c.loop-f.invariant.1 c.end_file.ensures c.counted-head.ensures

pub returns : goal.returns
returns c =
    let long : length c.args.r.now.files ≡ 64 = search (mapped-length, rules) in
    ended-all c.args.r.now long c.loop-f.f-index c.loop-f-test.false c.loop-f.f-items c.loop-f.head c.loop-f.invariant.0 c.loop-f.invariant.1
