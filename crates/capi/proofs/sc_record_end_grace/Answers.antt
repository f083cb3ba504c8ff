-- Rests on each file ended and counted, under the head in which none is counted.
use Rattle.std.proofs.Common.{◌≡◌, length, ◌∙◌, rules}
use Rattle.places.proofs.Loops.{mapped-length}
use Rattle.capi.proofs.Whole.{ended_so, out-of-grace}
use Rattle.capi.proofs.sc_record_end_grace.Goals as goal

pub returns-then-not-r : goal.returns-then-not-r
returns-then-not-r c = let so = out-of-grace c.args.r.now c.if-not-r.true in (c.from.ensures ∙ so.0, so.1)

pub returns : goal.returns
returns c =
    let long : length c.args.r.now.files ≡ 64 = search (mapped-length, rules) in
    let so = ended_so c.args.r.now long c.if-not-r.false in
    (so.0, c.end_each.ensures ∙ so.1)
