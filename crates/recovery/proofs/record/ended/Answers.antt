-- By the laws of such a loop in `Loops` of places, and by `Tallying`.
use mathlib.Core.Path.{◌≡◌}
use native.Mathlib.Omega.{arith}
use lib.ListN.{length}
use borrow.Author.Rules.{rules}
use Rattle.places.proofs.Loops.{mapped-length, mapping-none, mapping-more, mapping-length, mapped}
use Rattle.recovery.proofs.Tallying.{tallying-none, tallying-more, tallying-done}
use Rattle.recovery.proofs.record.ended.Goals as goal

pub loop-f-init : goal.loop-f-init
loop-f-init c = (mapping-none _ _, tallying-none _ _)

pub loop-f-preserved : goal.loop-f-preserved
loop-f-preserved c =
    let long : length c.args.files ≡ 64 = search (mapped-length, rules) in
    let inv = c.loop-f.invariant in
    (mapping-more inv.0 _ (omega (arith, long)) _ c.ended.ensures, tallying-more inv.1 (omega (arith, long, mapping-length inv.0)) _ c.counted-head.ensures)

pub returns : goal.returns
returns c =
    let long : length c.args.files ≡ 64 = search (mapped-length, rules) in
    let inv = c.loop-f.invariant in
    rw (tallying-done inv.1 (omega (arith, long, mapping-length inv.0)), mapped inv.0 (omega (arith, long)))
