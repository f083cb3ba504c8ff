-- By the laws of such a loop in `Loops` of places.
use mathlib.Core.Path.{◌≡◌}
use native.Mathlib.Omega.{arith}
use lib.ListN.{length}
use borrow.Author.Rules.{rules}
use Rattle.places.proofs.Loops.{mapped-length, mapping-none, mapping-more, mapped}
use Rattle.recovery.proofs.record.restarted.Goals as goal

pub loop-f-init : goal.loop-f-init
loop-f-init c = mapping-none _ _

pub loop-f-preserved : goal.loop-f-preserved
loop-f-preserved c =
    let long : length c.args.files ≡ 64 = search (mapped-length, rules) in
    mapping-more c.loop-f.invariant _ (omega (arith, long)) _ c.restarted.ensures

pub returns : goal.returns
returns c =
    let long : length c.args.files ≡ 64 = search (mapped-length, rules) in
    mapped c.loop-f.invariant (omega (arith, long))
