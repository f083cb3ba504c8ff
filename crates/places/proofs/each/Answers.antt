-- By the laws of such a loop in `Loops`.
use Rattle.std.proofs.Common.{rules, ◌≡◌, length}
use native.Mathlib.Omega.{arith}
use Rattle.places.proofs.Loops.{mapped-length, mapping-none, mapping-more, mapped}
use Rattle.places.proofs.each.Goals as goal

pub loop-i-init : goal.loop-i-init
loop-i-init g c = λ h k. mapping-none _ _

pub loop-i-preserved : goal.loop-i-preserved
loop-i-preserved g c = λ h k.
    let long : length c.args.xs ≡ g.row.N = search (mapped-length, rules) in
    mapping-more (c.loop-i.invariant h k) c.index-ys-i.result (omega (arith, long)) _ (k _ _ c.f.ensures)

pub returns : goal.returns
returns g c = λ h k.
    let long : length c.args.xs ≡ g.row.N = search (mapped-length, rules) in
    mapped (c.loop-i.invariant h k) (omega (arith, long))
