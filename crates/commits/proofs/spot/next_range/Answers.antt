-- next_range: p still, or the one after it.
use native.Mathlib.Omega.{arith}
use mathlib.Core.Path.{refl}
use Prim.Native.Nat.{◌+◌}
use Rattle.committing.specs.Ranges.{range_at}
use Rattle.commits.specs.Spot.{range_begin, range_end, always}
use Rattle.commits.proofs.Spots.{still-there, passed-by, sought-at}
use Rattle.commits.proofs.spot.next_range.Goals as goal

pub returns-then-x-p : goal.returns-then-x-p
returns-then-x-p c =
    let a = c.args in
    still-there always (range_begin (range_at a.ranges.list.now)) (range_end (range_at a.ranges.list.now)) a.ranges.count a.x a.p c.requires.left (omega (arith, c))

pub returns : goal.returns
returns c =
    let a = c.args in
    sought-at always (range_begin (range_at a.ranges.list.now)) (range_end (range_at a.ranges.list.now)) a.ranges.count a.x (a.p.place + 1) (passed-by always (range_begin (range_at a.ranges.list.now)) (range_end (range_at a.ranges.list.now)) a.ranges.count a.x a.p c.requires.left (omega (arith, c))) (λ l. (refl, c.requires.x_bound l)) c.range_at.result c.range_at.ensures
