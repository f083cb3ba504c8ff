-- range_at: it is there, or none is.
use native.Mathlib.Omega.{arith}
use mathlib.Core.Path.{sym, ◌∙◌}
use Rattle.committing.specs.Ranges.{range_at}
use Rattle.commits.specs.Spot.{range_begin, range_end}
use Rattle.commits.proofs.Spots.{span-there, span_none}
use Rattle.commits.proofs.spot.range_at.Goals as goal

pub returns-then-k-ranges : goal.returns-then-k-ranges
returns-then-k-ranges c =
    let a = c.args in
    rw (c.get-lo.ensures.0, c.get-lo.ensures.1) (sym (span-there (range_begin (range_at a.ranges.list.now)) (range_end (range_at a.ranges.list.now)) a.ranges.count a.k (omega (arith, c))))

pub returns : goal.returns
returns c =
    let a = c.args in
    c.none.ensures ∙ sym (span_none (range_begin (range_at a.ranges.list.now)) (range_end (range_at a.ranges.list.now)) a.ranges.count a.k (omega arith))
