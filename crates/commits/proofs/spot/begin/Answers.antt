-- begin: nothing has ended at byte 0.
use native.Mathlib.Omega.{arith}
use mathlib.Core.Path.{refl}
use Rattle.committing.specs.Ranges.{range_at}
use Rattle.commits.specs.Spot.{range_begin, range_end, always}
use Rattle.commits.proofs.Spots.{sought-at}
use Rattle.commits.proofs.spot.begin.Goals as goal

pub returns : goal.returns
returns c =
    let a = c.args in (
      record {
        others = c.seek.ensures;
        invalids = c.seek-2.ensures;
        ranges = sought-at always (range_begin (range_at a.ranges.list.now)) (range_end (range_at a.ranges.list.now)) a.ranges.count 0 0 (λ b l. absurd (omega arith)) (λ l. (refl, c.requires.nonzero l)) c.range_at.result c.range_at.ensures;
      },
      refl,
      refl,
    )
