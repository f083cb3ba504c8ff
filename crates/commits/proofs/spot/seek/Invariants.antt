-- seek: all rows of the kind before i end at x or sooner.
use lib.ListN.{length}
use Rattle.commits.specs.Spot.{number_in, end_in, is_kind}
use Rattle.commits.proofs.Spots.{Before}
use Rattle.commits.proofs.spot.seek.Given as goal

abbrev pub invariant-loop-i : goal.invariant-loop-i
invariant-loop-i l = Before (is_kind (number_in l.rows.states.now) l.inv) (number_in l.rows.offsets.now) (end_in l.rows.offsets.now l.rows.lengths.now) (length l.rows.offsets.now) l.x l.i
