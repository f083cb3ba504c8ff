-- next_row: p still, or the next of its kind.
use native.Mathlib.Omega.{arith}
use lib.ListN.{length}
use Rattle.commits.specs.Spot.{number_in, end_in, is_kind}
use Rattle.commits.proofs.Spots.{still-there, passed-by}
use Rattle.commits.proofs.spot.next_row.Goals as goal

pub returns-then-x-p : goal.returns-then-x-p
returns-then-x-p c =
    let a = c.args in
    still-there (is_kind (number_in a.rows.states.now) a.inv) (number_in a.rows.offsets.now) (end_in a.rows.offsets.now a.rows.lengths.now) (length a.rows.offsets.now) a.x a.p c.requires.left (omega (arith, c))

pub seek-requires-clause-by_index_2 : goal.seek-requires-clause-by_index_2
seek-requires-clause-by_index_2 c =
    let a = c.args in
    passed-by (is_kind (number_in a.rows.states.now) a.inv) (number_in a.rows.offsets.now) (end_in a.rows.offsets.now a.rows.lengths.now) (length a.rows.offsets.now) a.x a.p c.requires.left (omega (arith, c))
