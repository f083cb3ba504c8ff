-- seek: all rows of the kind before i end at x or sooner.
use native.Mathlib.Omega.{arith}
use mathlib.Core.Path.{sym, ◌∙◌}
use lib.ListN.{length}
use Rattle.commits.specs.Spot.{number_in, end_in, is_kind}
use Rattle.commits.proofs.Spots.{found_here, none_here}
use Rattle.commits.proofs.spot.seek.Goals as goal

pub returns-then-goes : goal.returns-then-goes
returns-then-goes c =
    let a = c.args in
    let l = c.loop-i in
    found_here (is_kind (number_in a.rows.states.now) a.inv) (number_in a.rows.offsets.now) (end_in a.rows.offsets.now a.rows.lengths.now) (length a.rows.offsets.now) a.x l.i (omega (arith, c)) l.invariant (sym c.goes.ensures ∙ (search))

pub returns : goal.returns
returns c =
    let a = c.args in
    let l = c.loop-i in
    rw c.none.ensures (none_here (is_kind (number_in a.rows.states.now) a.inv) (number_in a.rows.offsets.now) (end_in a.rows.offsets.now a.rows.lengths.now) (length a.rows.offsets.now) a.x l.i (omega (arith, c)) l.invariant)
