-- next_turn: three cases.
use Rattle.std.proofs.Common.{◌≡◌, false, not, ◌&&◌, eqb, slice_index_or, ◌∙◌, le-leb}
use Rattle.std.proofs.lemmas.Bool.{lt-leb}
use Rattle.commits.specs.Spot.{number_in, over_in}
use Rattle.commits.proofs.Spots.{committed-turn, other-turn, invalid-turn}
use Rattle.commits.proofs.spot.next_turn.Goals.{else-c-x-via-then-c-x+else-b-x, else-c-x-via-else-c-x, then-c-x-2, else-c-x-2, else-a-x-via-then-a-x+else-not-p, else-a-x-via-else-a-x}
use Rattle.commits.proofs.spot.next_turn.Goals as goal

pub returns-then-b-x : goal.returns-then-b-x
returns-then-b-x c =
    let p = c.args.p in
    rw (c.min-then-b-x.ensures, c.min.ensures, c.edge.ensures) (committed-turn (number_in c.args.sts.now) p (rw (le-leb p.range.lo p.at c.if-c-x.true, le-leb p.invalid.lo p.at c.if-b-x.true)))

pub returns-then-not-p : goal.returns-then-not-p
returns-then-not-p c =
    let p = c.args.p in
    let q : (over_in p.range p.at && over_in p.invalid p.at) ≡ false = elim c.else-c-x.branch [
      | else-c-x-via-then-c-x+else-b-x w ↦ rw (le-leb p.range.lo p.at w.if-c-x.true, lt-leb p.invalid.lo p.at w.if-b-x.false)
      | else-c-x-via-else-c-x w ↦ rw (lt-leb p.range.lo p.at w.if-c-x.false)
    ] in
    let bare : c.if-c-x-2.result ≡ (over_in p.range p.at && not (eqb (slice_index_or c.args.sts.now p.other.place 0) 0)) = elim c.if-c-x-2.branch [
      | then-c-x-2 w ↦ rw (le-leb p.range.lo p.at w.if-c-x-2.true) w.result-is
      | else-c-x-2 w ↦ w.result-is ∙ rw (lt-leb p.range.lo p.at w.if-c-x-2.false)
    ] in
    rw (c.min-upto.ensures, c.min-2.ensures, c.edge-4.ensures, c.edge-3.ensures, c.edge-2.ensures, bare)
    (other-turn (number_in c.args.sts.now) p q (rw (le-leb p.other.lo p.at c.if-a-x.true, c.if-not-p.true)))

pub returns : goal.returns
returns c =
    let p = c.args.p in
    let q : (over_in p.range p.at && over_in p.invalid p.at) ≡ false = elim c.else-c-x.branch [
      | else-c-x-via-then-c-x+else-b-x w ↦ rw (le-leb p.range.lo p.at w.if-c-x.true, lt-leb p.invalid.lo p.at w.if-b-x.false)
      | else-c-x-via-else-c-x w ↦ rw (lt-leb p.range.lo p.at w.if-c-x.false)
    ] in
    let u : (over_in p.other p.at && not p.again) ≡ false = elim c.else-a-x.branch [
      | else-a-x-via-then-a-x+else-not-p w ↦ rw (le-leb p.other.lo p.at w.if-a-x.true, w.if-not-p.false)
      | else-a-x-via-else-a-x w ↦ rw (lt-leb p.other.lo p.at w.if-a-x.false)
    ] in
    rw (c.min-upto.ensures, c.min-2.ensures, c.edge-4.ensures, c.edge-3.ensures, c.edge-2.ensures, c.then_some.ensures) (invalid-turn (number_in c.args.sts.now) p q u c.requires.1)
