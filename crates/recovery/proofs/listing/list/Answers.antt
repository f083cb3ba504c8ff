-- By the laws of such a loop in `Loops` of places, and by `Listings`.
use mathlib.Core.Path.{◌≡◌, refl}
use Prim.Native.Nat.{◌≤◌, ◌<◌}
use native.Mathlib.Omega.{arith}
use lib.ListN.{length}
use Rattle.places.proofs.Loops.{counting-none, counting-skip, counting_more, counting-room, filling-none, filling_skip, filling-more, filling-length, filled}
use Rattle.recovery.proofs.Listings.{short-numbers, short-sources, both-filled}
use Rattle.recovery.proofs.listing.list.Goals.{then-has, else-has, then-numbers-n-via-then-numbers-n, then-numbers-n-via-else-numbers-n+then-sources-n}
use Rattle.recovery.proofs.listing.list.Goals as goal

pub returns-then-numbers-n : goal.returns-then-numbers-n
returns-then-numbers-n c =
    let n = c.counted-n.ensures in
    elim c.then-numbers-n.branch [
      | then-numbers-n-via-then-numbers-n w ↦ short-numbers _ _ _ n w.if-numbers-n.true
      | then-numbers-n-via-else-numbers-n+then-sources-n w ↦ short-sources _ _ _ n w.if-numbers-n.false w.if-sources-n.true
    ]

pub loop-f-init : goal.loop-f-init
loop-f-init c = (omega arith, counting-none _ _, filling-none _ _ _ _, filling-none _ _ _ _)

pub bounds-numbers-k : goal.bounds-numbers-k
bounds-numbers-k c =
    -- there is room for one more
    let room : c.loop-f.k < c.counted-n.result = omega (arith, c.counted-n.ensures, counting-room c.loop-f.invariant.1 _ (omega arith) _ c.has.ensures c.if-has.true) in
    omega (arith, room, filling-length c.loop-f.invariant.2)

pub bounds-sources-k : goal.bounds-sources-k
bounds-sources-k c =
    -- there is room for one more
    let room : c.loop-f.k < c.counted-n.result = omega (arith, c.counted-n.ensures, counting-room c.loop-f.invariant.1 _ (omega arith) _ c.has.ensures c.if-has.true) in
    omega (arith, room, filling-length c.loop-f.invariant.3)

pub loop-f-preserved : goal.loop-f-preserved
loop-f-preserved c =
    let l = c.loop-f.invariant in
    let h : c.loop-f.f-index < length c.args.files.now = omega arith in
    let t = c.has.ensures in
    elim c.if-has.branch [
      | then-has w ↦ rw (w.k-is, w.numbers-is, w.sources-is) (
        omega arith,
        counting_more l.1 _ h _ t w.if-has.true,
        filling-more l.1 _ h _ t l.2 w.if-has.true _ refl,
        filling-more l.1 _ h _ t l.3 w.if-has.true _ w.source.ensures,
      )
      | else-has w ↦ rw (w.k-is, w.numbers-is, w.sources-is) (
        omega arith,
        counting-skip l.1 _ h _ t w.if-has.false,
        filling_skip l.1 _ h _ t l.2 w.if-has.false,
        filling_skip l.1 _ h _ t l.3 w.if-has.false,
      )
    ]

pub returns : goal.returns
returns c =
    let h : length c.args.files.now ≤ c.loop-f.f-index = omega arith in
    both-filled _ _ _ c.counted-n.ensures _ _ c.if-numbers-n.false c.if-sources-n.false (filled c.loop-f.invariant.2 h) (filled c.loop-f.invariant.3 h)
