-- lines stores one more line at each turn.
use native.Mathlib.Nat.{zero-add}
use native.Mathlib.Numerals.{add-one}
use Rattle.listings.proofs.Texts.{none_yet, long, and_then, said_so, line-ends, line-more}
use Rattle.listings.specs.Text.{line_of, lines_of}
use Rattle.layouts.proofs.Bodies.{given, located}
use Rattle.layouts.specs.Layout.{Row, row_at, got, got_of}
use Rattle.extents.proofs.Turns.{one_more}
use Rattle.extents.specs.Extents.{list_from}
use Rattle.std.proofs.Common.{Ok, ◌≡◌, ap, sym, ◌∙◌}
use native.Mathlib.Omega.{arith}
use Rattle.listings.proofs.text.Text.lines.Goals as goal

pub loop-i-init : goal.loop-i-init
unfolding list_from lines_of
loop-i-init c = (omega arith, none_yet c.args.self.now)

pub unwrap-got-requires : goal.unwrap-got-requires
unwrap-got-requires c =
    let i = c.loop-i.i in
    let a = c.args in
    located a.kind i (row_at a.kind a.s.now i) c.extent_in.result (c.extent_in.ensures ∙ given a.kind a.s.now a.n i c.requires.1 c.loop-i-test.true)

pub line-requires : goal.line-requires
line-requires c =
    let m = c.loop-i in
    omega (arith, m.invariant.0, long m.invariant.1)

pub loop-i-preserved : goal.loop-i-preserved
loop-i-preserved c =
    let m = c.loop-i in
    let a = c.args in
    let k = a.kind in
    let s = a.s.now in
    let p = c.line.ensures in
    let e : got_of m.i (Ok c.unwrap-got.result) ≡ got k m.i (row_at k s m.i) = ap (got_of m.i) (sym c.unwrap-got.ensures) ∙ c.extent_in.ensures ∙ given k s a.n m.i c.requires.1 c.loop-i-test.true in
    let r : Row = record { extent = c.unwrap-got.result.extent; handle = c.unwrap-got.result.handle } in
    let same : r ≡ row_at k s m.i = ap (λ x. record { extent = x.extent; handle = x.handle }) e in (
      omega (arith, line-ends k r p.put),
      rw (add-one, one_more (row_at k s) m.i 0, zero-add, line-more k (list_from (row_at k s) m.i 0) (row_at k s m.i)) (and_then m.invariant.1 (said_so (ap (line_of k) same) p)),
    )
