-- extent_in meets its contract, test by test.
use Rattle.std.proofs.Common.{rules, ◌≡◌, Ok, Err, min, ◌∙◌, arith}
use borrow.Author.Tests.{lt-ltb, le-ltb}
use Rattle.extents.proofs.Turns.{numbered}
use Rattle.layouts.specs.Layout.{held_in, extent_in}
use Rattle.layouts.proofs.Sizes.{held-inside}
use Rattle.layouts.proofs.Bodies.{below-both}
use Rattle.layouts.proofs.layout.extent_in.Goals as goal

pub returns-in_err-n : goal.returns-in_err-n
unfolding extent_in
returns-in_err-n c =
    let r = c.in_err-n.field-0.0 in
    let e : ◌≡◌ c.from_residual.result (Err r) = search rules in
    let w : ◌≡◌ c.args.checked (Err r) = c.in_err-n.was in
    rw (e, w, numbered r.rule)

pub given-requires : goal.given-requires
given-requires c = let a = c.args in held-inside a.kind a.s.now a.i (omega (arith, c.held.ensures, c.min.ensures, c.if-i-min.true))

pub returns-then-i-min : goal.returns-then-i-min
unfolding extent_in
returns-then-i-min c =
    let a = c.args in
    let w : ◌≡◌ a.checked (Ok c.in_ok-n.n) = c.in_ok-n.was in
    c.given.ensures ∙ rw (w, below-both a.i c.in_ok-n.n (held_in a.kind a.s.now), lt-ltb a.i (min c.in_ok-n.n (held_in a.kind a.s.now)) (omega (arith, c.held.ensures, c.min.ensures, c.if-i-min.true)))

pub returns-else-i-min : goal.returns-else-i-min
unfolding extent_in
returns-else-i-min c =
    let a = c.args in
    let w : ◌≡◌ a.checked (Ok c.in_ok-n.n) = c.in_ok-n.was in
    rw (c.at.ensures, w, below-both a.i c.in_ok-n.n (held_in a.kind a.s.now), le-ltb a.i (min c.in_ok-n.n (held_in a.kind a.s.now)) (omega (arith, c.held.ensures, c.min.ensures, c.if-i-min.false)))
