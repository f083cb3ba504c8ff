-- scan meets its contract by the turns of the one pass.
use Rattle.layouts.specs.Layout.{row_at}
use Rattle.layouts.proofs.Sizes.{size_fits, inside}
use Rattle.layouts.proofs.Bodies.{read}
use Rattle.extents.proofs.Turns.{starts, refuses, passes, ends}
use Rattle.std.proofs.Common.{rules, ◌≡◌, Err}
use native.Mathlib.Omega.{arith}
use Rattle.layouts.proofs.layout.scan.Goals as goal

pub loop-i-init : goal.loop-i-init
loop-i-init c =
    let a = c.args in
    rw c.start-passed.ensures (starts (λ j. (row_at a.kind a.s.now j).extent) a.count)

pub body_size-requires : goal.body_size-requires
body_size-requires c = size_fits c.args.kind c.loop-i.i (omega (arith, c.requires.1, c.loop-i-test.true))

pub numbers_at-e-requires : goal.numbers_at-e-requires
numbers_at-e-requires c =
    let a = c.args in
    omega (arith, c.body_size.ensures, inside a.kind c.loop-i.i a.count c.loop-i-test.true, c.requires.0)

pub returns-in_err-pass : goal.returns-in_err-pass
returns-in_err-pass c =
    let e : ◌≡◌ c.from_residual.result (Err c.in_err-pass.field-0.0) = search rules in
    rw e (refuses c.loop-i.invariant c.loop-i-test.true (read c.args.kind c.args.s.now c.body_size.result c.loop-i.i c.body_size.ensures c.numbers_at-e.ensures) c.in_err-pass.field-0.0 c.in_err-pass.ensures.refused)

pub loop-i-preserved : goal.loop-i-preserved
loop-i-preserved c =
    let a = c.args in
    rw c.in_ok-pass.ensures.passed (passes c.loop-i.invariant c.loop-i-test.true (read a.kind a.s.now c.body_size.result c.loop-i.i c.body_size.ensures c.numbers_at-e.ensures) c.in_ok-pass.ensures.refused)

pub returns : goal.returns
returns c = ends c.loop-i.invariant c.loop-i-test.false
