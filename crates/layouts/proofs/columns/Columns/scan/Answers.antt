-- scan meets its contract by the turns of the one pass.
use Rattle.std.proofs.Common.{rules, ◌≡◌, Err, length}
use Rattle.extents.proofs.Turns.{starts, refuses, passes, ends}
use Rattle.layouts.specs.Columns.{lent, column_row}
use Rattle.layouts.proofs.Bodies.{reads}
use Rattle.layouts.proofs.columns.Columns.scan.Goals as goal

pub loop-i-init : goal.loop-i-init
loop-i-init c =
    let a = c.args in
    rw c.start-passed.ensures (starts (λ j. (column_row (lent a.self) j).extent) (length a.self.offsets.now))

pub returns-in_err-pass : goal.returns-in_err-pass
returns-in_err-pass c =
    let m = c.loop-i in
    let e : ◌≡◌ c.from_residual.result (Err c.in_err-pass.field-0.0) = search rules in
    rw e (refuses m.invariant c.loop-i-test.true (reads (λ j. (column_row (lent c.args.self) j).extent) m.i c.numbers.ensures) c.in_err-pass.field-0.0 c.in_err-pass.ensures.refused)

pub loop-i-preserved : goal.loop-i-preserved
loop-i-preserved c =
    let m = c.loop-i in
    rw c.in_ok-pass.ensures.passed (passes m.invariant c.loop-i-test.true (reads (λ j. (column_row (lent c.args.self) j).extent) m.i c.numbers.ensures) c.in_ok-pass.ensures.refused)

pub returns : goal.returns
returns c = ends c.loop-i.invariant c.loop-i-test.false
