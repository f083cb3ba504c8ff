-- count meets its contract by the turns of the pass that checks and counts.
use Rattle.std.proofs.Common.{rules, Err, ◌≡◌, length, arith}
use Rattle.joining.proofs.Loops.{count-starts, count-stops, count-goes-on, count-ends}
use Rattle.joining.proofs.merge.count.Goals as goal

pub loop-i-init : goal.loop-i-init
loop-i-init c =
    let a = c.args in
    rw (c.start-passed.ensures, c.new-runs.ensures) (count-starts a.rows.devices.now a.rows.offsets.now a.rows.lengths.now a.rows.storages.now a.rows.states.now (length a.rows.offsets.now))

pub returns-in_err-pass : goal.returns-in_err-pass
returns-in_err-pass c =
    let a = c.args in
    let e : ◌≡◌ c.from_residual.result (Err c.in_err-pass.field-0.0) = search rules in
    rw e (count-stops a.rows.devices.now a.rows.offsets.now a.rows.lengths.now a.rows.storages.now a.rows.states.now (length a.rows.offsets.now) c.loop-i.invariant (omega (arith, c)) c.row-p.result c.row-p.ensures c.in_err-pass.field-0.0 (rw c.numbers.ensures at c.in_err-pass.ensures.refused))

pub loop-i-preserved : goal.loop-i-preserved
loop-i-preserved c =
    let a = c.args in
    let m = c.loop-i in
    count-goes-on a.rows.devices.now a.rows.offsets.now a.rows.lengths.now a.rows.storages.now a.rows.states.now (length a.rows.offsets.now) m.invariant (omega (arith, c)) (omega (arith, c.requires.even.all-devices)) c.row-p.result c.row-p.ensures (rw c.numbers.ensures at c.in_ok-pass.ensures.refused) (rw c.numbers.ensures at c.in_ok-pass.ensures.fits)
    c.pass.new.self (rw c.numbers.ensures at c.in_ok-pass.ensures.passed) c.feed.new.self c.feed.ensures.runs

pub returns : goal.returns
returns c =
    let a = c.args in
    count-ends a.rows.devices.now a.rows.offsets.now a.rows.lengths.now a.rows.storages.now a.rows.states.now (length a.rows.offsets.now) c.loop-i.invariant (omega (arith, c)) (omega (arith, c.requires.even.all-devices))
