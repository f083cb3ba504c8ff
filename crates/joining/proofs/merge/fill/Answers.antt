-- fill meets its contract by the turns of the pass that writes.
use Rattle.std.proofs.Common.{length, ap, ◌∙◌, arith}
use Rattle.joining.specs.Joiner.{stored}
use Rattle.joining.proofs.Loops.{fill-starts, fill-ready, fill-goes-on, fill-ends}
use Rattle.joining.proofs.Pieces.{stored-wrote}
use Rattle.joining.proofs.merge.fill.Goals as goal

pub loop-i-init : goal.loop-i-init
loop-i-init c =
    let a = c.args in
    let h = c.requires in
    rw c.new-runs.ensures (fill-starts a.rows.devices.now a.rows.offsets.now a.rows.lengths.now a.rows.storages.now a.rows.states.now (length a.rows.offsets.now) h.offs_len_bound (omega (arith, h.even.all-devices)) h.sts_value a.d.now h.sts_in_bounds)

pub feed-step-requires : goal.feed-step-requires
feed-step-requires c =
    let a = c.args in
    fill-ready a.rows.devices.now a.rows.offsets.now a.rows.lengths.now a.rows.storages.now a.rows.states.now (length a.rows.offsets.now) c.loop-i.invariant (omega (arith, c)) c.row-p.result c.row-p.ensures

pub loop-i-preserved : goal.loop-i-preserved
loop-i-preserved c =
    let a = c.args in
    let m = c.loop-i in
    let p = c.row-p.result in
    fill-goes-on a.rows.devices.now a.rows.offsets.now a.rows.lengths.now a.rows.storages.now a.rows.states.now (length a.rows.offsets.now) m.invariant (omega (arith, c)) p c.row-p.ensures c.feed-step.new.self c.feed-step.ensures.runs
    c.store.new.d (c.store.ensures ∙ ap (λ s. stored a.rows.devices.now s p m.d) c.feed-step.ensures.step ∙ stored-wrote a.rows.devices.now m.runs p m.d)

pub returns : goal.returns
returns c =
    let a = c.args in
    fill-ends a.rows.devices.now a.rows.offsets.now a.rows.lengths.now a.rows.storages.now a.rows.states.now (length a.rows.offsets.now) c.loop-i.invariant (omega (arith, c))
