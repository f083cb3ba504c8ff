-- sweep meets its contract by the turns.
use Rattle.std.proofs.Common.{◌≡◌, cond, ap, ◌∙◌}
use Rattle.joining.specs.Joiner.{stored}
use Rattle.joining.proofs.Pieces.{stored-wrote}
use Rattle.commits.proofs.Turns.{begin-asks, turns-begin, turns-end, turn-asks, move_asks, piece-asks, piece-feeds, turns-on, turns-over, turns-fewer}
use Rattle.commits.proofs.sweep.sweep.Goals.{in-Some, in_default}
use Rattle.commits.proofs.sweep.sweep.Goals as goal

pub begin-p-requires-clause-tops : goal.begin-p-requires-clause-tops
begin-p-requires-clause-tops g c =
    let a = c.args in
    (begin-asks a.ranges.list.now a.ranges.count a.rows.devices.now a.rows.offsets.now a.rows.lengths.now a.rows.storages.now a.rows.states.now c.requires.asked).1.0

pub begin-p-requires-clause-nonzero : goal.begin-p-requires-clause-nonzero
begin-p-requires-clause-nonzero g c =
    let a = c.args in
    (begin-asks a.ranges.list.now a.ranges.count a.rows.devices.now a.rows.offsets.now a.rows.lengths.now a.rows.storages.now a.rows.states.now c.requires.asked).1.1

pub loop-p-init : goal.loop-p-init
loop-p-init g c =
    let a = c.args in
    rw c.new-runs.ensures (turns-begin a.ranges.list.now a.ranges.count a.rows.devices.now a.rows.offsets.now a.rows.lengths.now a.rows.storages.now a.rows.states.now c.requires.asked g.P.Pass.writes a.d.now c.begin-p.result c.begin-p.ensures)

pub next_turn-t-requires : goal.next_turn-t-requires
next_turn-t-requires g c =
    let a = c.args in
    turn-asks a.ranges.list.now a.ranges.count a.rows.devices.now a.rows.offsets.now a.rows.lengths.now a.rows.storages.now a.rows.states.now c.requires.asked c.loop-p.invariant c.loop-p-test.true

pub piece-next-requires-clause-row_in_bounds : goal.piece-next-requires-clause-row_in_bounds
piece-next-requires-clause-row_in_bounds g c =
    let a = c.args in
    (piece-asks a.ranges.list.now a.ranges.count a.rows.devices.now a.rows.offsets.now a.rows.lengths.now a.rows.storages.now a.rows.states.now c.requires.asked c.loop-p.invariant c.loop-p-test.true c.next_turn-t.result c.next_turn-t.ensures c.in-Some.part c.in-Some.is).0

pub piece-next-requires-clause-lo_bound : goal.piece-next-requires-clause-lo_bound
piece-next-requires-clause-lo_bound g c =
    let a = c.args in
    (piece-asks a.ranges.list.now a.ranges.count a.rows.devices.now a.rows.offsets.now a.rows.lengths.now a.rows.storages.now a.rows.states.now c.requires.asked c.loop-p.invariant c.loop-p-test.true c.next_turn-t.result c.next_turn-t.ensures c.in-Some.part c.in-Some.is).1

pub feed-step-requires : goal.feed-step-requires
feed-step-requires g c =
    let a = c.args in
    piece-feeds a.ranges.list.now a.ranges.count a.rows.devices.now a.rows.offsets.now a.rows.lengths.now a.rows.storages.now a.rows.states.now c.requires.asked c.loop-p.invariant c.loop-p-test.true c.next_turn-t.result c.next_turn-t.ensures c.in-Some.part c.in-Some.is c.piece-next.result c.piece-next.ensures

pub moved-p-requires-clause-tops : goal.moved-p-requires-clause-tops
moved-p-requires-clause-tops g c =
    let a = c.args in
    (move_asks a.ranges.list.now a.ranges.count a.rows.devices.now a.rows.offsets.now a.rows.lengths.now a.rows.storages.now a.rows.states.now c.requires.asked c.loop-p.invariant c.loop-p-test.true c.next_turn-t.result c.next_turn-t.ensures).1.0

pub moved-p-requires-clause-at_le_y : goal.moved-p-requires-clause-at_le_y
moved-p-requires-clause-at_le_y g c =
    let a = c.args in
    (move_asks a.ranges.list.now a.ranges.count a.rows.devices.now a.rows.offsets.now a.rows.lengths.now a.rows.storages.now a.rows.states.now c.requires.asked c.loop-p.invariant c.loop-p-test.true c.next_turn-t.result c.next_turn-t.ensures).1.1.1

pub loop-p-smaller : goal.loop-p-smaller
loop-p-smaller g c =
    let a = c.args in
    turns-fewer a.ranges.list.now a.ranges.count a.rows.devices.now a.rows.offsets.now a.rows.lengths.now a.rows.storages.now a.rows.states.now c.requires.asked c.loop-p.invariant c.loop-p-test.true c.next_turn-t.result c.next_turn-t.ensures c.moved-p.result c.moved-p.ensures

pub loop-p-preserved : goal.loop-p-preserved
loop-p-preserved g c =
    let a = c.args in
    let l = c.loop-p in
    let t = c.next_turn-t.result in
    let q = c.match-t in
    let devs = a.rows.devices.now in
    elim q.branch [
      | in-Some w ↦
          let u = w.piece-next.result in
          let step : w.put.new.d ≡ cond g.P.Pass.writes (stored devs w.feed-step.result u l.d) l.d = w.put.ensures in
          rw (w.d-is, w.runs-is)
          (turns-on a.ranges.list.now a.ranges.count devs a.rows.offsets.now a.rows.lengths.now a.rows.storages.now a.rows.states.now c.requires.asked l.invariant c.loop-p-test.true t c.next_turn-t.ensures w.in-Some.part w.in-Some.is u w.piece-next.ensures c.moved-p.result c.moved-p.ensures w.feed-step.new.self w.feed-step.ensures.runs
          w.put.new.d (step ∙ ap (λ z. cond g.P.Pass.writes (stored devs z u l.d) l.d) w.feed-step.ensures.step ∙ ap (λ z. cond g.P.Pass.writes z l.d) (stored-wrote devs l.runs u l.d)))
      | in_default w ↦
          rw (w.d-is, w.runs-is)
          (turns-over a.ranges.list.now a.ranges.count devs a.rows.offsets.now a.rows.lengths.now a.rows.storages.now a.rows.states.now c.requires.asked l.invariant c.loop-p-test.true t c.next_turn-t.ensures c.moved-p.result c.moved-p.ensures w.in_default.is)
    ]

pub returns-then-bare : goal.returns-then-bare
returns-then-bare g c =
    let a = c.args in
    let l = c.loop-p in
    let t = turns-end a.ranges.list.now a.ranges.count a.rows.devices.now a.rows.offsets.now a.rows.lengths.now a.rows.storages.now a.rows.states.now c.requires.asked l.invariant c.requires.sts_in_bounds c.loop-p-test.false in
    (record { count = l.runs.count; bare = l.bare }, rw (c.at.ensures, c.if-bare.true), record { counted = t.0; bared = t.1; stored = t.2 })

pub returns : goal.returns
returns g c =
    let a = c.args in
    let l = c.loop-p in
    let t = turns-end a.ranges.list.now a.ranges.count a.rows.devices.now a.rows.offsets.now a.rows.lengths.now a.rows.storages.now a.rows.states.now c.requires.asked l.invariant c.requires.sts_in_bounds c.loop-p-test.false in
    (record { count = l.runs.count; bare = l.bare }, rw c.if-bare.false, record { counted = t.0; bared = t.1; stored = t.2 })
