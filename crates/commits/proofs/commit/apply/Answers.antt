-- apply meets its contract by the laws of its answers, of its sweep and of its stores.
use native.Mathlib.Omega.{arith}
use mathlib.Core.Path.{sym, ap, ◌∙◌}
use lib.ListN.{length}
use Rattle.joining.specs.Merge.{column_list}
use Rattle.commits.proofs.Answers.{went, same-found, asked, no_room, room_for, bytes-are}
use Rattle.commits.proofs.commit.apply.Goals as goal

pub sweep-requires-clause-asked : goal.sweep-requires-clause-asked
sweep-requires-clause-asked c =
    let a = c.args in
    let f = c.in_ok-ranges.ensures in
    rw f.2 (asked a.s.now a.block f.0 f.1 c.in_ok-ranges.ranges.count f.3 a.rows.devices.now a.rows.offsets.now a.rows.lengths.now a.rows.storages.now a.rows.states.now c.requires.offs_len_bound c.requires.even c.requires.sts_value)

pub sweep-requires-2-clause-asked : goal.sweep-requires-2-clause-asked
sweep-requires-2-clause-asked c =
    let a = c.args in
    let f = c.in_ok-ranges.ensures in
    rw f.2 (asked a.s.now a.block f.0 f.1 c.in_ok-ranges.ranges.count f.3 a.rows.devices.now a.rows.offsets.now a.rows.lengths.now a.rows.storages.now a.rows.states.now c.requires.offs_len_bound c.requires.even c.requires.sts_value)

pub returns-then-d-k-clause-answered : goal.returns-then-d-k-clause-answered
returns-then-d-k-clause-answered c =
    let a = c.args in
    let f = c.in_ok-ranges.ensures in
    let r = c.in_ok-k.ensures.0 in
    let found = c.in_ok-k.ensures.2 in
    let w = went r c.in_ok-k.k c.in_ok-k.ensures.1 in
    let same = ap length found.stored in
    rw c.at-then-d-k.ensures (no_room a.s.now a.block f.0 f.1 c.in_ok-ranges.ranges.count f.3 (column_list a.rows.devices.now a.rows.offsets.now a.rows.lengths.now a.rows.storages.now a.rows.states.now) (length a.d.now) r.bare (rw f.2 at found.bared) w.0 r.count (rw f.2 at found.counted) (omega (arith, w.1, c.if-k-gt1024.false)) (omega (arith, same, w.1, c.if-d-k.true)))

pub returns-clause-answered : goal.returns-clause-answered
returns-clause-answered c =
    let a = c.args in
    let f = c.in_ok-ranges.ensures in
    let r = c.in_ok-k.ensures.0 in
    let found = c.in_ok-k.ensures.2 in
    let w = went r c.in_ok-k.k c.in_ok-k.ensures.1 in
    let same = ap length found.stored in
    rw (c.sweep-2.ensures.1 ∙ same-found r c.sweep-2.ensures.0 found c.sweep-2.ensures.2 ∙ sym c.in_ok-k.ensures.1, w.1) (room_for a.s.now a.block f.0 f.1 c.in_ok-ranges.ranges.count f.3 (column_list a.rows.devices.now a.rows.offsets.now a.rows.lengths.now a.rows.storages.now a.rows.states.now) (length a.d.now) r.bare (rw f.2 at found.bared) w.0 r.count (rw f.2 at found.counted) (omega (arith, w.1, c.if-k-gt1024.false)) (omega (arith, same, w.1, c.if-d-k.false)))

pub returns-clause-stored : goal.returns-clause-stored
returns-clause-stored c =
    let a = c.args in
    let f = c.in_ok-ranges.ensures in
    let r = c.in_ok-k.ensures.0 in
    let found = c.in_ok-k.ensures.2 in
    let w = went r c.in_ok-k.k c.in_ok-k.ensures.1 in
    rw (c.sweep-2.ensures.1 ∙ same-found r c.sweep-2.ensures.0 found c.sweep-2.ensures.2 ∙ sym c.in_ok-k.ensures.1)
    (bytes-are a.s.now a.block f.0 f.1 c.in_ok-ranges.ranges.count f.3 (column_list a.rows.devices.now a.rows.offsets.now a.rows.lengths.now a.rows.storages.now a.rows.states.now) c.in_ok-k.k a.d.now c.sweep.new.d c.put32.new.d c.sweep-2.new.d found.stored c.put32.ensures (rw f.2 at c.sweep-2.ensures.2.stored))
