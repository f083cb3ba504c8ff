-- Rests on the laws of the statistics record at a cursor.
use mathlib.Core.Path.{sym, ap, ◌∙◌}
use Rattle.std.specs.Prelude.{Ok}
use Rattle.reports.specs.StatisticsSteps.{item_of}
use Rattle.reports.proofs.StatisticsWalk.{goes-forward}
use Rattle.statuses.specs.Numbers.{number}
use Rattle.flexfiles.proofs.Handed.{statistic-is}
use native.Mathlib.Omega.{arith}
use Rattle.flexfiles.proofs.sc_statistics_next.Goals as goal

pub overflow_add-device : goal.overflow_add-device
overflow_add-device c =
    let a = c.args in
    omega (arith, goes-forward a.body.now c.resumed_tail-c.result (sym c.next.ensures ∙ ap item_of (c.in-Ok-Some.is ∙ ap Ok c.in-Ok-Some.field-0-is)))

pub returns-in-Ok-Some : goal.returns-in-Ok-Some
returns-in-Ok-Some c =
    let a = c.args in
    statistic-is a.body.now a.at.now a.left.now c.resumed_tail-c.ensures c.next.ensures (ap item_of (c.in-Ok-Some.is ∙ ap Ok c.in-Ok-Some.field-0-is))

pub returns-in-Ok-None : goal.returns-in-Ok-None
returns-in-Ok-None c =
    let a = c.args in
    statistic-is a.body.now a.at.now a.left.now c.resumed_tail-c.ensures c.next.ensures (ap item_of (c.in-Ok-None.is ∙ ap Ok c.in-Ok-None.field-0-is))

pub returns-in-Err : goal.returns-in-Err
returns-in-Err c =
    let a = c.args in
    rw (c.from-in-Err.ensures ∙ ap number c.from.ensures)
    (statistic-is a.body.now a.at.now a.left.now c.resumed_tail-c.ensures c.next.ensures (ap item_of c.in-Err.is))
