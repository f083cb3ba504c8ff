-- Rests on what the code's tests say of a record.
use Rattle.reports.proofs.StatisticsWalk.{record-short, record-long, record-within}
use native.Mathlib.Omega.{arith}
use Rattle.reports.proofs.statistics.past_record.Goals as goal

pub returns-then-left-lt80-clause-place : goal.returns-then-left-lt80-clause-place
returns-then-left-lt80-clause-place c =
    let a = c.args in
    record-short a.s.now a.at (omega arith)

pub returns-clause-place : goal.returns-clause-place
returns-clause-place c =
    let a = c.args in
    record-long a.s.now a.at (omega arith) c.past_update.ensures

pub returns-clause-within : goal.returns-clause-within
returns-clause-within c =
    let a = c.args in
    record-within a.s.now a.at (omega arith) c.past_update.ensures
