-- By the laws of `StatisticsWalk`.
use Rattle.std.proofs.Common.{arith}
use Rattle.reports.specs.declared.cursor.Cursor.{Cursor}
use Rattle.reports.proofs.StatisticsWalk.{at-end, at-spare, at-malformed, at-passed, status-on, status-end, status-malformed}
use Rattle.reports.proofs.statistics.check.Goals as goal

pub returns-in_default : goal.returns-in_default
returns-in_default c =
    let s = c.args.s.now in
    let d : Cursor = record { at = c.loop-n.at; left = c.loop-n.n } in
    status-malformed s d c.loop-n.invariant (at-malformed s d (λ h. omega arith) c.past_record.ensures.place c.in_default.is)

-- A record that fails ends the walk. A turn that went on after it, with fewer to come, would keep the status too,
-- but not the measure: it passes no bytes, and `within` of `past_record` says of each that passes a record that it does.
pub loop-n-preserved : goal.loop-n-preserved
loop-n-preserved c =
    let s = c.args.s.now in
    let d : Cursor = record { at = c.loop-n.at; left = c.loop-n.n } in
    status-on s d c.loop-n.invariant (at-passed s d (λ h. omega arith) c.past_record.ensures.place c.in-Some.is)

pub returns-then-s-at : goal.returns-then-s-at
returns-then-s-at c =
    let s = c.args.s.now in
    let d : Cursor = record { at = c.loop-n.at; left = c.loop-n.n } in
    status-end s d c.loop-n.invariant (at-end s d (omega arith) (omega arith))

pub returns : goal.returns
returns c =
    let s = c.args.s.now in
    let d : Cursor = record { at = c.loop-n.at; left = c.loop-n.n } in
    status-malformed s d c.loop-n.invariant (at-spare s d (omega arith) (λ h. omega arith))
