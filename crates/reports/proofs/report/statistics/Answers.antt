-- By the laws of `Reports`.
use mathlib.Core.Path.{sym, ap, ◌∙◌}
use Rattle.std.specs.Prelude.{Ok}
use Rattle.reports.specs.ReportSteps.{entry_of}
use Rattle.reports.proofs.Reports.{goes_on, past-begins, past-record, past-statistics, past-malformed}
use native.Mathlib.Omega.{arith}
use Rattle.reports.proofs.report.statistics.Goals as goal

pub loop-after-init : goal.loop-after-init
loop-after-init c = past-begins c.args.s.now c.start-c.ensures

pub loop-after-smaller : goal.loop-after-smaller
loop-after-smaller c =
    let s = c.args.s.now in
    let l = c.loop-after in
    omega (arith, goes_on s l.c (sym c.next.ensures ∙ ap entry_of (c.in-Ok-Record.is ∙ ap Ok c.in-Ok-Record.field-0-is)))

pub loop-after-preserved : goal.loop-after-preserved
loop-after-preserved c =
    let s = c.args.s.now in
    let l = c.loop-after in
    past-record s l.c l.invariant (sym c.next.ensures ∙ ap entry_of (c.in-Ok-Record.is ∙ ap Ok c.in-Ok-Record.field-0-is))

pub returns-in-Ok-Statistics : goal.returns-in-Ok-Statistics
returns-in-Ok-Statistics c =
    let s = c.args.s.now in
    let l = c.loop-after in
    past-statistics s l.c l.invariant (sym c.next.ensures ∙ ap entry_of (c.in-Ok-Statistics.is ∙ ap Ok c.in-Ok-Statistics.field-0-is))

pub returns-in-Err : goal.returns-in-Err
returns-in-Err c =
    let s = c.args.s.now in
    let l = c.loop-after in
    past-malformed s l.c l.invariant (sym c.next.ensures ∙ ap entry_of c.in-Err.is) c.none.ensures
