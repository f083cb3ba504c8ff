-- By the laws of `Assessing`, `Reports` of reports and `StatisticsWalk` of reports.
use mathlib.Core.Path.{◌≡◌, sym, ap, ◌∙◌}
use native.Mathlib.Omega.{arith}
use lib.ListN.{length}
use Rattle.std.specs.Prelude.{Ok}
use Rattle.reports.specs.ReportSteps.{entry_of}
use Rattle.reports.proofs.Reports.{goes_on, fold-begins, fold-record, fold-statistics, fold-malformed}
use Rattle.reports.proofs.StatisticsWalk.{tally-nothing}
use Rattle.places.proofs.Loops.{mapped-length}
use Rattle.mirroring.proofs.Assessing.{counted, errors-change, assessed-is, settled_is}
use Rattle.mirroring.specs.Blame.{status_only, change_only, change_in, with_error}
use borrow.Author.Rules.{rules}
use Rattle.mirroring.proofs.blame.blamed.Goals as goal

pub loop-at-init : goal.loop-at-init
loop-at-init c =
    let long : length c.args.mirrors ≡ 5 = search (mapped-length, rules) in
    let s = c in
    rw c.none-x.ensures (fold-begins (with_error s.args.mirrors) (counted s.args.mirrors) _ _ s.args.body.now c.start-c.ensures ∙ assessed-is s.args.mirrors long _)

pub record_errors-x-requires : goal.record_errors-x-requires
record_errors-x-requires c =
    let a = c.args in
    omega (arith, goes_on a.body.now c.loop-at.c (sym c.next.ensures ∙ ap entry_of (c.in-Ok-Record.is ∙ ap Ok c.in-Ok-Record.field-0-is)))

pub loop-at-smaller : goal.loop-at-smaller
loop-at-smaller c =
    let a = c.args in
    omega (arith, goes_on a.body.now c.loop-at.c (sym c.next.ensures ∙ ap entry_of (c.in-Ok-Record.is ∙ ap Ok c.in-Ok-Record.field-0-is)))

pub loop-at-preserved : goal.loop-at-preserved
loop-at-preserved c =
    let a = c.args in
    let l = c.loop-at in
    rw c.record_errors-x.ensures
    (rw (errors-change a.mirrors (change_in l.x)) at
    (fold-record (with_error a.mirrors) (counted a.mirrors) (status_only 10036) (change_only (change_in l.x)) a.body.now l.c l.invariant (sym c.next.ensures ∙ ap entry_of (c.in-Ok-Record.is ∙ ap Ok c.in-Ok-Record.field-0-is))))

pub returns-in-Ok-Statistics : goal.returns-in-Ok-Statistics
returns-in-Ok-Statistics c =
    let long : length c.args.mirrors ≡ 5 = search (mapped-length, rules) in
    let s = c in
    let l = c.loop-at in
    settled_is s.args.mirrors long (change_in l.x) _
    ∙ fold-statistics (with_error s.args.mirrors) (counted s.args.mirrors) (status_only 10036) (change_only (change_in l.x)) s.args.body.now l.c l.invariant (sym c.next.ensures ∙ ap entry_of (c.in-Ok-Statistics.is ∙ ap Ok c.in-Ok-Statistics.field-0-is))

pub returns-in-Err : goal.returns-in-Err
returns-in-Err c =
    let long : length c.args.mirrors ≡ 5 = search (mapped-length, rules) in
    let s = c in
    let l = c.loop-at in
    settled_is s.args.mirrors long (change_in l.x) _
    ∙ tally-nothing (counted s.args.mirrors) (status_only 10036) (change_only (change_in l.x)) s.args.body.now c.none.ensures
    ∙ fold-malformed (with_error s.args.mirrors) (counted s.args.mirrors) (status_only 10036) (change_only (change_in l.x)) s.args.body.now l.c l.invariant (sym c.next.ensures ∙ ap entry_of c.in-Err.is)
