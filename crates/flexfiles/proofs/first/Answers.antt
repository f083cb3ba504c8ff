-- By the laws of `FirstError` and `Reports` of reports.
use mathlib.Core.Path.{refl, sym, ap, ◌∙◌}
use Rattle.std.specs.Prelude.{Ok}
use Rattle.reports.proofs.Reports.{goes_on}
use Rattle.reports.specs.ReportSteps.{entry_of}
use Rattle.reports.specs.declared.report.Entry.{Entry}
use Rattle.std.proofs.lemmas.Result.{err_from_is_err_and}
use Rattle.statuses.specs.declared.Status.{Status}
use Rattle.statuses.specs.Numbers.{number}
use Rattle.flexfiles.specs.Handed.{Done, answer_of, records_at}
use Rattle.flexfiles.proofs.FirstError.{first-error, first-last, first-malformed, first-record}
use native.Mathlib.Omega.{arith}
use Rattle.flexfiles.proofs.first.Goals as goal

pub loop-c-init : goal.loop-c-init
loop-c-init c = refl

pub loop-c-smaller : goal.loop-c-smaller
loop-c-smaller c =
    let k = c.loop-c.c in
    omega (arith, goes_on c.args.s.now (records_at k) (sym c.in_ok-at.ensures ∙ ap (λ (e : Entry). entry_of (Ok e)) c.in-Record.is))

pub loop-c-preserved : goal.loop-c-preserved
loop-c-preserved c =
    let k = c.loop-c.c in
    sym (first-record c.args.s.now k (omega arith) (sym c.in_ok-at.ensures ∙ ap (λ (e : Entry). entry_of (Ok e)) c.in-Record.is)) ∙ c.loop-c.invariant

pub returns-in_err-at : goal.returns-in_err-at
returns-in_err-at c =
    let k = c.loop-c.c in
    let e = err_from_is_err_and c.from_residual.result c.from_residual.ensures.1 in
    ap answer_of e.1 ∙ ap (λ (status : Status). Done (number status)) e.2
    ∙ first-malformed c.args.s.now k (omega arith) (sym c.in_err-at.ensures) ∙ c.loop-c.invariant

pub returns-in_err-check-in-Statistics : goal.returns-in_err-check-in-Statistics
returns-in_err-check-in-Statistics c =
    let k = c.loop-c.c in
    let e = err_from_is_err_and c.from_residual-in_err-check-in-Statistics.result c.from_residual-in_err-check-in-Statistics.ensures.1 in
    ap answer_of e.1
    ∙ first-last c.args.s.now k (omega arith) (sym c.in_ok-at.ensures ∙ ap (λ (e : Entry). entry_of (Ok e)) c.in-Statistics.is)
    (ap number e.2 ∙ c.in_err-check-in-Statistics.ensures)
    ∙ c.loop-c.invariant

pub returns-in-Statistics : goal.returns-in-Statistics
returns-in-Statistics c =
    let k = c.loop-c.c in
    first-last c.args.s.now k (omega arith) (sym c.in_ok-at.ensures ∙ ap (λ (e : Entry). entry_of (Ok e)) c.in-Statistics.is) c.in_ok-check-in-Statistics.ensures
    ∙ c.loop-c.invariant

pub returns : goal.returns
returns c =
    let l = c.loop-c in
    c.error_at.ensures ∙ sym (first-error c.args.s.now l.c (λ h. omega arith)) ∙ l.invariant
