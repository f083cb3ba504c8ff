-- commit meets its contract by the laws of its answers.
use Rattle.std.proofs.Common.{rules, Err, ◌≡◌, sym, ap, ◌∙◌, length}
use Rattle.extents.specs.Verdict.{Accepted, verdict_of}
use Rattle.layouts.specs.declared.kinds.Kind.TheVariants.{Scsi}
use Rattle.layouts.specs.Columns.{column_row}
use Rattle.layouts.proofs.Bodies.{by-places}
use Rattle.layouts.proofs.Rows.{passed}
use Rattle.joining.specs.Merge.{columns_of}
use Rattle.commits.proofs.Answers.{judged}
use Rattle.commits.proofs.commit.commit.Goals as goal

pub apply-requires-clause-offs_len_bound : goal.apply-requires-clause-offs_len_bound
apply-requires-clause-offs_len_bound c =
    let a = c.args in
    (passed Scsi (columns_of a.devs.now a.offs.now a.lens.now a.stos.now a.sts.now) c.in_ok-check.field-0 (sym c.in_ok-check.ensures)).few

pub apply-requires-clause-even : goal.apply-requires-clause-even
apply-requires-clause-even c =
    let a = c.args in
    (passed Scsi (columns_of a.devs.now a.offs.now a.lens.now a.stos.now a.sts.now) c.in_ok-check.field-0 (sym c.in_ok-check.ensures)).level

pub apply-requires-clause-sts_value : goal.apply-requires-clause-sts_value
apply-requires-clause-sts_value c =
    let a = c.args in
    let p = passed Scsi (columns_of a.devs.now a.offs.now a.lens.now a.stos.now a.sts.now) c.in_ok-check.field-0 (sym c.in_ok-check.ensures) in
    by-places (column_row (columns_of a.devs.now a.offs.now a.lens.now a.stos.now a.sts.now)) (length a.offs.now) ∙ p.passes ∙ ap Accepted p.counted

pub returns-in_err-check-clause-answered : goal.returns-in_err-check-clause-answered
returns-in_err-check-clause-answered c =
    let a = c.args in
    let e : ◌≡◌ c.from_residual.result (Err c.in_err-check.field-0.0) = search rules in
    rw e (judged a.s.now a.block a.devs.now a.offs.now a.lens.now a.stos.now a.sts.now (length a.d.now) (verdict_of (Err c.in_err-check.field-0.0)) c.in_err-check.ensures)

pub returns-clause-answered : goal.returns-clause-answered
returns-clause-answered c =
    let a = c.args in
    c.apply.ensures.answered ∙ judged a.s.now a.block a.devs.now a.offs.now a.lens.now a.stos.now a.sts.now (length a.d.now) (Accepted c.in_ok-check.field-0) c.in_ok-check.ensures
