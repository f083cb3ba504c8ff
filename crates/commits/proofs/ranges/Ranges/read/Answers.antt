-- read: a list is malformed, test by test, or it has its ranges.
use Rattle.std.proofs.Common.{refl, sym, ap, ◌∙◌, not, arith, eq-eqb, ne_eqb}
use Rattle.committing.proofs.Ranges.{short, many, inexact}
use Rattle.commits.proofs.ranges.Ranges.read.Goals.{then-count-gt1024-via-then-count-gt1024, then-count-gt1024-via-else-count-gt1024+then-list-count}
use Rattle.commits.proofs.ranges.Ranges.read.Goals as goal

pub returns-then-list-lt4 : goal.returns-then-list-lt4
returns-then-list-lt4 c = sym (short c.args.list.now (omega (arith, c)))

pub returns-then-count-gt1024 : goal.returns-then-count-gt1024
returns-then-count-gt1024 c =
    let s = c.args.list.now in
    elim c.then-count-gt1024.branch [
      | then-count-gt1024-via-then-count-gt1024 w ↦ sym (many s (omega (arith, c)) (omega (arith, c.be32-count.ensures, w.if-count-gt1024.true)))
      | then-count-gt1024-via-else-count-gt1024+then-list-count w ↦
          sym (inexact s (omega (arith, c)) (omega (arith, c.be32-count.ensures, w.if-count-gt1024.false)))
          ∙ ap not (ne_eqb _ _ (λ e. w.if-list-count.true (rw c.be32-count.ensures e)))
    ]

pub returns : goal.returns
returns c =
    let s = c.args.list.now in (
      sym (inexact s (omega (arith, c)) (omega (arith, c.be32-count.ensures, c.if-count-gt1024.false))) ∙ ap not (eq-eqb _ _ (rw c.be32-count.ensures at c.if-list-count.false)),
      refl,
      c.be32-count.ensures,
    )
