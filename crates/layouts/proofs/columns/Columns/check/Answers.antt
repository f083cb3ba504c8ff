-- check meets its contract by the laws of its answers.
use mathlib.Core.Path.{sym, ◌∙◌}
use lib.ListN.{length}
use Rattle.layouts.specs.Columns.{lent, column_row}
use Rattle.layouts.proofs.Bodies.{by-places}
use Rattle.layouts.proofs.Rows.{uneven, too_many_rows, judged-rows, even-said}
use Rattle.layouts.proofs.columns.Columns.check.Goals as goal

pub returns-then-not-even : goal.returns-then-not-even
returns-then-not-even c = let a = c.args in rw c.at.ensures (uneven a.kind (lent a.self) (sym c.even.ensures ∙ c.if-not-even.true))

pub returns-then-self-gt1024 : goal.returns-then-self-gt1024
returns-then-self-gt1024 c =
    let a = c.args in
    rw c.at-then-self-gt1024.ensures (too_many_rows a.kind (lent a.self) (sym c.even.ensures ∙ c.if-not-even.false) c.if-self-gt1024.true)

pub scan-requires : goal.scan-requires
scan-requires c = let a = c.args in record { even = even-said a.kind (lent a.self) (sym c.even.ensures ∙ c.if-not-even.false) }

pub returns : goal.returns
returns c =
    let a = c.args in
    c.scan.ensures ∙ by-places (column_row (lent a.self)) (length a.self.offsets.now)
    ∙ judged-rows a.kind (lent a.self) (sym c.even.ensures ∙ c.if-not-even.false) c.if-self-gt1024.false
