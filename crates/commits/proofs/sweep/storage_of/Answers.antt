-- storage_of: a hole, or not.
use borrow.Author.Tests.{eq-eqb, ne_eqb}
use Rattle.commits.specs.Pieces.{storage_of}
use Rattle.commits.proofs.sweep.storage_of.Goals as goal

pub returns-then-st-eq3 : goal.returns-then-st-eq3
unfolding storage_of
returns-then-st-eq3 c = rw (eq-eqb c.args.st 3 c.if-st-eq3.true)

pub returns : goal.returns
unfolding storage_of
returns c = rw (ne_eqb c.args.st 3 c.if-st-eq3.false)
