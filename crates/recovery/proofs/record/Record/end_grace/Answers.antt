-- By whether it is in grace, and what `ended` answers.
use mathlib.Core.Path.{◌≡◌, ◌∙◌}
use lib.ListN.{length}
use borrow.Author.Rules.{rules}
use Rattle.places.proofs.Loops.{mapped-length}
use borrow.Author.Tests.{not-true, not-false}
use Rattle.recovery.specs.Record.{end_of}
use Rattle.recovery.proofs.Tallying.{ended-counts}
use Rattle.recovery.proofs.record.Record.end_grace.Goals as goal

pub returns-then-not-self : goal.returns-then-not-self
unfolding end_of
returns-then-not-self c = c.answered.ensures ∙ rw (not-true _ c.if-not-self.true)

pub returns : goal.returns
unfolding end_of
returns c =
    let long : length c.args.self.files ≡ 64 = search (mapped-length, rules) in
    let a = c.args in
    c.answered-2.ensures ∙ rw (not-false _ c.if-not-self.false, c.ended.ensures, ended-counts a.self.files a.self.head long)
