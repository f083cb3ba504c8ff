-- By what the two halves answer.
use mathlib.Core.Path.{refl, sym, ap, ◌∙◌}
use Rattle.reports.specs.StatisticsSteps.{statistics_from}
use Rattle.mirroring.specs.Blame.{change_in, tallied, status_only}
use Rattle.mirroring.proofs.Assessing.{refused-some, both-refused, both-settled}
use Rattle.mirroring.proofs.blame.assess.Goals as goal

pub returns-in-Err : goal.returns-in-Err
returns-in-Err c =
    let a = c.args in
    let e = c.blamed-e in
    c.only.ensures
    ∙ ap status_only c.from.ensures
    ∙ both-refused a.mirrors (change_in e.result) (statistics_from a.body.now e.result.next) (ap tallied (sym c.in-Err.is) ∙ c.tally.ensures) (refused-some _)
    ∙ e.ensures

pub returns : goal.returns
returns c =
    let a = c.args in
    let e = c.blamed-e in
    both-settled a.mirrors (change_in e.result) (statistics_from a.body.now e.result.next) (ap tallied (sym c.in-Ok.is) ∙ c.tally.ensures) refl
    ∙ e.ensures
