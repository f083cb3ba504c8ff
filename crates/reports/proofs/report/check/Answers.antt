-- By the status of the statistics records, from where they begin.
use mathlib.Core.Path.{◌∙◌}
use Rattle.reports.proofs.StatisticsWalk.{status-whole}
use Rattle.reports.proofs.report.check.Goals as goal

pub returns : goal.returns
returns c = c.check.ensures ∙ status-whole c.args.s.now c.statistics.ensures
