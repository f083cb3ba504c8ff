-- The walk of the error records keeps where the statistics records begin. The measure is what is left of the bytes, whatever the counts say.
use Prim.Native.Nat.{◌-◌}
use mathlib.Core.Path.{◌≡◌}
use lib.ListN.{length}
use Rattle.reports.specs.ReportSteps.{statistics_start}
use Rattle.reports.proofs.Reports.{past_from}
use Rattle.reports.proofs.report.statistics.Given as goal

abbrev pub invariant-loop-after : goal.invariant-loop-after
invariant-loop-after l = past_from l.s l.c ≡ statistics_start l.s

abbrev pub decreases-loop-after : goal.decreases-loop-after
decreases-loop-after l = length l.s - l.c.at
