-- The walk of the statistics records keeps their status. The measure is what is left of the bytes, whatever the count says.
use Prim.Native.Nat.{◌-◌}
use mathlib.Core.Path.{◌≡◌}
use lib.ListN.{length}
use Rattle.reports.specs.Report.{status_of}
use Rattle.reports.specs.StatisticsSteps.{statistics_from}
use Rattle.reports.proofs.statistics.check.Given as goal

abbrev pub invariant-loop-n : goal.invariant-loop-n
invariant-loop-n l = status_of (statistics_from l.s (record { at = l.at; left = l.n })) ≡ status_of (statistics_from l.s (record { at = l.initial.at; left = l.initial.n }))

abbrev pub decreases-loop-n : goal.decreases-loop-n
decreases-loop-n l = length l.s - l.at
