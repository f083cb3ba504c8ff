-- The walk is a fold over the statistics records, by the laws of `reports` for any fold.
use mathlib.Core.Path.{◌≡◌}
use Prim.Native.Nat.{◌-◌}
use lib.ListN.{length}
use Rattle.reports.specs.StatisticsSteps.{statistics_from, tally}
use Rattle.mirroring.specs.Totals.{no_totals}
use Rattle.mirroring.proofs.Assessing.{told, untold, telling}
use Rattle.mirroring.proofs.blame.tally.Given as goal

abbrev pub invariant-loop-y : goal.invariant-loop-y
invariant-loop-y l =
    tally (telling l.mirrors) untold (told l.t) (statistics_from l.body l.c) ≡ tally (telling l.mirrors) untold (told no_totals) (statistics_from l.body l.initial.c)

abbrev pub decreases-loop-y : goal.decreases-loop-y
decreases-loop-y l = length l.body - l.c.at
