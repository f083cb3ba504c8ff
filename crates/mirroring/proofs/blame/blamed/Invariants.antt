-- The walk is a fold over the device errors of the report, by the laws of `reports` for any fold.
use mathlib.Core.Path.{◌≡◌}
use Prim.Native.Nat.{◌-◌}
use lib.ListN.{length}
use Rattle.reports.specs.Report.{report_of, outcome}
use Rattle.reports.specs.ReportSteps.{report_from}
use Rattle.mirroring.proofs.Assessing.{counted}
use Rattle.mirroring.specs.Blame.{status_only, change_only, change_in, with_error, assessment_of}
use Rattle.mirroring.proofs.blame.blamed.Given as goal

abbrev pub invariant-loop-at : goal.invariant-loop-at
invariant-loop-at l =
    outcome (with_error l.mirrors) (counted l.mirrors) (status_only 10036) (change_only (change_in l.x)) (report_from l.body l.c) ≡ assessment_of l.mirrors (report_of l.body)

abbrev pub decreases-loop-at : goal.decreases-loop-at
decreases-loop-at l = length l.body - l.c.at
