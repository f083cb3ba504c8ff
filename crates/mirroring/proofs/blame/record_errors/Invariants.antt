-- The walk is a fold over the device errors of the record, which are all there.
use mathlib.Core.Path.{◌≡◌}
use Prim.Native.Nat.{◌+◌, ◌-◌, ◌*◌, ◌≤◌}
use lib.ListN.{length, drop}
use Rattle.reports.specs.Report.{over}
use Rattle.reports.specs.ReportSteps.{errors_in}
use Rattle.mirroring.specs.Blame.{changed, change_in}
use Rattle.mirroring.proofs.blame.record_errors.Given as goal

abbrev pub invariant-loop : goal.invariant-loop
invariant-loop l =
    (l.at + 24 * (l.n - l.counter) ≤ length l.body) × (over (changed l.mirrors) (change_in l.x) (errors_in (l.n - l.counter) (drop l.at l.body)) ≡ over (changed l.mirrors) (change_in l.fn.so_far) (errors_in l.fn.n (drop l.fn.from l.body)))
