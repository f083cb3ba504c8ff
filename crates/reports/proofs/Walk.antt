-- The two walks of a body visit each device error and each statistics record: `each-visited : EachVisited`. First the two halves of a report, then the claim.
use Prim.Native.Nat.{ℕ}
use mathlib.Core.Path.{◌≡◌, ap}
use mathlib.Core.List.{List, []}
use native.Mathlib.Omega.{arith}
use Rattle.reports.specs.Statistics.{Statistic}
use Rattle.reports.specs.Report as report
use Rattle.reports.specs.Report.{Report, DeviceError, report_of, without_statistics, without_errors}
use Rattle.reports.specs.Walk.{EachVisited}
use Rattle.reports.proofs.Reports.{visits-all, all-visited, device-read-as}
use Rattle.reports.proofs.StatisticsWalk as tail

-- ---- the two halves: a report whose half is whole is whole
pub errors-whole : (p : Report) (xs : List DeviceError) → without_statistics p ≡ report.Whole xs [] → (ys : List Statistic) × (p ≡ report.Whole xs ys)
errors-whole (report.Whole us ys) xs e =
    let q : us ≡ xs = cc in
    (ys, ap (λ (x : List DeviceError). report.Whole x ys) q)
errors-whole report.Malformed xs e = let z : ◌≡◌ {A = ℕ} 0 1 = cc in absurd (omega arith)

pub statistics-whole : (p : Report) (ys : List Statistic) → without_errors p ≡ report.Whole [] ys → (xs : List DeviceError) × (p ≡ report.Whole xs ys)
statistics-whole (report.Whole xs us) ys e =
    let q : us ≡ ys = cc in
    (xs, ap (report.Whole xs) q)
statistics-whole report.Malformed ys e = let z : ◌≡◌ {A = ℕ} 0 1 = cc in absurd (omega arith)

-- ---- the claim
pub each-visited : EachVisited
each-visited s = record {
  errors = λ xs. (λ w. errors-whole (report_of s) xs (visits-all s w), λ e. all-visited s (ap without_statistics e.1));
  given = λ at next h l st e. (device-read-as s at e).given;
  statistics = λ ys. (λ w. statistics-whole (report_of s) ys (tail.visits-all s w), λ e. tail.all-visited s (ap without_errors e.1));
  stated = λ c next h l r w e. tail.stated s c e;
}
