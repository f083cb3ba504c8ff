-- The status of a report: device errors or a statistics record more, and either half alone, have the same status.
use mathlib.Core.Path.{◌≡◌, refl}
use mathlib.Core.List.{List}
use Rattle.reports.specs.Statistics.{Statistic}
use Rattle.reports.specs.Report.{Report, Whole, Malformed, DeviceError, status_of, without_statistics, without_errors}
use Rattle.reports.specs.StatisticsSteps.{counting}
use Rattle.reports.specs.ReportSteps.{naming}

pub named-status : (xs : List DeviceError) (p : Report) → status_of (naming xs p) ≡ status_of p
named-status xs (Whole ys zs) = refl
named-status xs Malformed = refl

pub counted-status : (y : Statistic) (p : Report) → status_of (counting y p) ≡ status_of p
counted-status y (Whole xs ys) = refl
counted-status y Malformed = refl

pub errors-status : (p : Report) → status_of (without_statistics p) ≡ status_of p
errors-status (Whole xs ys) = refl
errors-status Malformed = refl

pub statistics-status : (p : Report) → status_of (without_errors p) ≡ status_of p
statistics-status (Whole xs ys) = refl
statistics-status Malformed = refl
