-- DEFINITION. The two walks of a body, step by step from their starts: one visits each device error of the report once and in their order, the other each
-- statistics record (Rules 3.3).
--     Row                the device errors of a record, each as it is read
--     Walk, Given        the device errors that the steps from a cursor on give, where they end well; the numbers that are handed out of one
--     TailWalk, Stated   the same of the statistics records
--     EachVisited        the claim, which proofs/Walk.antt proves
use Rattle.std.specs.Prelude.{ℕ, zero, suc, ◌≡◌, ◌↔◌, List, [], ◌∷◌, ◌++◌, drop}
use Rattle.reports.specs.Device.{halves}
use Rattle.reports.specs.Statistics.{Statistic}
use Rattle.reports.specs.Report.{Whole, DeviceError, report_of, status_of}
use Rattle.reports.specs.Cursors.{cursor_at}
use Rattle.reports.specs.ReportSteps.{error_in, next_at, device_at, statistics_start}
use Rattle.reports.specs.StatisticsSteps.{next_of, statistics_from, statistic_at}
use Rattle.reports.specs.declared.cursor.Cursor.{Cursor}
use Rattle.reports.specs.ReportSteps.{Record, Statistics}
use Rattle.reports.specs.ReportSteps.{Error}
use Rattle.reports.specs.StatisticsSteps as item

-- ---- device errors
-- n device errors from a place on: each is the one whose 24 bytes stand there, and the next stands past it
pub data Row (s : List ℕ) : ℕ → ℕ → List DeviceError → Type 0 where
  none : {at : ℕ} → Row s at zero []
  one : {at next n h l st : ℕ} {xs : List DeviceError} → device_at s at ≡ Error h l st next → Row s next n xs → Row s at (suc n) (error_in (drop at s) ∷ xs)

-- a step comes to statistics records that are well formed, or gives a record with its device errors
pub data Walk (s : List ℕ) : Cursor → List DeviceError → Type 0 where
  ends : {c t : Cursor} → next_at s c ≡ Statistics t → status_of (statistics_from s t) ≡ 0 → Walk s c []
  gives : {c next : Cursor} {at n : ℕ} {xs ys : List DeviceError} → next_at s c ≡ Record at n next → Row s at n xs → Walk s next ys → Walk s c (xs ++ ys)

-- the halves of its device, and its status
pub record Given (x : DeviceError) (h l st : ℕ) : Type 0 where
  pub device : halves x.device ≡ record { high = h; low = l }
  pub status : x.status ≡ st

-- ---- statistics records
-- a step ends well, or gives the record that begins at the cursor
pub data TailWalk (s : List ℕ) : Cursor → List Statistic → Type 0 where
  tail-ends : {c : Cursor} → next_of s c ≡ item.End → TailWalk s c []
  tail-gives : {c next : Cursor} {h l r w : ℕ} {ys : List Statistic} → next_of s c ≡ item.Given h l r w next → TailWalk s next ys → TailWalk s c (statistic_at s c ∷ ys)

-- the halves of its device, and its bytes read and written
pub record Stated (y : Statistic) (h l r w : ℕ) : Type 0 where
  pub device : halves y.device ≡ record { high = h; low = l }
  pub read : y.read ≡ r
  pub written : y.written ≡ w

-- ---- the claim
-- the steps from the start give xs exactly when the report is whole and xs are its device errors, those from the start of its statistics ys exactly when it is
-- whole and ys are its statistics records; and each that is given has the numbers that are handed out
pub record Visits (s : List ℕ) : Type 0 where
  pub errors : (xs : List DeviceError) → Walk s (cursor_at s 0) xs ↔ ((ys : List Statistic) × (report_of s ≡ Whole xs ys))
  pub given : (at next h l st : ℕ) → device_at s at ≡ Error h l st next → Given (error_in (drop at s)) h l st
  pub statistics : (ys : List Statistic) → TailWalk s (statistics_start s) ys ↔ ((xs : List DeviceError) × (report_of s ≡ Whole xs ys))
  pub stated : (c next : Cursor) (h l r w : ℕ) → next_of s c ≡ item.Given h l r w next → Stated (statistic_at s c) h l r w

abbrev pub EachVisited : Type 0
EachVisited = (s : List ℕ) → Visits s
