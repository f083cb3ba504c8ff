-- MODEL of the code: what C is handed of a report, of which crate `reports` has the steps. Walk.antt states what C's calls hand out.
--     Answer, answer_of                     what comes next at a cursor of three numbers, and the code's answer as that
--     error_given, first_at                   what it is, by what stands there
--     Numbers, handed                       what `sc_report_next` answers and leaves in the numbers that it is lent
--     StatisticNumbers, handed_statistic     the same for `sc_statistics_next`
use Rattle.std.specs.Prelude.{ℕ, zero, suc, ◌+◌, ◌-◌, List, cond, eqb, Option, Some, None, Result, Ok, Err}
use Rattle.reports.specs.Report.{status_of}
use Rattle.reports.specs.Cursors.{cursor_at}
use Rattle.reports.specs.ReportSteps.{next_at, device_at, statistics_start}
use Rattle.reports.specs.StatisticsSteps.{next_of, statistics_from}
use Rattle.reports.specs.declared.cursor.Cursor.{Cursor}
use Rattle.reports.specs.ReportSteps.{Entry, Record, Statistics, Malformed, Reading}
use Rattle.reports.specs.ReportSteps as steps
use Rattle.reports.specs.StatisticsSteps.{Item}
use Rattle.reports.specs.StatisticsSteps as item
use Rattle.statuses.specs.declared.Status.{Status}
use Rattle.statuses.specs.Numbers.{number}
use Rattle.flexfiles.specs.declared.ErrorCursor.{ErrorCursor}
use Rattle.flexfiles.specs.declared.Named.{Named}

-- ---- the first device error from a cursor on
-- a device error: the place of its device's sixteen bytes, its status, and the cursor past it; or none: the status of step 5
pub data Answer : Type 0 where
  Error : (device status : ℕ) (next : ErrorCursor) → Answer
  Done : (status : ℕ) → Answer

abbrev pub answer_of : Result (Option Named) Status → Answer
answer_of (Ok (Some e)) = Error e.device e.status e.next
answer_of (Ok None) = Done 0
answer_of (Err status) = Done (number status)

-- the one at a cursor where some are to come
abbrev pub error_given : ErrorCursor → Reading → Answer
error_given c (steps.Error h l st next) = Error c.at st (record { at = next; records = c.records; devices = c.devices - 1 })
error_given c steps.Missing = Done 10036

-- where none is, by what stands among the records; `k` goes on with a record's device errors
abbrev pub first_by : List ℕ → Entry → (ErrorCursor → Answer) → Answer
first_by s (Record at n next) k = k (record { at = at; records = next.left; devices = n })
first_by s (Statistics c) k = Done (status_of (statistics_from s c))
first_by s Malformed k = Done 10036

abbrev pub records_at : ErrorCursor → Cursor
records_at c = record { at = c.at; left = c.records }

abbrev pub first_step : List ℕ → ErrorCursor → (ErrorCursor → Answer) → Answer
first_step s c k = cond (eqb c.devices 0) (first_by s (next_at s (records_at c)) k) (error_given c (device_at s c.at))

-- past at most n records
unfoldable pub first_past : ℕ → List ℕ → ErrorCursor → Answer
first_past zero s c = first_step s c (λ _. Done 10036)
first_past (suc n) s c = first_step s c (first_past n s)

unfoldable pub first_at : List ℕ → ErrorCursor → Answer
first_at s c = first_past c.records s c

-- ---- device errors
-- what C is handed: the answer, the cursor, and the place of the device's id in the body, and the status
pub record Numbers : Type 0 where
  pub answer : ℕ
  pub at : ℕ
  pub records : ℕ
  pub devices : ℕ
  pub device : ℕ
  pub status : ℕ

-- a cursor of three numbers; place 0 is the start
unfoldable pub resumed_at : List ℕ → ℕ → ℕ → ℕ → ErrorCursor
resumed_at s at r d =
    cond (eqb at 0) (record { at = (cursor_at s 0).at; records = (cursor_at s 0).left; devices = 0 }) (record { at = at; records = r; devices = d })

abbrev pub numbers_of : ℕ → ℕ → ℕ → Answer → Numbers
numbers_of at r d (Error i st next) =
    record { answer = 1; at = next.at; records = next.records; devices = next.devices; device = i; status = st }
numbers_of at r d (Done k) = record { answer = k; at = at; records = r; devices = d; device = 0; status = 0 }

unfoldable pub handed : List ℕ → ℕ → ℕ → ℕ → Numbers
handed s at r d = numbers_of at r d (first_at s (resumed_at s at r d))

-- ---- statistics records
-- what C is handed: the answer, the cursor, and the place of the device's id in the body, the bytes read and the bytes written
pub record StatisticNumbers : Type 0 where
  pub answer : ℕ
  pub at : ℕ
  pub left : ℕ
  pub device : ℕ
  pub read : ℕ
  pub written : ℕ

-- a cursor of two numbers; place 0 is the start
unfoldable pub resumed_tail : List ℕ → ℕ → ℕ → Cursor
resumed_tail s at n = cond (eqb at 0) (statistics_start s) (record { at = at; left = n })

-- a record's device stands 64 bytes after its begin, which is where the cursor is
abbrev pub statistic_numbers : ℕ → ℕ → Cursor → Item → StatisticNumbers
statistic_numbers at n c (item.Given h l r w next) = record { answer = 1; at = next.at; left = next.left; device = c.at + 64; read = r; written = w }
statistic_numbers at n c item.End = record { answer = 0; at = at; left = n; device = 0; read = 0; written = 0 }
statistic_numbers at n c item.Malformed = record { answer = 10036; at = at; left = n; device = 0; read = 0; written = 0 }

unfoldable pub handed_statistic : List ℕ → ℕ → ℕ → StatisticNumbers
handed_statistic s at n = statistic_numbers at n (resumed_tail s at n) (next_of s (resumed_tail s at n))
