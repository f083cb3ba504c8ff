-- MODEL of the code: the walk of the error records, and the report from a cursor on. Walk.antt states that the steps from the start visit
-- the device errors of `report_of`.
--     error_in, errors_in      the device errors that bytes hold
--     Entry, next_at           what stands at a cursor, as `next` answers it
--     Reading, device_at       the device error at a place, as `device` answers it
--     entry_of, reading_of     these answers of the code as Entry and Reading
--     statistics_start        what `statistics` answers
--     report_from             the report from a cursor on; `after` says the same by what stands there
use Rattle.std.specs.Prelude.{ℕ, zero, suc, ◌+◌, ◌-◌, ◌*◌, List, [], ◌∷◌, ◌++◌, cond, length, take, drop, ltb, eqb}
use Rattle.xdr.specs.Be.{be_nat}
use Rattle.xdr.specs.Reader.{Read, Got, Bad, in_turn, counted}
use Rattle.xdr.specs.Past.{past_of}
use Rattle.std.specs.Prelude.{Option, Some, None, Result, Ok, Err}
use Rattle.reports.specs.Statistics.{iostats}
use Rattle.reports.specs.Cursors.{nowhere, cursor_at}
use Rattle.reports.specs.StatisticsSteps.{tail_of, statistics_from}
use Rattle.reports.specs.Report as report
use Rattle.reports.specs.Report.{Report, DeviceError, ioerr, joined, without_statistics}
use Rattle.reports.specs.declared.cursor.Cursor.{Cursor}
use Rattle.reports.specs.declared.report.Entry.{Entry as FoundEntry}
use Rattle.reports.specs.declared.report.Entry.TheVariants as found
use Rattle.reports.specs.declared.report.DeviceError.{DeviceError as FoundError}
use Rattle.reports.specs.declared.Malformed.{Malformed as NotFound}

-- ---- a report as it is walked
-- device errors, and then those of a report
abbrev pub naming : List DeviceError → Report → Report
naming xs (report.Whole ys zs) = report.Whole (xs ++ ys) zs
naming xs report.Malformed = report.Malformed

-- the device error that the first 24 bytes hold
abbrev pub error_in : List ℕ → DeviceError
error_in s = record { device = take 16 s; status = be_nat 4 (drop 16 s) }

-- n of them in a row
unfoldable pub errors_in : ℕ → List ℕ → List DeviceError
errors_in zero s = []
errors_in (suc n) s = error_in s ∷ errors_in n (drop 24 s)

-- ---- the code's answers
-- an error record: where its device errors begin, how many they are, and the cursor past it; or the cursor at the first statistics record
pub data Entry : Type 0 where
  Record : (at devices : ℕ) (next : Cursor) → Entry
  Statistics : Cursor → Entry
  Malformed : Entry

abbrev pub entry_of : Result FoundEntry NotFound → Entry
entry_of (Ok (found.Record at n next)) = Record at n next
entry_of (Ok (found.Statistics c)) = Statistics c
entry_of (Err e) = Malformed

-- a device error: its device's two halves, its status, and the place past it; or its bytes are not all there
pub data Reading : Type 0 where
  Error : (high low status next : ℕ) → Reading
  Missing : Reading

abbrev pub reading_of : Option FoundError → Reading
reading_of (Some e) = Error e.high e.low e.status e.next
reading_of None = Missing

-- an error record of n device errors, where r records are to come
abbrev pub record_at : List ℕ → ℕ → ℕ → ℕ → Entry
record_at s at r n = cond (ltb (length s - at - 36) (24 * n)) Malformed (Record (at + 36) n (record { at = at + 36 + 24 * n; left = r - 1 }))

abbrev pub entry_at : List ℕ → ℕ → ℕ → Entry
entry_at s at r =
    cond (eqb r 0) (Statistics (cursor_at s at)) (cond (ltb (length s - at) 36) Malformed (record_at s at r (be_nat 4 (drop (at + 32) s))))

unfoldable pub next_at : List ℕ → Cursor → Entry
next_at s c = entry_at s c.at c.left

unfoldable pub device_at : List ℕ → ℕ → Reading
device_at s at =
    cond (ltb (length s - at) 24) Missing (Error (be_nat 8 (drop at s)) (be_nat 8 (drop (at + 8) s)) (be_nat 4 (drop (at + 16) s)) (at + 24))

-- the cursor past the error records of a body
abbrev pub start_past : List ℕ → Option ℕ → Cursor
start_past s None = nowhere s
start_past s (Some at) = cursor_at s at

unfoldable pub statistics_start : List ℕ → Cursor
statistics_start s = start_past s (past_of (length s) (counted ioerr s))

-- ---- the report from a cursor on
-- the statistics records, with which the report ends
unfoldable pub statistics : List ℕ → Report
statistics s = tail_of (counted iostats s)

-- error records, and then the statistics records in what they leave
abbrev pub records_then : Read (List (List DeviceError)) → Report
records_then Bad = report.Malformed
records_then (Got rs t) = naming (joined rs) (statistics t)

unfoldable pub report_from : List ℕ → Cursor → Report
report_from s c = records_then (in_turn c.left ioerr (drop c.at s))

-- the report from a cursor on, by what stands at the cursor
unfoldable pub after : List ℕ → Entry → Report
after s (Record at n next) = naming (errors_in n (drop at s)) (report_from s next)
after s (Statistics c) = statistics_from s c
after s Malformed = report.Malformed

-- its device errors alone
abbrev pub errors_from : List ℕ → Cursor → Report
errors_from s c = without_statistics (report_from s c)

-- the report without device errors that has a status
abbrev pub end_of : ℕ → Report
end_of k = cond (eqb k 0) (report.Whole [] []) report.Malformed
