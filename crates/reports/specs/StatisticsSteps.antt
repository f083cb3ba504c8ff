-- MODEL of the code: the walk of the statistics records. Walk.antt states that the steps from the start visit the statistics records of `report_of`.
--     Item, next_of               what stands at a cursor, as `next` answers it; `item_of` is that answer of the code as an Item
--     statistics_from             the statistics records from a cursor on; `after_next` says the same by what stands there
--     tally                      what a caller makes of them
use Rattle.std.specs.Prelude.{ℕ, ◌-◌, List, [], ◌∷◌, cond, length, take, drop, eqb, Option, Some, None, Result, Ok, Err}
use Rattle.xdr.specs.Be.{be_nat}
use Rattle.reports.specs.Device.{halves}
use Rattle.xdr.specs.Reader.{Read, Got, Bad, in_turn}
use Rattle.reports.specs.Statistics.{Statistic, iostats}
use Rattle.reports.specs.Report as report
use Rattle.reports.specs.Report.{Report, over}
use Rattle.reports.specs.declared.cursor.Cursor.{Cursor}
use Rattle.reports.specs.declared.statistics.Statistic.{Statistic as FoundStatistic}
use Rattle.reports.specs.declared.Malformed.{Malformed as NotFound}

-- nothing may follow the statistics records
abbrev pub tail_of : Read (List Statistic) → Report
tail_of Bad = report.Malformed
tail_of (Got ys t) = cond (eqb (length t) 0) (report.Whole [] ys) report.Malformed

abbrev pub counting : Statistic → Report → Report
counting y (report.Whole xs ys) = report.Whole xs (y ∷ ys)
counting y report.Malformed = report.Malformed

-- ---- the code's answers
-- a record: its device's two halves, its bytes read and written, and the cursor past it; or no record is to come, and nothing follows
pub data Item : Type 0 where
  Given : (high low read written : ℕ) (next : Cursor) → Item
  End : Item
  Malformed : Item

abbrev pub item_of : Result (Option FoundStatistic) NotFound → Item
item_of (Ok (Some y)) = Given y.high y.low y.read y.written y.next
item_of (Ok None) = End
item_of (Err e) = Malformed

abbrev pub given_by : List ℕ → ℕ → Read Statistic → Item
given_by s n Bad = Malformed
given_by s n (Got y t) =
    Given (halves y.device).high (halves y.device).low y.read y.written (record { at = length s - length t; left = n - 1 })

unfoldable pub next_of : List ℕ → Cursor → Item
next_of s c = cond (eqb c.left 0) (cond (eqb (length s - c.at) 0) End Malformed) (given_by s c.left (iostats (drop c.at s)))

-- ---- the statistics records from a cursor on
unfoldable pub statistics_from : List ℕ → Cursor → Report
statistics_from s c = tail_of (in_turn c.left iostats (drop c.at s))

-- the record that the first 80 bytes begin: its device and its counts stand in fixed places
abbrev pub statistic_in : List ℕ → Statistic
statistic_in s = record { device = take 16 (drop 64 s); read = be_nat 8 (drop 40 s); written = be_nat 8 (drop 56 s) }

abbrev pub statistic_at : List ℕ → Cursor → Statistic
statistic_at s c = statistic_in (drop c.at s)

abbrev pub after_next : List ℕ → Cursor → Item → Report
after_next s c (Given h l r w next) = counting (statistic_at s c) (statistics_from s next)
after_next s c End = report.Whole [] []
after_next s c Malformed = report.Malformed

-- `g` over the statistics records of a report, from `a` on; `bad` where it is malformed
unfoldable pub tally : {A : Type 0} → (A → Statistic → A) → A → A → Report → A
tally g bad a (report.Whole xs ys) = over g a ys
tally g bad a report.Malformed = bad
