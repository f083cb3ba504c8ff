-- DEFINITION. The error report of a LAYOUTRETURN, which is its body (RFC 8435, 9; Rules 3.3, 3.4).
--     DeviceError, device_error, ioerr, layoutreturn   the RFC's structures, a line a field
--     Report, report_of, status_of                      what step 5 makes of a body
--     without_statistics, without_errors                the two halves of a report
--     over, outcome                                   what a caller makes of a report
use Rattle.std.specs.Prelude.{ℕ, List, [], ◌∷◌, ◌++◌, cond, length, eqb}
use Rattle.xdr.specs.Reader.{Read, Got, Bad, Reader, ◌>>=◌, give, number, opaque, counted}
use Rattle.reports.specs.Statistics.{Statistic, iostats}

-- a device error: the device's sixteen bytes, and the status
pub record DeviceError : Type 0 where
  pub device : List ℕ
  pub status : ℕ

-- device_error4; the operation is not judged
unfoldable pub device_error : Reader DeviceError
device_error = do
  device ← opaque 16
  status ← number 4
  operation ← number 4
  give (record { device = device; status = status })

-- ff_ioerr4: its device errors; offset, length and stateid are not judged
unfoldable pub ioerr : Reader (List DeviceError)
ioerr = do
  offset ← number 8
  len ← number 8
  stateid ← opaque 16
  counted device_error

-- ff_layoutreturn4: its error records, then its statistics records
pub record Contents : Type 0 where
  pub records : List (List DeviceError)
  pub statistics : List Statistic

unfoldable pub layoutreturn : Reader Contents
layoutreturn = do
  records ← counted ioerr
  statistics ← counted iostats
  give (record { records = records; statistics = statistics })

-- ---- step 5
-- well formed, with its device errors and its statistics records in their order; or malformed
pub data Report : Type 0 where
  Whole : List DeviceError → List Statistic → Report
  Malformed : Report

unfoldable pub joined : List (List DeviceError) → List DeviceError
joined [] = []
joined (r ∷ rs) = r ++ joined rs

abbrev pub judged : Read Contents → Report
judged Bad = Malformed
judged (Got r rest) = cond (eqb (length rest) 0) (Whole (joined r.records) r.statistics) Malformed

unfoldable pub report_of : List ℕ → Report
report_of s = judged (layoutreturn s)

-- 0, 10036 BADXDR
abbrev pub status_of : Report → ℕ
status_of (Whole xs ys) = 0
status_of Malformed = 10036

-- ---- a report but for its statistics records, and but for its device errors
abbrev pub without_statistics : Report → Report
without_statistics (Whole xs ys) = Whole xs []
without_statistics Malformed = Malformed

abbrev pub without_errors : Report → Report
without_errors (Whole xs ys) = Whole [] ys
without_errors Malformed = Malformed

-- ---- what a caller makes of a report: `f` over its device errors and then `g` over its statistics records, in their order, from `a` on; `bad` where it is
-- malformed
unfoldable pub over : {A B : Type 0} → (A → B → A) → A → List B → A
over f a [] = a
over f a (x ∷ xs) = over f (f a x) xs

unfoldable pub outcome : {A : Type 0} → (A → DeviceError → A) → (A → Statistic → A) → A → A → Report → A
outcome f g bad a (Whole xs ys) = over g (over f a xs) ys
outcome f g bad a Malformed = bad
