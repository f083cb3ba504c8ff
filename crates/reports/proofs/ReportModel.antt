-- The definition of a report by its readers: a row of device errors, an error record, the whole body, and the statistics records in what the error records leave.
use Prim.Native.Nat.{ℕ, zero, suc, ◌+◌, ◌-◌, ◌*◌, ◌≤◌, ◌<◌}
use mathlib.Core.Path.{◌≡◌, refl, sym, ap, ◌∙◌}
use mathlib.Core.List.{List, [], ◌∷◌, ◌++◌, append_assoc, append-nil}
use mathlib.Core.Bool.{Bool, true, false, cond}
use native.Mathlib.Omega.{arith}
use borrow.Author.Tests.{lt-ltb, le-ltb, ltb-false}
use lib.ListN.{length, drop, length-drop}
use lib.Seq.{drop-drop}
use lib.Dec.{ltb, eqb}
use Rattle.xdr.specs.Be.{be_nat}
use Rattle.xdr.specs.Reader.{Read, Got, Bad, Reader, onward, ◌>>=◌, give, in_turn, counted}
use Rattle.reports.specs.Report.{Report, Whole, Malformed, DeviceError, Contents, device_error, ioerr, layoutreturn, joined, judged, report_of, without_errors}
use Rattle.reports.specs.Statistics.{Statistic, iostats}
use Rattle.reports.specs.StatisticsSteps.{tail_of}
use Rattle.reports.specs.ReportSteps.{naming, error_in, errors_in, statistics, records_then}
use Rattle.xdr.proofs.Readers.{Leads, no_bytes, number-first, opaque-first, then}
use Rattle.xdr.proofs.Ends.{Ends, number-ends, opaque-ends, give-ends, then-ends, counted-ends}

-- ---- device errors
-- a device error is 24 bytes
device-read : Leads 24 device_error (λ s. give (error_in s))
unfolding device_error
device-read = then (opaque-first 16) (λ device. then (number-first 4) (λ status. then (number-first 4) (λ operation. no_bytes _)))

-- d of them take 24 bytes each
pub device-row : (d : ℕ) (s : List ℕ) → 24 * d ≤ length s → in_turn d device_error s ≡ Got (errors_in d s) (drop (24 * d) s)
unfolding in_turn errors_in
device-row zero s h = refl
device-row (suc d) s h =
    let n : 24 + 24 * d ≡ 24 * suc d = omega arith in
    rw (device-read.reads s, le-ltb (length s) 24 (omega arith), device-row d (drop 24 s) (rw length-drop (omega arith)), drop-drop, n)

pub device-row-cut : (d : ℕ) (s : List ℕ) → length s < 24 * d → in_turn d device_error s ≡ Bad
unfolding in_turn
device-row-cut zero s h = absurd (omega arith)
device-row-cut (suc d) s h = rw (device-read.reads s) (by_size (ltb (length s) 24) refl (λ g. device-row-cut d (drop 24 s) (rw length-drop (omega arith))))
  where
    more : DeviceError → Reader (List DeviceError)
    more x = in_turn d device_error >>= λ xs. give (x ∷ xs)

    by_size : (b : Bool) → ltb (length s) 24 ≡ b → (24 ≤ length s → in_turn d device_error (drop 24 s) ≡ Bad)
        → onward (cond b Bad (Got (error_in s) (drop 24 s))) more ≡ Bad
    by_size true e go = refl
    by_size false e go = rw (go (ltb-false (length s) 24 e))

-- ---- an error record is 36 bytes, the last four of which count its device errors, and then those
record-read : Leads 36 ioerr (λ s. in_turn (be_nat 4 (drop 16 (drop 8 (drop 8 s)))) device_error)
unfolding ioerr
record-read = then (number-first 8) (λ offset. then (number-first 8) (λ len. then (opaque-first 16) (λ stateid. then (number-first 4) (λ n. no_bytes _))))

pub no-record-read : ioerr [] ≡ Bad
no-record-read = record-read.reads []

module _ (s : List ℕ) (at : ℕ) where
  pub record-cut : length s - at < 36 → ioerr (drop at s) ≡ Bad
  record-cut h = rw (record-read.reads (drop at s), lt-ltb (length (drop at s)) 36 (rw length-drop h))

  pub record-at : {n : ℕ} → n ≡ be_nat 4 (drop (at + 32) s) → 36 ≤ length s - at → ioerr (drop at s) ≡ in_turn n device_error (drop (at + 36) s)
  record-at e h =
      let k : at + 8 + 8 + 16 ≡ at + 32 = omega arith in
      let c : drop 16 (drop 8 (drop 8 (drop at s))) ≡ drop (at + 32) s = simp (drop-drop, k) in
      rw (record-read.reads (drop at s), le-ltb (length (drop at s)) 36 (rw length-drop h), c, ← e, drop-drop)

error-ends : Ends device_error
unfolding device_error
error-ends = then-ends (opaque-ends 16) (λ device. then-ends (number-ends 4) (λ status. then-ends (number-ends 4) (λ operation. give-ends _)))

pub ioerr-ends : Ends ioerr
unfolding ioerr
ioerr-ends = then-ends (number-ends 8) (λ offset. then-ends (number-ends 8) (λ len. then-ends (opaque-ends 16) (λ stateid. counted-ends device_error error-ends)))

-- ---- device errors of a report
pub none_named : (p : Report) → naming [] p ≡ p
none_named (Whole xs ys) = refl
none_named Malformed = refl

pub named-twice : (xs ys : List DeviceError) (p : Report) → naming (xs ++ ys) p ≡ naming xs (naming ys p)
named-twice xs ys (Whole zs us) = ap (λ (l : List DeviceError). Whole l us) (append_assoc xs ys zs)
named-twice xs ys Malformed = refl

-- a record before others
pub before-records : (xs : List DeviceError) (q : Read (List (List DeviceError))) → records_then (onward q (λ rs. give (xs ∷ rs))) ≡ naming xs (records_then q)
unfolding joined
before-records xs Bad = refl
before-records xs (Got rs t) = named-twice xs (joined rs) (statistics t)

-- ---- the whole body
with-statistics : List (List DeviceError) → Reader Contents
with-statistics rs = counted iostats >>= λ ys. give (record { records = rs; statistics = ys })

last-read : (rs : List (List DeviceError)) (t : List ℕ) → judged (with-statistics rs t) ≡ naming (joined rs) (statistics t)
unfolding with-statistics statistics
last-read rs t = by-rest (counted iostats t)
  where
    by_end : (ys : List Statistic) (b : Bool) → cond b (Whole (joined rs) ys) Malformed ≡ naming (joined rs) (cond b (Whole [] ys) Malformed)
    by_end ys true = ap (λ (l : List DeviceError). Whole l ys) (sym (append-nil (joined rs)))
    by_end ys false = refl

    by-rest : (r : Read (List Statistic)) → judged (onward r (λ ys. give (record { records = rs; statistics = ys }))) ≡ naming (joined rs) (tail_of r)
    by-rest Bad = refl
    by-rest (Got ys u) = by_end ys (eqb (length u) 0)

all_read : (r : Read (List (List DeviceError))) → judged (onward r with-statistics) ≡ records_then r
all_read Bad = refl
all_read (Got rs t) = last-read rs t

-- a report is its error records, and then its statistics records
pub as_read : (s : List ℕ) → report_of s ≡ records_then (counted ioerr s)
unfolding report_of layoutreturn with-statistics
as_read s = all_read (counted ioerr s)

-- ---- by what the error records leave
pub no-errors-read : (s : List ℕ) → counted ioerr s ≡ Bad → report_of s ≡ Malformed
no-errors-read s e = as_read s ∙ ap records_then e

statistics-alone : (xs : List DeviceError) (r : Read (List Statistic)) → without_errors (naming xs (tail_of r)) ≡ tail_of r
statistics-alone xs Bad = refl
statistics-alone xs (Got ys t) = by_end (eqb (length t) 0)
  where
    by_end : (b : Bool) → without_errors (naming xs (cond b (Whole [] ys) Malformed)) ≡ cond b (Whole [] ys) Malformed
    by_end true = refl
    by_end false = refl

-- the statistics of a report are those of what its error records leave
pub rest-is : (s : List ℕ) {rs : List (List DeviceError)} {t : List ℕ} → counted ioerr s ≡ Got rs t → without_errors (report_of s) ≡ tail_of (counted iostats t)
unfolding statistics
rest-is s {rs} {t} e = ap without_errors (as_read s ∙ ap records_then e) ∙ statistics-alone (joined rs) (counted iostats t)
