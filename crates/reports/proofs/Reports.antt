-- The steps of a cursor visit the error records of a report, in their order, and come to its statistics records: from each cursor on, the report is what
-- stands at the cursor and then the report from the next cursor on. Each step goes forward, within the bytes.
-- In order: a step where no record is left; a device error that is all there; what a step takes; the records from a cursor on; that law; the place of the statistics records; a caller's fold; the walk as a list.
use Prim.Native.Nat.{ℕ, zero, suc, ◌+◌, ◌-◌, ◌*◌, ◌≤◌, ◌<◌}
use mathlib.Core.Path.{◌≡◌, refl, sym, ap, ◌∙◌}
use mathlib.Core.List.{List, [], ◌∷◌, ◌++◌}
use mathlib.Core.Bool.{Bool, true, false, cond}
use native.Mathlib.Omega.{arith}
use lib.ListN.{length, drop, length-drop}
use lib.Seq.{drop-drop}
use lib.Dec.{ltb, eqb}
use borrow.Author.Tests.{le-ltb, eq-eqb, ne_eqb, ltb-true, ltb-false, eqb-false}
use Rattle.xdr.specs.Be.{be_nat}
use Rattle.xdr.specs.Reader.{Read, Got, Bad, Reader, onward, ◌>>=◌, give, in_turn}
use Rattle.xdr.specs.Past.{past_of}
use Rattle.reports.specs.Statistics.{Statistic}
use Rattle.reports.specs.Cursors.{nowhere, cursor_at}
use Rattle.reports.specs.StatisticsSteps.{statistics_from, tally}
use Rattle.reports.specs.Report.{Report, DeviceError, ioerr, joined, report_of, status_of, without_statistics, over, outcome}
use Rattle.reports.specs.Report as report
use Rattle.reports.specs.Walk.{Row, none, one, Walk, ends, gives, Given}
use Rattle.reports.specs.ReportSteps.{naming, error_in, errors_in, record_at, entry_at, next_at, device_at, start_past, statistics_start, statistics, records_then, report_from, errors_from, after, end_of}
use Rattle.reports.specs.declared.cursor.Cursor.{Cursor}
use Rattle.reports.specs.ReportSteps.{Entry, Record, Statistics, Malformed}
use Rattle.reports.specs.ReportSteps.{Reading, Error, Missing}
use Rattle.reports.proofs.Devices.{halves-taken}
use Rattle.reports.proofs.Cursors.{rows-begin, same-cursor}
use Rattle.reports.proofs.ReportModel.{device-row, device-row-cut, no-record-read, record-cut, record-at, none_named, before-records, as_read}
use Rattle.xdr.proofs.Readers.{by-test}
use Rattle.reports.proofs.StatisticsWalk.{only-statistics, tail-begins, tally-rest}

-- ---- a step where no record is left
module _ (s : List ℕ) (c : Cursor) where
  pub no_record : c.left ≡ 0 → {t : Cursor} → t ≡ cursor_at s c.at → Statistics t ≡ next_at s c
  unfolding next_at
  no_record z e = simp (eq-eqb c.left 0 z, e)

-- ---- a device error whose bytes are all there
module _ (s : List ℕ) (at : ℕ) where
  pub device-found : 24 ≤ length s - at → {hi lo st : ℕ} → hi ≡ be_nat 8 (drop at s) → lo ≡ be_nat 8 (drop (at + 8) s) → st ≡ be_nat 4 (drop (at + 16) s)
      → Error hi lo st (at + 24) ≡ device_at s at
  unfolding device_at
  device-found h p q r = simp (le-ltb (length s - at) 24 h, p, q, r)

-- ---- a step takes at least 36 bytes and stays within the bytes: a walk of s makes at most length s / 36 + 1 steps, whatever the counts say
pub record Forward (s : List ℕ) (c : Cursor) (at n : ℕ) (next : Cursor) : Type 0 where
  pub begins : at ≡ c.at + 36
  pub further : next.at ≡ at + 24 * n
  pub within : next.at ≤ length s
  pub fewer : c.left ≡ suc next.left

abbrev Stepped : List ℕ → Cursor → Entry → Type 0
Stepped s c (Record at n next) = Forward s c at n next
Stepped s c (Statistics t) = t ≡ cursor_at s c.at
Stepped s c Malformed = Unit

stepped : (s : List ℕ) (c : Cursor) → Stepped s c (next_at s c)
unfolding next_at
stepped s c =
    by-test (Stepped s c) (eqb c.left 0) _ _ (λ _. refl)
    (λ z. by-test (Stepped s c) (ltb (length s - c.at) 36) _ _ (λ _. tt)
    (λ h. by-test (Stepped s c) (ltb (length s - c.at - 36) (24 * be_nat 4 (drop (c.at + 32) s))) _ _ (λ _. tt)
    (λ g. record { begins = refl; further = refl; within = fits (be_nat 4 (drop (c.at + 32) s)) (ltb-false (length s - c.at) 36 h) (ltb-false _ _ g); fewer = one_less z })))
  where
    fits : (n : ℕ) → 36 ≤ length s - c.at → 24 * n ≤ length s - c.at - 36 → c.at + 36 + 24 * n ≤ length s
    fits n h g = omega arith

    one_less : eqb c.left 0 ≡ false → c.left ≡ suc (c.left - 1)
    one_less z =
        let n : c.left ≡ 0 → ⊥ = eqb-false c.left 0 z in
        omega arith

pub goes_on : (s : List ℕ) (c : Cursor) {at n : ℕ} {next : Cursor} → next_at s c ≡ Record at n next → Forward s c at n next
goes_on s c e = rw e at (stepped s c)

-- a device error that is read is what the definition says, and the next one stands past it
pub record Reads (s : List ℕ) (at hi lo st next : ℕ) : Type 0 where
  pub given : Given (error_in (drop at s)) hi lo st
  pub past : next ≡ at + 24
  pub within : at + 24 ≤ length s

abbrev ReadAs : List ℕ → ℕ → Reading → Type 0
ReadAs s at (Error hi lo st next) = Reads s at hi lo st next
ReadAs s at Missing = length s - at < 24

read_as : (s : List ℕ) (at : ℕ) → ReadAs s at (device_at s at)
unfolding device_at
read_as s at =
    by-test (ReadAs s at) (ltb (length s - at) 24) _ _ (λ h. ltb-true (length s - at) 24 h)
    (λ h. record {
      given = record { device = simp (halves-taken, drop-drop); status = simp drop-drop };
      past = refl;
      within = omega (arith, ltb-false (length s - at) 24 h);
    })

pub device-read-as : (s : List ℕ) (at : ℕ) {hi lo st next : ℕ} → device_at s at ≡ Error hi lo st next → Reads s at hi lo st next
device-read-as s at e = rw e at (read_as s at)

pub device-missing : (s : List ℕ) (at : ℕ) → device_at s at ≡ Missing → length s - at < 24
device-missing s at e = rw e at (read_as s at)

-- ---- the records from a cursor on, by what stands there
abbrev rows_by : List ℕ → ℕ → Entry → Read (List (List DeviceError))
rows_by s at (Record a n next) = onward (in_turn next.left ioerr (drop next.at s)) (λ rs. give (errors_in n (drop a s) ∷ rs))
rows_by s at (Statistics t) = Got [] (drop at s)
rows_by s at Malformed = Bad

module _ (s : List ℕ) (at r : ℕ) where
  abbrev more : List DeviceError → Reader (List (List DeviceError))
  more xs = in_turn r ioerr >>= λ rs. give (xs ∷ rs)

  by_count : (n : ℕ) → n ≡ be_nat 4 (drop (at + 32) s) → 36 ≤ length s - at → (b : Bool) → ltb (length s - at - 36) (24 * n) ≡ b
      → onward (ioerr (drop at s)) more ≡ rows_by s at (cond b Malformed (Record (at + 36) n (record { at = at + 36 + 24 * n; left = suc r - 1 })))
  by_count n e h true g =
      let l : length s - at - 36 < 24 * n = ltb-true (length s - at - 36) (24 * n) g in
      rw (record-at s at e h, device-row-cut n (drop (at + 36) s) (rw length-drop (omega arith)))
  by_count n e h false g =
      let l : 24 * n ≤ length s - at - 36 = ltb-false (length s - at - 36) (24 * n) g in
      let p : suc r - 1 ≡ r = omega arith in
      rw (record-at s at e h, device-row n (drop (at + 36) s) (rw length-drop (omega arith)), drop-drop, p)

  by-room : (b : Bool) → ltb (length s - at) 36 ≡ b → onward (ioerr (drop at s)) more ≡ rows_by s at (cond b Malformed (record_at s at (suc r) (be_nat 4 (drop (at + 32) s))))
  by-room true g = rw (record-cut s at (ltb-true (length s - at) 36 g))
  by-room false g =
      by_count (be_nat 4 (drop (at + 32) s)) refl (ltb-false (length s - at) 36 g) (ltb (length s - at - 36) (24 * be_nat 4 (drop (at + 32) s))) refl

rows_at : (s : List ℕ) (at n : ℕ) → in_turn n ioerr (drop at s) ≡ rows_by s at (entry_at s at n)
unfolding in_turn
rows_at s at zero = refl
rows_at s at (suc r) =
    let z : eqb (suc r) 0 ≡ false = ne_eqb (suc r) 0 (λ h. omega arith) in
    rw z (by-room s at r (ltb (length s - at) 36) refl)

rows : (s : List ℕ) (c : Cursor) → in_turn c.left ioerr (drop c.at s) ≡ rows_by s c.at (next_at s c)
unfolding next_at
rows s c = rows_at s c.at c.left

-- ---- the law of a walk
-- the statistics records are those from the cursor on that stands after the last error record
at_last : (s : List ℕ) (at : ℕ) → statistics (drop at s) ≡ statistics_from s (cursor_at s at)
unfolding statistics
at_last s at = sym (tail-begins s at)

rows-after : (s : List ℕ) (c : Cursor) (e : Entry) → Stepped s c e → records_then (rows_by s c.at e) ≡ after s e
unfolding after report_from joined
rows-after s c (Record at n next) h = before-records (errors_in n (drop at s)) (in_turn next.left ioerr (drop next.at s))
rows-after s c (Statistics t) h = none_named (statistics (drop c.at s)) ∙ at_last s c.at ∙ ap (statistics_from s) (sym h)
rows-after s c Malformed h = refl

-- the report from a cursor on is what stands there and then the report from the next cursor on
pub unrolled : (s : List ℕ) (c : Cursor) → report_from s c ≡ after s (next_at s c)
unfolding report_from
unrolled s c = ap records_then (rows s c) ∙ rows-after s c (next_at s c) (stepped s c)

-- the walk begins with the whole report
pub begins : (s : List ℕ) → report_from s (cursor_at s 0) ≡ report_of s
unfolding report_from
begins s = ap records_then (rows-begin ioerr no-record-read s 0) ∙ sym (as_read s)

turn : (s : List ℕ) (c : Cursor) {e : Entry} → next_at s c ≡ e → report_from s c ≡ after s e
turn s c h = unrolled s c ∙ ap (after s) h

-- ---- where the statistics records begin: with the invariant `past_from s c ≡ answer` a turn keeps the answer, and each way out gives it
abbrev pub past_from : List ℕ → Cursor → Cursor
past_from s c = start_past s (past_of (length s) (in_turn c.left ioerr (drop c.at s)))

past-kept : {A B : Type 0} (n : ℕ) (f : A → B) (r : Read A) → past_of n (onward r (λ x. give (f x))) ≡ past_of n r
past-kept n f Bad = refl
past-kept n f (Got x t) = refl

past-turn : (s : List ℕ) (c : Cursor) {e : Entry} → next_at s c ≡ e → past_from s c ≡ start_past s (past_of (length s) (rows_by s c.at e))
past-turn s c {e} h = ap (λ (r : Read (List (List DeviceError))). start_past s (past_of (length s) r)) (rows s c ∙ ap (rows_by s c.at) h)

module _ (s : List ℕ) (c : Cursor) {answer : Cursor} (inv : past_from s c ≡ answer) where
  pub past-record : {at n : ℕ} {next : Cursor} → next_at s c ≡ Record at n next → past_from s next ≡ answer
  past-record {at} {n} {next} e =
      sym (ap (start_past s) (past-kept (length s) (λ rs. errors_in n (drop at s) ∷ rs) (in_turn next.left ioerr (drop next.at s)))) ∙ sym (past-turn s c e) ∙ inv

  pub past-statistics : {t : Cursor} → next_at s c ≡ Statistics t → t ≡ answer
  past-statistics {t} e =
      let h : t ≡ cursor_at s c.at = rw e at (stepped s c) in
      let k : start_past s (past_of (length s) (rows_by s c.at (Statistics t))) ≡ cursor_at s c.at = rw length-drop (same-cursor s c.at) in
      h ∙ sym k ∙ sym (past-turn s c e) ∙ inv

  pub past-malformed : next_at s c ≡ Malformed → {t : Cursor} → t ≡ nowhere s → t ≡ answer
  past-malformed e h = h ∙ sym (past-turn s c e) ∙ inv

pub past-begins : (s : List ℕ) {c : Cursor} → c ≡ cursor_at s 0 → past_from s c ≡ statistics_start s
unfolding statistics_start
past-begins s e = ap (past_from s) e ∙ ap (λ (r : Read (List (List DeviceError))). start_past s (past_of (length s) r)) (rows-begin ioerr no-record-read s 0)

-- ---- what a caller folds over the device errors and then over the statistics records: the laws of one turn, for any state `A` and any `f` and `g`. With
-- the invariant `outcome f g bad a (report_from s c) ≡ answer` a turn keeps the answer, and each way out gives it; past the error records the laws of
-- StatisticsWalk.antt go on. `row_more` and `row_done` are those of the device errors of one record; `device-read-as` says which halves and status each has.
over-both : {A B : Type 0} (f : A → B → A) (a : A) (xs ys : List B) → over f a (xs ++ ys) ≡ over f (over f a xs) ys
unfolding over
over-both f a [] ys = refl
over-both f a (x ∷ xs) ys = over-both f (f a x) xs ys

all_named : {A : Type 0} (f : A → DeviceError → A) (g : A → Statistic → A) (bad a : A) (xs : List DeviceError) (p : Report)
    → outcome f g bad a (naming xs p) ≡ outcome f g bad (over f a xs) p
unfolding outcome
all_named f g bad a xs (report.Whole ys zs) = ap (λ b. over g b zs) (over-both f a xs ys)
all_named f g bad a xs report.Malformed = refl

module _ {A : Type 0} (f : A → DeviceError → A) (g : A → Statistic → A) (bad a : A) (s : List ℕ) (c : Cursor) {answer : A} (inv : outcome f g bad a (report_from s c) ≡ answer) where
  pub fold-record : {at n : ℕ} {next : Cursor} → next_at s c ≡ Record at n next → outcome f g bad (over f a (errors_in n (drop at s))) (report_from s next) ≡ answer
  unfolding after
  fold-record {at} {n} {next} e = sym (all_named f g bad a (errors_in n (drop at s)) (report_from s next)) ∙ sym (ap (outcome f g bad a) (turn s c e)) ∙ inv

  pub fold-statistics : {t : Cursor} → next_at s c ≡ Statistics t → tally g bad a (statistics_from s t) ≡ answer
  unfolding after
  fold-statistics {t} e = sym (tally-rest f g bad a s t) ∙ sym (ap (outcome f g bad a) (turn s c e)) ∙ inv

  pub fold-malformed : next_at s c ≡ Malformed → bad ≡ answer
  unfolding after outcome
  fold-malformed e = sym (ap (outcome f g bad a) (turn s c e)) ∙ inv

pub fold-begins : {A : Type 0} (f : A → DeviceError → A) (g : A → Statistic → A) (bad a : A) (s : List ℕ) {c : Cursor} → c ≡ cursor_at s 0
    → outcome f g bad a (report_from s c) ≡ outcome f g bad a (report_of s)
fold-begins f g bad a s e = ap (λ (x : Cursor). outcome f g bad a (report_from s x)) e ∙ ap (outcome f g bad a) (begins s)

module _ {A : Type 0} (f : A → DeviceError → A) (a : A) (s : List ℕ) (at : ℕ) where
  pub row_more : (n : ℕ) {answer : A} → over f a (errors_in n (drop at s)) ≡ answer → (n ≡ 0 → ⊥) → over f (f a (error_in (drop at s))) (errors_in (n - 1) (drop (at + 24) s)) ≡ answer
  unfolding errors_in over
  row_more zero inv z = absurd (z refl)
  row_more (suc n) inv z =
      let p : suc n - 1 ≡ n = omega arith in
      rw p (rw (drop-drop 24 at s) at inv)

  pub row_done : (n : ℕ) {answer : A} → over f a (errors_in n (drop at s)) ≡ answer → n ≡ 0 → a ≡ answer
  unfolding errors_in over
  row_done zero inv z = inv
  row_done (suc n) inv z = absurd (omega arith)

-- ---- the walk as a list: the device errors that the steps from a cursor on give, where they end well, are those of the report
-- the statistics records name no device errors: those alone are none, if the records are well formed
no-errors : (s : List ℕ) (t : Cursor) → without_statistics (statistics_from s t) ≡ end_of (status_of (statistics_from s t))
no-errors = only-statistics (λ p. without_statistics p ≡ end_of (status_of p)) (λ ys. refl) refl

pub errors-named : (xs : List DeviceError) (p : Report) → without_statistics (naming xs p) ≡ naming xs (without_statistics p)
errors-named xs (report.Whole ys zs) = refl
errors-named xs report.Malformed = refl

-- a turn, by the device errors alone
module _ (s : List ℕ) (c : Cursor) where
  errors-turn : {e : Entry} → next_at s c ≡ e → errors_from s c ≡ without_statistics (after s e)
  errors-turn e = ap without_statistics (turn s c e)

  pub record-turn : {at n : ℕ} {next : Cursor} → next_at s c ≡ Record at n next → errors_from s c ≡ naming (errors_in n (drop at s)) (errors_from s next)
  unfolding after
  record-turn {at} {n} {next} e = errors-turn e ∙ errors-named (errors_in n (drop at s)) (report_from s next)

  pub last_turn : {t : Cursor} → next_at s c ≡ Statistics t → errors_from s c ≡ end_of (status_of (statistics_from s t))
  unfolding after
  last_turn {t} e = errors-turn e ∙ no-errors s t

  pub bad-turn : next_at s c ≡ Malformed → errors_from s c ≡ report.Malformed
  unfolding after
  bad-turn e = errors-turn e

-- the device errors of a record are read one by one
row_is : (s : List ℕ) {at n : ℕ} {xs : List DeviceError} → Row s at n xs → errors_in n (drop at s) ≡ xs
unfolding errors_in
row_is s none = refl
row_is s (one {at = at} {n = n} e r) =
    let q = (device-read-as s at e).past in
    ap (◌∷◌ (error_in (drop at s))) (rw (drop-drop 24 at s, ← q) (row_is s r))

row_read : (s : List ℕ) (n at : ℕ) → at + 24 * n ≤ length s → Row s at n (errors_in n (drop at s))
unfolding errors_in
row_read s zero at h = none
row_read s (suc n) at h =
    let k : 24 ≤ length s - at = omega arith in
    let r : Row s (at + 24) n (errors_in n (drop (at + 24) s)) = row_read s n (at + 24) (omega arith) in
    rw (drop-drop 24 at s) (one (sym (device-found s at k refl refl refl)) r)

visits : (s : List ℕ) {c : Cursor} {xs : List DeviceError} → Walk s c xs → errors_from s c ≡ report.Whole xs []
visits s {c} (ends e z) = last_turn s c e ∙ rw z
visits s {c} (gives {next = next} e r w) = record-turn s c e ∙ ap (λ (l : List DeviceError). naming l (errors_from s next)) (row_is s r) ∙ ap (naming _) (visits s w)

pub visits-all : (s : List ℕ) {xs : List DeviceError} → Walk s (cursor_at s 0) xs → without_statistics (report_of s) ≡ report.Whole xs []
visits-all s w = sym (ap without_statistics (begins s)) ∙ visits s w

-- and a report that is whole is walked to its end
same_rest : (xs : List DeviceError) (p : Report) (zs : List DeviceError) (P : List DeviceError → Type 0) → naming xs p ≡ report.Whole zs []
    → ((ys : List DeviceError) → p ≡ report.Whole ys [] → P (xs ++ ys)) → P zs
same_rest xs (report.Whole ys us) zs P e k =
    let q : xs ++ ys ≡ zs = cc in
    let z : us ≡ [] = cc in
    rw q at (k ys (ap (report.Whole ys) z))
same_rest xs report.Malformed zs P e k = let z : ◌≡◌ {A = ℕ} 0 1 = cc in absurd (omega arith)

ends_at : (s : List ℕ) (c : Cursor) (xs : List DeviceError) (t : Cursor) → next_at s c ≡ Statistics t → (p : Report) → statistics_from s t ≡ p → end_of (status_of p) ≡ report.Whole xs [] → Walk s c xs
ends_at s c xs t q (report.Whole us ys) h e =
    let z : [] ≡ xs = cc in
    rw z at (ends {c = c} q (ap status_of h))
ends_at s c xs t q report.Malformed h e = let z : ◌≡◌ {A = ℕ} 0 1 = cc in absurd (omega arith)

step-on : (m : ℕ) (s : List ℕ) (c : Cursor) (xs : List DeviceError) → length s - c.at < suc m → errors_from s c ≡ report.Whole xs []
    → ((next : Cursor) (ys : List DeviceError) → length s - next.at < m → errors_from s next ≡ report.Whole ys [] → Walk s next ys)
    → (t : Entry) → next_at s c ≡ t → Walk s c xs
step-on m s c xs h e go (Record at n next) q =
    let f = goes_on s c q in
    same_rest (errors_in n (drop at s)) (errors_from s next) xs (Walk s c) (sym (record-turn s c q) ∙ e)
    (λ ys r. gives q (row_read s n at (omega arith)) (go next ys (omega arith) r))
step-on m s c xs h e go (Statistics t) q = ends_at s c xs t q (statistics_from s t) refl (sym (last_turn s c q) ∙ e)
step-on m s c xs h e go Malformed q = let z : ◌≡◌ {A = ℕ} 0 1 = cc (bad-turn s c q) in absurd (omega arith)

walked : (m : ℕ) (s : List ℕ) (c : Cursor) (xs : List DeviceError) → length s - c.at < m → errors_from s c ≡ report.Whole xs [] → Walk s c xs
walked zero s c xs h e = absurd (omega arith)
walked (suc m) s c xs h e = step-on m s c xs h e (λ next ys. walked m s next ys) (next_at s c) refl

pub all-visited : (s : List ℕ) {xs : List DeviceError} → without_statistics (report_of s) ≡ report.Whole xs [] → Walk s (cursor_at s 0) xs
all-visited s {xs} e = walked (suc (length s - (cursor_at s 0).at)) s (cursor_at s 0) xs (omega arith) (ap without_statistics (begins s) ∙ e)
