-- The first device error from C's cursor on is what the report from there begins with. In this order: what the code's tests say; the device errors from C's
-- cursor on; that law, and that the cursor goes forward, within the bytes.
use Prim.Native.Nat.{ℕ, zero, suc, ◌+◌, ◌-◌, ◌*◌, ◌≤◌}
use mathlib.Core.Path.{◌≡◌, refl, sym, ap, ◌∙◌}
use mathlib.Core.List.{List, [], ◌∷◌}
use mathlib.Core.Bool.{Bool, true, false, cond}
use native.Mathlib.Omega.{arith}
use lib.ListN.{length, drop, length-drop}
use lib.Seq.{drop-drop}
use lib.Dec.{ltb, eqb}
use borrow.Author.Tests.{lt-ltb, le-ltb, eq-eqb, ne_eqb, eqb-true, eqb-false}
use Rattle.xdr.specs.Reader.{in_turn}
use Rattle.reports.specs.Report.{Report, Malformed, Whole, ioerr, status_of, without_statistics}
use Rattle.reports.specs.ReportSteps.{naming, error_in, errors_in, next_at, device_at, records_then, report_from, errors_from, end_of}
use Rattle.reports.specs.StatisticsSteps.{statistics_from}
use Rattle.reports.specs.declared.cursor.Cursor.{Cursor}
use Rattle.reports.specs.ReportSteps.{Entry, Reading}
use Rattle.reports.specs.ReportSteps as steps
use Rattle.reports.proofs.ReportModel.{none_named, named-twice}
use Rattle.reports.proofs.Reports.{goes_on, device-read-as, device-missing, errors-named, record-turn, last_turn, bad-turn}
use Rattle.flexfiles.specs.Handed.{error_given, first_by, records_at, first_step, first_past, first_at}
use Rattle.flexfiles.specs.declared.ErrorCursor.{ErrorCursor}
use Rattle.flexfiles.specs.Handed.{Answer, Error, Done}

-- ---- what the code's tests say
module _ (s : List ℕ) (c : ErrorCursor) where
  -- where a device error is to come
  pub first-error : (c.devices ≡ 0 → ⊥) → first_at s c ≡ error_given c (device_at s c.at)
  unfolding first_at first_past
  first-error z = by c.records
    where
      by : (n : ℕ) → first_past n s c ≡ error_given c (device_at s c.at)
      by zero = rw (ne_eqb c.devices 0 z)
      by (suc n) = rw (ne_eqb c.devices 0 z)

  module _ (z : c.devices ≡ 0) where
    -- where the records say it at once
    ended : (e : Entry) (f : Answer) → next_at s (records_at c) ≡ e → ((k : ErrorCursor → Answer) → first_by s e k ≡ f) → first_at s c ≡ f
    unfolding first_at first_past
    ended e f h g = by c.records
      where
        by : (n : ℕ) → first_past n s c ≡ f
        by zero = rw (eq-eqb c.devices 0 z, h) (g (λ _. Done 10036))
        by (suc n) = rw (eq-eqb c.devices 0 z, h) (g (first_past n s))

    pub first-last : {t : Cursor} → next_at s (records_at c) ≡ steps.Statistics t → {k : ℕ} → k ≡ status_of (statistics_from s t) → Done k ≡ first_at s c
    first-last {t} e h = ap Done h ∙ sym (ended (steps.Statistics t) (Done (status_of (statistics_from s t))) e (λ k. refl))

    pub first-malformed : next_at s (records_at c) ≡ steps.Malformed → Done 10036 ≡ first_at s c
    first-malformed e = sym (ended steps.Malformed (Done 10036) e (λ k. refl))

    pub first-record : {at n : ℕ} {next : Cursor} → next_at s (records_at c) ≡ steps.Record at n next → first_at s c ≡ first_at s (record { at = at; records = next.left; devices = n })
    unfolding first_at first_past
    first-record {at} {n} {next} e = by c.records (goes_on s (records_at c) e).fewer
      where
        by : (m : ℕ) → m ≡ suc next.left → first_past m s c ≡ first_past next.left s (record { at = at; records = next.left; devices = n })
        by zero h = absurd (omega arith)
        by (suc m) h =
            let q : m ≡ next.left = omega arith in
            rw (eq-eqb c.devices 0 z, e, q)

-- ---- the device errors from C's cursor on
-- n device errors, and then what `rest` makes of the bytes after them
unfoldable pub devices : ℕ → (List ℕ → Report) → List ℕ → Report
devices zero rest s = rest s
devices (suc n) rest s = cond (ltb (length s) 24) Malformed (naming (error_in s ∷ []) (devices n rest (drop 24 s)))

devices-row : (n : ℕ) (rest : List ℕ → Report) (s : List ℕ) → 24 * n ≤ length s → devices n rest s ≡ naming (errors_in n s) (rest (drop (24 * n) s))
unfolding devices errors_in
devices-row zero rest s h = sym (none_named (rest s))
devices-row (suc n) rest s h =
    let p : 24 + 24 * n ≡ 24 * suc n = omega arith in
    let q : drop (24 * n) (drop 24 s) ≡ drop (24 * suc n) s = drop-drop (24 * n) 24 s ∙ ap (λ (k : ℕ). drop k s) p in
    rw (le-ltb (length s) 24 (omega arith), devices-row n rest (drop 24 s) (rw length-drop (omega arith)), q)
    (sym (named-twice (error_in s ∷ []) (errors_in n (drop 24 s)) (rest (drop (24 * suc n) s))))

abbrev after : List ℕ → ErrorCursor → Report
after s c = devices c.devices (λ t. records_then (in_turn c.records ioerr t)) (drop c.at s)

unfoldable pub errors_on : List ℕ → ErrorCursor → Report
errors_on s c = without_statistics (after s c)

module _ (s : List ℕ) (c : ErrorCursor) where
  pub at_records : c.devices ≡ 0 → errors_on s c ≡ errors_from s (records_at c)
  unfolding errors_on devices report_from
  at_records z = rw z

  on-record : c.devices ≡ 0 → {at n : ℕ} {next : Cursor} → next_at s (records_at c) ≡ steps.Record at n next
      → errors_on s c ≡ errors_on s (record { at = at; records = next.left; devices = n })
  unfolding errors_on report_from
  on-record z {at} {n} {next} e =
      let f = goes_on s (records_at c) e in
      let q : drop (24 * n) (drop at s) ≡ drop next.at s = drop-drop (24 * n) at s ∙ ap (λ (k : ℕ). drop k s) (sym f.further) in
      at_records z ∙ record-turn s (records_at c) e
      ∙ rw (devices-row n (λ t. records_then (in_turn next.left ioerr t)) (drop at s) (rw length-drop (omega arith)), q)
      (sym (errors-named (errors_in n (drop at s)) (records_then (in_turn next.left ioerr (drop next.at s)))))

  module _ (z : c.devices ≡ 0 → ⊥) where
    on-error : {h l st next : ℕ} → device_at s c.at ≡ steps.Error h l st next
        → errors_on s c ≡ naming (error_in (drop c.at s) ∷ []) (errors_on s (record { at = next; records = c.records; devices = c.devices - 1 }))
    unfolding errors_on devices
    on-error {next = next} e = by c.devices refl
      where
        by : (d : ℕ) → c.devices ≡ d → without_statistics (devices d (λ t. records_then (in_turn c.records ioerr t)) (drop c.at s))
            ≡ naming (error_in (drop c.at s) ∷ []) (without_statistics (devices (d - 1) (λ t. records_then (in_turn c.records ioerr t)) (drop next s)))
        by zero g = absurd (z g)
        by (suc d) g =
            let r = device-read-as s c.at e in
            let p : suc d - 1 ≡ d = omega arith in
            let q : drop 24 (drop c.at s) ≡ drop next s = drop-drop 24 c.at s ∙ ap (λ (k : ℕ). drop k s) (sym r.past) in
            rw (le-ltb (length (drop c.at s)) 24 (rw length-drop (omega arith)), p, q)
            (errors-named (error_in (drop c.at s) ∷ []) (devices d (λ t. records_then (in_turn c.records ioerr t)) (drop next s)))

    on-missing : device_at s c.at ≡ steps.Missing → errors_on s c ≡ Malformed
    unfolding errors_on devices
    on-missing e = by c.devices refl
      where
        by : (d : ℕ) → c.devices ≡ d → without_statistics (devices d (λ t. records_then (in_turn c.records ioerr t)) (drop c.at s)) ≡ Malformed
        by zero g = absurd (z g)
        by (suc d) g = rw (lt-ltb (length (drop c.at s)) 24 (rw length-drop (device-missing s c.at e)))

-- ---- what comes next is what the report from the cursor on begins with; it lies past the cursor, within the bytes, and is what the definition says
abbrev pub after_first : List ℕ → Answer → Report
after_first s (Error i st next) = naming (error_in (drop i s) ∷ []) (errors_on s next)
after_first s (Done k) = end_of k

-- an answer that ends the walk is a status, and not the 1 that C is answered with a device error
pub record Last (k : ℕ) : Type 0 where
  pub other : k ≡ 1 → ⊥
  pub status : status_of (end_of k) ≡ k

pub record Onward (s : List ℕ) (c : ErrorCursor) (i st : ℕ) (next : ErrorCursor) : Type 0 where
  pub further : c.at + 24 ≤ next.at
  pub within : next.at ≤ length s
  pub status : (error_in (drop i s)).status ≡ st

abbrev Comes : List ℕ → ErrorCursor → Answer → Type 0
Comes s c (Error i st next) = Onward s c i st next
Comes s c (Done k) = Last k

record Coming (s : List ℕ) (c : ErrorCursor) (f : Answer) : Type 0 where
  walks : errors_on s c ≡ after_first s f
  comes : Comes s c f

last-is : (p : Report) → Last (status_of p)
last-is (Whole xs ys) = record { other = λ z. omega arith; status = refl }
last-is Malformed = record { other = λ z. omega arith; status = refl }

later : (s : List ℕ) (c d : ErrorCursor) (f : Answer) → c.at ≤ d.at → Comes s d f → Comes s c f
later s c d (Error i st next) h b = record { further = omega arith; within = b.within; status = b.status }
later s c d (Done k) h b = b

module _ (s : List ℕ) (c : ErrorCursor) where
  come-error : (c.devices ≡ 0 → ⊥) → (r : Reading) → device_at s c.at ≡ r → Coming s c (error_given c r)
  come-error z (steps.Error h l st next) e =
      let r = device-read-as s c.at e in
      record { walks = on-error s c z e; comes = record { further = omega arith; within = omega arith; status = r.given.status } }
  come-error z steps.Missing e = record { walks = on-missing s c z e; comes = last-is Malformed }

  module _ (k : ErrorCursor → Answer) (go : (at n : ℕ) (next : Cursor) → next_at s (records_at c) ≡ steps.Record at n next → Coming s (record { at = at; records = next.left; devices = n }) (k (record { at = at; records = next.left; devices = n }))) where
    come-by : c.devices ≡ 0 → (e : Entry) → next_at s (records_at c) ≡ e → Coming s c (first_by s e k)
    come-by z (steps.Record at n next) h =
        let g = goes_on s (records_at c) h in
        let r = go at n next h in
        record { walks = on-record s c z h ∙ r.walks; comes = later s c (record { at = at; records = next.left; devices = n }) (k (record { at = at; records = next.left; devices = n })) (omega arith) r.comes }
    come-by z (steps.Statistics t) h = record { walks = at_records s c z ∙ last_turn s (records_at c) h; comes = last-is (statistics_from s t) }
    come-by z steps.Malformed h = record { walks = at_records s c z ∙ bad-turn s (records_at c) h; comes = last-is Malformed }

    come-step : Coming s c (first_step s c k)
    come-step = by (eqb c.devices 0) refl
      where
        by : (b : Bool) → eqb c.devices 0 ≡ b → Coming s c (cond b (first_by s (next_at s (records_at c)) k) (error_given c (device_at s c.at)))
        by true h = come-by (eqb-true c.devices 0 h) (next_at s (records_at c)) refl
        by false h = come-error (eqb-false c.devices 0 h) (device_at s c.at) refl

coming : (n : ℕ) (s : List ℕ) (c : ErrorCursor) → c.records ≡ n → Coming s c (first_past n s c)
unfolding first_past
coming zero s c h = come-step s c (λ _. Done 10036) (λ at m next e. absurd (omega (arith, (goes_on s (records_at c) e).fewer)))
coming (suc n) s c h = come-step s c (first_past n s) (λ at m next e. coming n s (record { at = at; records = next.left; devices = m }) (omega (arith, (goes_on s (records_at c) e).fewer)))

module _ (s : List ℕ) (c : ErrorCursor) where
  first-comes : Coming s c (first_at s c)
  unfolding first_at
  first-comes = coming c.records s c refl

  pub first_walks : errors_on s c ≡ after_first s (first_at s c)
  first_walks = first-comes.walks

  pub first-onward : {i st : ℕ} {next : ErrorCursor} → first_at s c ≡ Error i st next → Onward s c i st next
  first-onward e = rw e at first-comes.comes

  pub first_ends : {k : ℕ} → first_at s c ≡ Done k → Last k
  first_ends e = rw e at first-comes.comes
