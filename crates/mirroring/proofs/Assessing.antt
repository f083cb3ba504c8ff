-- What the code makes of the numbers of a device error and of a statistics record is what the definition says of it, and so is what a walk makes of a whole report.
-- In this order: one device error; what a device error leaves as it is; one statistics record; all of them; a report; its two halves; both put together.
use mathlib.Core.Path.{◌≡◌, refl, sym, ap, ◌∙◌}
use mathlib.Core.List.{List, [], ◌∷◌}
use mathlib.Core.Bool.{Bool, true, false, cond, not}
use Prim.Native.Nat.{ℕ}
use native.Mathlib.Omega.{arith}
use lib.ListN.{length}
use Rattle.statuses.specs.Numbers.{number}
use Rattle.statuses.specs.declared.Status as refusal
use Rattle.statuses.specs.declared.Status.TheVariants.{NoEnt, Exist, Inval, NoSpc, Stale, Delay, Grace, OldStateid, BadStateid, NoGrace, ReclaimBad, BadXdr, BadIomode, UnknownLayoutType}
use Rattle.reports.specs.Device.{Device, halves}
use Rattle.reports.specs.Statistics.{Statistic}
use Rattle.reports.specs.Report.{DeviceError, Report, Whole, Malformed, status_of, over, outcome}
use Rattle.reports.specs.StatisticsSteps.{tally}
use Rattle.reports.specs.Walk.{Given, Stated}
use Rattle.mirroring.specs.Devices.{device_of}
use Rattle.mirroring.specs.Totals.{no_totals}
use Rattle.mirroring.specs.TotalsSteps.{mirror_totals, added_totals}
use Rattle.mirroring.specs.Blame.{status_only, change_only, with_change, with_error_of, with_error, changed_of, changed, with_totals, errors_assessed, assessment_of, Tallied, tallied_of, settled_of}
use Rattle.mirroring.specs.declared.mirrors.Mirror.{Mirror}
use Rattle.mirroring.specs.declared.blame.Change.{Change}
use Rattle.mirroring.specs.declared.blame.Assessment.{Assessment}
use Rattle.mirroring.specs.declared.totals.Totals.{Totals}
use Rattle.mirroring.proofs.Summing.{adding, totals-are}

-- ---- one device error
pub change-given : {e : DeviceError} {h l st : ℕ} (ms : List Mirror) (x : Change) → Given e h l st → changed_of ms x h l st ≡ changed ms x e
change-given {e} {h} {l} {st} ms x g =
    ap (λ (d : Device). changed_of ms x d.high d.low st) (sym g.device)
    ∙ ap (changed_of ms x (device_of e).high (device_of e).low) (sym g.status)

-- ---- what device errors leave as it is: any part but the change
module _ {A : Type 0} (part : Assessment → A) (same : (x : Change) (h : Assessment) → part (with_change x h) ≡ part h) where
  pub kept : (ms : List Mirror) (xs : List DeviceError) (h : Assessment) → part (over (with_error ms) h xs) ≡ part h
  unfolding over with_error_of changed_of
  kept ms [] h = refl
  kept ms (x ∷ xs) h = kept ms xs (with_error ms h x) ∙ same (changed ms h.change x) h

pub status-kept : (ms : List Mirror) (xs : List DeviceError) (h : Assessment) → (over (with_error ms) h xs).status ≡ h.status
status-kept = kept (λ h. h.status) (λ x h. refl)

totals-kept : (ms : List Mirror) (xs : List DeviceError) (h : Assessment) → (over (with_error ms) h xs).totals ≡ h.totals
totals-kept = kept (λ h. h.totals) (λ x h. refl)

-- so what they make of a change is all that they make
pub errors-change : (ms : List Mirror) (x : Change) (xs : List DeviceError) → over (with_error ms) (change_only x) xs ≡ change_only (over (changed ms) x xs)
unfolding over with_error_of changed_of
errors-change ms x [] = refl
errors-change ms x (e ∷ es) = errors-change ms (changed ms x e) es

-- ---- one statistics record
pub adding-stated : {y : Statistic} {h l r w : ℕ} (ms : List Mirror) (t : Totals) → Stated y h l r w → added_totals ms h l r w t ≡ adding ms t y
adding-stated {y} {h} {l} {r} {w} ms t g =
    ap (λ (d : Device). added_totals ms d.high d.low r w t) (sym g.device)
    ∙ ap (λ (n : ℕ). added_totals ms (halves y.device).high (halves y.device).low n w t) (sym g.read)
    ∙ ap (λ (n : ℕ). added_totals ms (halves y.device).high (halves y.device).low y.read n t) (sym g.written)

-- a report that names an unknown device is ignored
abbrev pub counted : List Mirror → Assessment → Statistic → Assessment
counted ms a y = with_totals (cond a.change.unknown a.totals (adding ms a.totals y)) a

-- ---- all of them: an ignored report counts none
counted-all : (ms : List Mirror) (ys : List Statistic) (s : ℕ) (u f : Bool) (bs : ℕ) (t : Totals)
    → over (counted ms) (record { status = s; change = record { unknown = u; failed = f; blamed = bs }; totals = t }) ys
    ≡ record { status = s; change = record { unknown = u; failed = f; blamed = bs }; totals = cond u t (over (adding ms) t ys) }
unfolding over
counted-all ms [] s true f bs t = refl
counted-all ms [] s false f bs t = refl
counted-all ms (y ∷ ys) s true f bs t = counted-all ms ys s true f bs t
counted-all ms (y ∷ ys) s false f bs t = counted-all ms ys s false f bs (adding ms t y)

-- ---- a report
pub assessed-is : (ms : List Mirror) → length ms ≡ 5 → (p : Report) → outcome (with_error ms) (counted ms) (status_only 10036) (status_only 0) p ≡ assessment_of ms p
unfolding outcome assessment_of errors_assessed mirror_totals
assessed-is ms e Malformed = refl
assessed-is ms e (Whole xs ys) =
    let h = over (with_error ms) (status_only 0) xs in
    counted-all ms ys h.status h.change.unknown h.change.failed h.change.blamed h.totals
    ∙ ap (λ (t : Totals). with_totals (cond h.change.unknown t (over (adding ms) t ys)) h) (totals-kept ms xs (status_only 0))
    ∙ ap (λ (t : Totals). with_totals (cond h.change.unknown no_totals t) h) (totals-are ms e ys)

-- ---- its two halves: what a walk of the statistics records makes of a change
pub settled_is : (ms : List Mirror) → length ms ≡ 5 → (x : Change) (p : Report) → settled_of ms x p ≡ tally (counted ms) (status_only 10036) (change_only x) p
unfolding tally settled_of mirror_totals
settled_is ms e x Malformed = refl
settled_is ms e x (Whole xs ys) =
    ap (λ (t : Totals). with_totals (cond x.unknown no_totals t) (change_only x)) (sym (totals-are ms e ys))
    ∙ sym (counted-all ms ys 0 x.unknown x.failed x.blamed no_totals)

-- and of totals
abbrev pub told : Totals → Tallied
told t = record { status = 0; totals = t }

abbrev pub untold : Tallied
untold = record { status = 10036; totals = no_totals }

abbrev pub telling : List Mirror → Tallied → Statistic → Tallied
telling ms a y = record { status = a.status; totals = adding ms a.totals y }

told-all : (ms : List Mirror) (ys : List Statistic) (t : Totals) → over (telling ms) (told t) ys ≡ told (over (adding ms) t ys)
unfolding over
told-all ms [] t = refl
told-all ms (y ∷ ys) t = told-all ms ys (adding ms t y)

pub told_is : (ms : List Mirror) → length ms ≡ 5 → (p : Report) → tally (telling ms) untold (told no_totals) p ≡ tallied_of ms true p
unfolding tally tallied_of mirror_totals
told_is ms e Malformed = refl
told_is ms e (Whole xs ys) = told-all ms ys no_totals ∙ ap told (totals-are ms e ys)

-- records that do not count are only passed
pub passed_is : (ms : List Mirror) (p : Report) → record { status = status_of p; totals = no_totals } ≡ tallied_of ms false p
unfolding tallied_of
passed_is ms (Whole xs ys) = refl
passed_is ms Malformed = refl

-- ---- both put together
-- a refusal is not 0
pub refused-some : (s : refusal.Status) → number s ≡ 0 → ⊥
refused-some NoEnt e = omega (arith, e)
refused-some Exist e = omega (arith, e)
refused-some Inval e = omega (arith, e)
refused-some NoSpc e = omega (arith, e)
refused-some Stale e = omega (arith, e)
refused-some Delay e = omega (arith, e)
refused-some Grace e = omega (arith, e)
refused-some OldStateid e = omega (arith, e)
refused-some BadStateid e = omega (arith, e)
refused-some NoGrace e = omega (arith, e)
refused-some ReclaimBad e = omega (arith, e)
refused-some BadXdr e = omega (arith, e)
refused-some BadIomode e = omega (arith, e)
refused-some UnknownLayoutType e = omega (arith, e)

module _ (ms : List Mirror) (x : Change) where
  pub both-refused : (p : Report) {t : Tallied} → t ≡ tallied_of ms (not x.unknown) p → (t.status ≡ 0 → ⊥) → status_only t.status ≡ settled_of ms x p
  unfolding tallied_of settled_of
  both-refused (Whole xs ys) {t} e z = absurd (z (ap (λ (u : Tallied). u.status) e))
  both-refused Malformed {t} e z = ap (λ (u : Tallied). status_only u.status) e

  pub both-settled : (p : Report) {t : Tallied} → t ≡ tallied_of ms (not x.unknown) p → t.status ≡ 0 → with_totals t.totals (change_only x) ≡ settled_of ms x p
  unfolding tallied_of settled_of
  both-settled (Whole xs ys) {t} e z =
      ap (λ (u : Tallied). with_totals u.totals (change_only x)) e
      ∙ ap (λ (u : Totals). with_totals u (change_only x)) (by x.unknown (mirror_totals ms (Whole [] ys)))
    where
      by : (b : Bool) (u : Totals) → cond (not b) u no_totals ≡ cond b no_totals u
      by true u = refl
      by false u = refl
  both-settled Malformed {t} e z = absurd (omega (arith, sym (ap (λ (u : Tallied). u.status) e) ∙ z))
