-- A file's report, beside the ledger's: what a report says of a file's mirrors is what step 7 says of the row. In this order: device errors; a
-- whole report, and the file that it changes; steps 5 and 6.
use mathlib.Core.Path.{◌≡◌, refl, ap, ◌∙◌}
use mathlib.Core.List.{List, [], ◌∷◌}
use mathlib.Core.Bool.{Bool, true, false, not, cond}
use Prim.Native.Nat.{ℕ, ◌<◌}
use lib.Dec.{eqb}
use Rattle.reports.specs.Statistics.{Statistic}
use Rattle.reports.specs.Report.{DeviceError, Whole, Malformed, over}
use Rattle.places.specs.Lists.{any, with}
use Rattle.places.specs.Places.{first}
use Rattle.mirroring.specs.Devices.{device_of}
use Rattle.mirroring.specs.Mirrors.{is_device, blamed_at}
use Rattle.mirroring.specs.Blame.{blaming, status_only, with_error_at, with_error_of, with_error, errors_assessed, assessment_of}
use Rattle.mirroring.specs.TotalsSteps.{mirror_totals}
use Rattle.files.specs.File as file
use Rattle.files.specs.File.{FileAnswered, file_answered, changed_file, raised_file}
use Rattle.wire.specs.Stateid.{no_stateid}
use Rattle.layoutreturn.specs.LayoutReturn.{of_intent, report_on, outcome_on}
use Rattle.mirroring.specs.declared.mirrors.Mirror.{Mirror}
use Rattle.mirroring.specs.declared.blame.Assessment.{Assessment}
use Rattle.files.specs.declared.file.File.{File}
use Rattle.files.specs.declared.head.Head.{Head}
use Rattle.files.proofs.Changing.{unchanged, told-nothing}
use Rattle.recovery.specs.LayoutReturn.{answered_by}
use Rattle.places.proofs.Sets.{none_first}
use Rattle.mirroring.proofs.Copies.{Copies, known, places_with, placed, none-blamed, place-blamed}
use Rattle.files.specs.declared.head.Edition.TheVariants.{Current}
use Rattle.mirroring.proofs.Assessing.{status-kept}
use Rattle.ledger.specs.Ledger.{Row, names, place_in, is_fault, is_stranger, blame, reported, with_mark, with_blame}
use Rattle.ledger.proofs.Relation.{FileIs, with-mark, with-copies}
use Rattle.std.specs.Prelude.{Option, Some, None}

-- no stranger has been named yet; ms are the file's mirrors
pub record Sees (ms : List Mirror) (h : Assessment) (w : Row) (bs : List ℕ) (b : Bool) : Type 0 where
  pub copies : Copies (blamed_at h.change.blamed ms) w.mirrors w.proxy bs
  pub unknown : h.change.unknown ≡ false
  pub failed : h.change.failed ≡ b

-- what a walk of xs makes of it
pub data Assesses (ms : List Mirror) (h : Assessment) (w : Row) (xs : List DeviceError) (bs : List ℕ) (b : Bool) : Type 0 where
  named : any (is_stranger w) xs ≡ true → h.change.unknown ≡ true → Assesses ms h w xs bs b
  mirrors-only : any (is_stranger w) xs ≡ false → Sees ms h w (blame w xs bs) (cond b true (any is_fault xs)) → Assesses ms h w xs bs b

-- ---- a stranger stays named
unknown-at : (h : Assessment) (s : ℕ) (o : Option ℕ) → h.change.unknown ≡ true → (with_error_at h s o).change.unknown ≡ true
unknown-at h s None e = refl
unknown-at h s (Some i) e = by (eqb s 0)
  where
    by : (b : Bool) → (cond b h.change (blaming i h.change)).unknown ≡ true
    by true = e
    by false = e

unknown-stays : (ms : List Mirror) (xs : List DeviceError) (h : Assessment) → h.change.unknown ≡ true → (over (with_error ms) h xs).change.unknown ≡ true
unfolding over with_error_of
unknown-stays ms [] h e = e
unknown-stays ms (x ∷ xs) h e = unknown-stays ms xs (with_error ms h x) (unknown-at h x.status (first (is_device (device_of x)) ms) e)

-- ---- one device error
module _ {was : List ℕ} (ms : List Mirror) (w : Row) (s : Copies ms w.mirrors w.proxy was) (h : Assessment) where
  error-stranger : (x : DeviceError) → names w (device_of x) ≡ false → (with_error ms h x).change.unknown ≡ true
  unfolding with_error_of
  error-stranger x e = rw (none_first (is_device (device_of x)) ms (known (device_of x) s ∙ e))

  error-at : {bs : List ℕ} {b : Bool} (t i : ℕ) → i < places_with 4 w.proxy → Sees ms h w bs b → (z : Bool) → eqb t 0 ≡ z → Sees ms (with_error_at h t (Some i)) w (cond (not z) (with i bs) bs) (cond (not z) true b)
  error-at t i p k true e = rw e k
  error-at t i p k false e = rw e (record {
    copies = place-blamed ms h.change.blamed i p k.copies;
    unknown = k.unknown;
    failed = refl;
  })

  error-known : {bs : List ℕ} {b : Bool} (x : DeviceError) → Sees ms h w bs b → names w (device_of x) ≡ true
      → Sees ms (with_error ms h x) w (cond (is_fault x) (with (place_in w (device_of x)) bs) bs) (cond (is_fault x) true b)
  unfolding with_error_of
  error-known x k e =
      let z = placed (device_of x) s e in
      rw z.at (error-at x.status (place_in w (device_of x)) z.inside k (eqb x.status 0) refl)

-- ---- all of them
more : (ms : List Mirror) (h : Assessment) (w : Row) (x : DeviceError) (xs : List DeviceError) (bs : List ℕ) (b : Bool) → is_stranger w x ≡ false
    → Assesses ms h w xs (cond (is_fault x) (with (place_in w (device_of x)) bs) bs) (cond (is_fault x) true b) → Assesses ms h w (x ∷ xs) bs b
unfolding any blame
more ms h w x xs bs b e (named p q) = named (rw (e, p)) q
more ms h w x xs bs b e (mirrors-only p q) = mirrors-only (rw (e, p)) (record { copies = q.copies; unknown = q.unknown; failed = q.failed ∙ by (is_fault x) b (any is_fault xs) })
  where
    by : (a b c : Bool) → cond (cond a true b) true c ≡ cond b true (cond a true c)
    by true true c = refl
    by true false c = refl
    by false b c = refl

module _ {was : List ℕ} (ms : List Mirror) (w : Row) (s : Copies ms w.mirrors w.proxy was) where
  assessed-item : (h : Assessment) (x : DeviceError) (xs : List DeviceError) (bs : List ℕ) (b z : Bool) → names w (device_of x) ≡ z → Sees ms h w bs b
      → ((cs : List ℕ) (c : Bool) → Sees ms (with_error ms h x) w cs c → Assesses ms (over (with_error ms) (with_error ms h x) xs) w xs cs c) → Assesses ms (over (with_error ms) (with_error ms h x) xs) w (x ∷ xs) bs b
  unfolding any
  assessed-item h x xs bs b true e k f = more ms _ w x xs bs b (ap not e) (f _ _ (error-known ms w s h x k e))
  assessed-item h x xs bs b false e k f = named (rw e) (unknown-stays ms xs (with_error ms h x) (error-stranger ms w s h x e))

  pub assessed-all : (xs : List DeviceError) (h : Assessment) (bs : List ℕ) (b : Bool) → Sees ms h w bs b → Assesses ms (over (with_error ms) h xs) w xs bs b
  unfolding over any blame
  assessed-all [] h bs b k = mirrors-only refl (record { copies = k.copies; unknown = k.unknown; failed = k.failed ∙ last b })
    where
      last : (b : Bool) → b ≡ cond b true false
      last true = refl
      last false = refl
  assessed-all (x ∷ xs) h bs b k = assessed-item h x xs bs b (names w (device_of x)) refl k (λ cs c j. assessed-all xs (with_error ms h x) cs c j)

-- ---- a whole report
pub assesses-report : {g : Bool} {f : File} {w : Row} (xs : List DeviceError) → FileIs g f w → Assesses f.mirrors (over (with_error f.mirrors) (status_only 0) xs) w xs w.blamed false
assesses-report {g} {f} {w} xs k = assessed-all f.mirrors w k.copies xs (status_only 0) w.blamed false (record { copies = rw (none-blamed f.mirrors) k.copies; unknown = refl; failed = refl })

after-report : {g : Bool} {f : File} {w : Row} (h : Assessment) (xs : List DeviceError) → FileIs g f w → Assesses f.mirrors h w xs w.blamed false → FileIs g (changed_file h.change f) (reported Current xs w)
unfolding changed_file
after-report h xs k (named p q) = rw (p, q) (with-mark k refl)
after-report {g} {f} {w} h xs k (mirrors-only p q) = rw (p, q.unknown) (by (any is_fault xs) q.failed)
  where
    by : (z : Bool) → h.change.failed ≡ z → FileIs g
        (cond h.change.failed (file.with_mark true (file.with_mirrors (blamed_at h.change.blamed f.mirrors) f)) f)
        (cond z (with_mark true (with_blame (blame w xs w.blamed) w)) w)
    by true e = rw e (with-mark (with-copies k q.copies) refl)
    by false e = rw e k

pub file-after-report : {g : Bool} {f : File} {w : Row} (xs : List DeviceError) (ys : List Statistic) → FileIs g f w
    → FileIs g (changed_file (assessment_of f.mirrors (Whole xs ys)).change f) (reported Current xs w)
unfolding changed_file assessment_of errors_assessed
file-after-report {g} {f} {w} xs ys k = after-report (over (with_error f.mirrors) (status_only 0) xs) xs k (assesses-report xs k)

-- ---- what is answered of an assessment, and the file afterwards, where no seqid rises; a refusal changes nothing
abbrev pub assessed_file : Head → ℕ → File → Assessment → FileAnswered
assessed_file d c f a = answered_by f (outcome_on d c no_stateid f a)

pub none-raised : (c : ℕ) (f : File) → raised_file c no_stateid f ≡ f
unfolding raised_file
none-raised c f = refl

pub nothing-changed : (d : Head) (c k : ℕ) (f : File) → assessed_file d c f (status_only k) ≡ file_answered k d f
nothing-changed d c k f = rw (told-nothing f d, unchanged f) (ap (file_answered k d) (none-raised c f))

-- ---- steps 5 and 6
pub whole-status : (ms : List Mirror) (xs : List DeviceError) (ys : List Statistic) → (assessment_of ms (Whole xs ys)).status ≡ 0
unfolding assessment_of errors_assessed
whole-status ms xs ys = status-kept ms xs (status_only 0)

pub whole-report : (n c : ℕ) (xs : List DeviceError) (ys : List Statistic) (f : File) → report_on n c (Whole xs ys) f ≡ of_intent n c f (assessment_of f.mirrors (Whole xs ys))
unfolding report_on
whole-report n c xs ys f =
    let h = assessment_of f.mirrors (Whole xs ys) in
    ap (λ (k : ℕ). cond (eqb k 0) (of_intent n c f h) h) (whole-status f.mirrors xs ys)

pub malformed-report : (n c : ℕ) (f : File) → report_on n c Malformed f ≡ status_only 10036
unfolding report_on assessment_of errors_assessed mirror_totals
malformed-report n c f = refl
