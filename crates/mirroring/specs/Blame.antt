-- MODEL. What a report says of a file's mirrors, in this order: what it changes; one device error; all of a report; the same by its two halves.
use Rattle.std.specs.Prelude.{List, [], Bool, true, false, cond, not, ℕ, eqb, Option, Some, None, Result, Ok, Err}
use Rattle.masks.specs.Mask.{plus}
use Rattle.statuses.specs.Names.{Status}
use Rattle.statuses.specs.Numbers.{number}
use Rattle.statuses.specs.declared.Status as refusal
use Rattle.reports.specs.Report.{DeviceError, Report, Whole, Malformed, over}
use Rattle.places.specs.Places.{first}
use Rattle.mirroring.specs.Devices.{device_of}
use Rattle.mirroring.specs.Mirrors.{is_at}
use Rattle.mirroring.specs.Totals.{no_totals}
use Rattle.mirroring.specs.TotalsSteps.{mirror_totals}
use Rattle.mirroring.specs.declared.mirrors.Mirror.{Mirror}
use Rattle.mirroring.specs.declared.blame.Change.{Change}
use Rattle.mirroring.specs.declared.blame.Assessment.{Assessment}
use Rattle.mirroring.specs.declared.blame.Errors.{Errors}
use Rattle.mirroring.specs.declared.totals.Totals.{Totals}

-- ---- what a report changes
abbrev pub no_change : Change
no_change = record { unknown = false; failed = false; blamed = 0 }

-- it has named a device that is neither a mirror nor the proxy
abbrev pub naming : Change → Change
naming x = record { unknown = true; failed = x.failed; blamed = x.blamed }

-- it blames the mirror at place i
abbrev pub blaming : ℕ → Change → Change
blaming i x = record { unknown = x.unknown; failed = true; blamed = plus x.blamed i }

-- ---- nothing but a status, and nothing but a change
abbrev pub status_only : Status → Assessment
status_only s = record { status = s; change = no_change; totals = no_totals }

abbrev pub change_only : Change → Assessment
change_only x = record { status = 0; change = x; totals = no_totals }

abbrev pub with_change : Change → Assessment → Assessment
with_change x a = record { status = a.status; change = x; totals = a.totals }

-- ---- one device error
-- of what a report changes
abbrev pub changed_at : Change → Status → Option ℕ → Change
changed_at x s None = naming x
changed_at x s (Some i) = cond (eqb s 0) x (blaming i x)

unfoldable pub changed_of : List Mirror → Change → ℕ → ℕ → Status → Change
changed_of ms x hi lo s = changed_at x s (first (is_at hi lo) ms)

abbrev pub changed : List Mirror → Change → DeviceError → Change
changed ms x e = changed_of ms x (device_of e).high (device_of e).low e.status

-- of what it says
abbrev pub with_error_at : Assessment → Status → Option ℕ → Assessment
with_error_at a s o = with_change (changed_at a.change s o) a

unfoldable pub with_error_of : List Mirror → Assessment → ℕ → ℕ → Status → Assessment
with_error_of ms a hi lo s = with_error_at a s (first (is_at hi lo) ms)

abbrev pub with_error : List Mirror → Assessment → DeviceError → Assessment
with_error ms a x = with_error_of ms a (device_of x).high (device_of x).low x.status

-- ---- all of a report
-- what its device errors say; 10036: the report is malformed
unfoldable pub errors_assessed : List Mirror → Report → Assessment
errors_assessed ms (Whole xs ys) = over (with_error ms) (status_only 0) xs
errors_assessed ms Malformed = status_only 10036

-- and the totals, which a report that names an unknown device has none of: it is ignored
abbrev pub with_totals : Totals → Assessment → Assessment
with_totals t a = record { status = a.status; change = a.change; totals = t }

unfoldable pub assessment_of : List Mirror → Report → Assessment
assessment_of ms p = with_totals (cond (errors_assessed ms p).change.unknown no_totals (mirror_totals ms p)) (errors_assessed ms p)

-- ---- the same by its two halves
-- what the device errors change: one has failed where a place is blamed
abbrev pub change_in : Errors → Change
change_in e = record { unknown = e.unknown; failed = not (eqb e.blamed 0); blamed = e.blamed }

-- the status of the statistics records from a cursor on, and their totals
pub record Tallied : Type 0 where
  pub status : Status
  pub totals : Totals

-- the code's answer
abbrev pub tallied : Result Totals refusal.Status → Tallied
tallied (Ok t) = record { status = 0; totals = t }
tallied (Err s) = record { status = number s; totals = no_totals }

-- the statistics records' status and totals, which are none where they do not count
unfoldable pub tallied_of : List Mirror → Bool → Report → Tallied
tallied_of ms b (Whole xs ys) = record { status = 0; totals = cond b (mirror_totals ms (Whole [] ys)) no_totals }
tallied_of ms b Malformed = record { status = 10036; totals = no_totals }

-- device errors that change x, and then the statistics records, which do not count if an unknown device was named
unfoldable pub settled_of : List Mirror → Change → Report → Assessment
settled_of ms x (Whole xs ys) = record { status = 0; change = x; totals = cond x.unknown no_totals (mirror_totals ms (Whole [] ys)) }
settled_of ms x Malformed = status_only 10036
