-- MODEL of the C call: what an answer says but for its totals, which C is handed apart. In this order: by its fields; whether statistics count; steps 5 to 7 by what the file says
-- of the client, and the outcome; the file afterwards. proofs/Settling.antt proves it equal to `outcome_by`.
use Rattle.std.specs.Prelude.{Bool, false, not, cond, ◌&&◌, ℕ, eqb}
use Rattle.statuses.specs.Names.{Status, Client}
use Rattle.reports.specs.Report.{Report}
use Rattle.wire.specs.Stateid.{no_stateid, raised_stateid}
use Rattle.wire.specs.declared.stateid.Stateid.{Stateid}
use Rattle.mirroring.specs.Blame.{no_change, status_only, assessment_of}
use Rattle.mirroring.specs.declared.blame.Assessment.{Assessment}
use Rattle.mirroring.specs.declared.blame.Change.{Change}
use Rattle.files.specs.File.{blamed_file, raised_file, marks_file, blames_places, head_marked}
use Rattle.files.specs.declared.file.File.{File}
use Rattle.files.specs.declared.head.Head.{Head}
use Rattle.layoutreturn.specs.LayoutReturn.{outcome_on}
use Rattle.layoutreturn.specs.OneWalk.{raised_if, Claim}
use Rattle.layoutreturn.specs.declared.Outcome.{Outcome}
use Rattle.layoutreturn.specs.declared.Settled.{Settled}

-- ---- by its fields: a refusal; a return that is accepted on the file f; an outcome but for its totals
abbrev pub refused_as : Status → Head → Client → Settled
refused_as k h c = record { status = k; head = h; marks = false; blamed = 0; client = c; stateid = no_stateid }

abbrev pub accepted_as : Bool → ℕ → Head → Client → Stateid → File → Settled
accepted_as b places h c t f = record { status = 0; head = head_marked b h f; marks = b; blamed = places; client = c; stateid = t }

abbrev pub without_totals : Outcome → Settled
without_totals o = record { status = o.status; head = o.head; marks = marks_file o.change; blamed = blames_places o.change; client = o.client; stateid = o.stateid }

-- ---- whether statistics count: not of a report that names an unknown device, of one that comes late, or of one that is read for its form alone
abbrev pub counts_if : Bool → Status → Bool → Bool
counts_if unknown late silent = not unknown && (eqb late 0 && not silent)

-- ---- steps 5 to 7, of a return that is ordinary where b
-- an old record reads an ordinary return for its form alone
abbrev pub is_silent : Head → Bool → Bool
is_silent h b = cond b h.old false

-- the status of steps 5 and 6
abbrev pub later_of : Status → Status → Status
later_of form late = cond (eqb form 0) late form

abbrev pub silenced : Bool → Change → Change
silenced silent x = cond silent no_change x

abbrev pub taken_as : Bool → Status → Assessment → Assessment
taken_as silent k a = cond (eqb k 0) (cond silent (status_only 0) a) (status_only k)

unfoldable pub assessed_as : Head → Claim → Report → File → Bool → Assessment
assessed_as h x p f b =
    cond (eqb x.barred 0) (taken_as (is_silent h b) (later_of (assessment_of f.mirrors p).status x.late) (assessment_of f.mirrors p)) (status_only x.barred)

abbrev pub raised_as : Stateid → Bool → Stateid
raised_as u b = cond b (raised_stateid u) no_stateid

unfoldable pub claimed_outcome : Head → Client → Claim → Report → File → Outcome
claimed_outcome h c x p f =
    outcome_on h c (raised_if x.own (assessed_as h x p f (not h.grace)).status (not h.grace)) f (assessed_as h x p f (not h.grace))

-- ---- the file afterwards
abbrev pub settled_file : File → Settled → File
settled_file f o = raised_file o.client o.stateid (blamed_file o.marks o.blamed f)
