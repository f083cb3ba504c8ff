-- MODEL of the code: one walk of the report, whether the return is anonymous or, where b, ordinary. In this order: what was decided, by parts; what a file says of
-- the return's client; step 7 by b; steps 4 to 7; the outcome. proofs/OneWalk.antt proves it equal to `outcome_by`.
use Rattle.std.specs.Prelude.{Bool, true, false, cond, ℕ, eqb}
use Rattle.statuses.specs.Names.{Bytes, Status, Client, FileNumber}
use Rattle.reports.specs.Report.{Report, report_of}
use Rattle.wire.specs.Request.{part_of}
use Rattle.wire.specs.Stateid.{no_stateid, stateid_in, raised_stateid}
use Rattle.wire.specs.declared.stateid.Stateid.{Stateid}
use Rattle.places.specs.Places.{first, is_found}
use Rattle.mirroring.specs.Blame.{status_only, assessment_of}
use Rattle.mirroring.specs.declared.blame.Assessment.{Assessment}
use Rattle.intents.specs.Intents.{is_intent}
use Rattle.files.specs.File.{is_file}
use Rattle.files.specs.declared.file.File.{File}
use Rattle.files.specs.declared.head.Head.{Head}
use Rattle.layoutreturn.specs.LayoutReturn.{handed_on_code, if_whole, by_stateid, held_on, in_edition, outcome_on, Decision, Answered, HandedOn, ReadBody, ReturnBody}
use Rattle.layoutreturn.specs.declared.Outcome.{Outcome}

-- ---- what was decided
abbrev pub reads_body : Decision → Bool
reads_body (Answered k) = false
reads_body HandedOn = false
reads_body (ReadBody len) = true
reads_body (ReturnBody len) = true

abbrev pub is_ordinary : Decision → Bool
is_ordinary (Answered k) = false
is_ordinary HandedOn = false
is_ordinary (ReadBody len) = false
is_ordinary (ReturnBody len) = true

abbrev pub length_of : Decision → ℕ
length_of (Answered k) = 0
length_of HandedOn = 0
length_of (ReadBody len) = len
length_of (ReturnBody len) = len

abbrev pub unread_status : Decision → Status
unread_status (Answered k) = k
unread_status HandedOn = handed_on_code
unread_status (ReadBody len) = 0
unread_status (ReturnBody len) = 0

-- ---- what a file says of a return's client: the statuses of steps 4 and 6, and the client's stateid
pub record Claim : Type 0 where
  pub barred : Status
  pub late : Status
  pub own : Stateid

-- step 6
abbrev pub late_on : FileNumber → Client → File → Status
late_on n c f = cond (is_file n f) (cond (is_found (first (is_intent c) f.intents)) 0 10034) 70

abbrev pub anonymous_claim : FileNumber → Client → File → Claim
anonymous_claim n c f = record { barred = 0; late = late_on n c f; own = no_stateid }

-- step 4, of the request s
abbrev pub ordinary_claim : FileNumber → Client → Bytes → File → Claim
ordinary_claim n c s f = cond (is_file n f) (record { barred = by_stateid (stateid_in s) (held_on c f); late = 0; own = held_on c f }) (record { barred = 70; late = 0; own = no_stateid })

abbrev pub claim_by : FileNumber → Client → Bytes → File → Bool → Claim
claim_by n c s f b = cond b (ordinary_claim n c s f) (anonymous_claim n c f)

-- ---- by the kind of return
-- step 7, where step 6 says k
abbrev pub taken_by : Head → Status → Assessment → Bool → Assessment
taken_by h k a b = cond b (in_edition h a) (if_whole a (cond (eqb k 0) a (status_only k)))

abbrev pub raised_if : Stateid → Status → Bool → Stateid
raised_if u k b = cond b (cond (eqb k 0) (raised_stateid u) no_stateid) no_stateid

-- ---- steps 4 to 7
unfoldable pub assessed_by : Head → Claim → Report → File → Bool → Assessment
assessed_by h x p f b = cond (eqb x.barred 0) (taken_by h x.late (assessment_of f.mirrors p) b) (status_only x.barred)

-- ---- the outcome
abbrev pub claimed_on : FileNumber → Client → Bytes → File → Decision → Claim
claimed_on n c s f d = claim_by n c s f (is_ordinary d)

abbrev pub assessed_on : FileNumber → Head → Client → Bytes → File → Decision → Assessment
assessed_on n h c s f d = assessed_by h (claimed_on n c s f d) (report_of (part_of (length_of d) s)) f (is_ordinary d)

abbrev pub assessed_outcome : FileNumber → Head → Client → Bytes → File → Decision → Outcome
assessed_outcome n h c s f d = outcome_on h c (raised_if (claimed_on n c s f d).own (assessed_on n h c s f d).status (is_ordinary d)) f (assessed_on n h c s f d)
