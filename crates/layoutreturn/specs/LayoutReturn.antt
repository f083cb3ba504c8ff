-- MODEL. LAYOUTRETURN on one file (Rules 3.7, 3.8, 3.15), in this order: 28 and steps 1 to 4, before any file is looked at; steps 5 to 7 on a file; an ordinary
-- return on a file; the outcome; the reply; the file afterwards.
use Rattle.std.specs.Prelude.{cond, ℕ, eqb, ltb, Option}
use Rattle.statuses.specs.Names.{Bytes, Status, Client, FileNumber}
use Rattle.reports.specs.Report.{Report, report_of}
use Rattle.wire.specs.Request.{Request, request_of, part_of}
use Rattle.wire.specs.Reply.{reply_in_with}
use Rattle.wire.specs.Seqid.{age_of}
use Rattle.wire.specs.Stateid.{no_stateid, stateid_in, stateid_bytes, has_other, raised_stateid}
use Rattle.wire.specs.declared.stateid.Stateid.{Stateid}
use Rattle.wire.specs.declared.seqid.Age.{Age}
use Rattle.wire.specs.declared.seqid.Age.TheVariants.{Same, Older, Newer}
use Rattle.wire.specs.declared.request.Kind.{Kind}
use Rattle.wire.specs.declared.request.Kind.TheVariants.{Anonymous, Bypass, Current, Invalid, Ordinary}
use Rattle.wire.specs.Request as request
use Rattle.places.specs.Places.{first, is_found}
use Rattle.mirroring.specs.Blame.{status_only, assessment_of}
use Rattle.mirroring.specs.declared.blame.Assessment.{Assessment}
use Rattle.intents.specs.Intents.{is_intent, is_stated, stateid_at}
use Rattle.files.specs.File.{is_file, changed_file, raised_file, head_after}
use Rattle.files.specs.declared.file.File.{File}
use Rattle.files.specs.declared.head.Head.{Head}
use Rattle.layoutreturn.specs.declared.Outcome.{Outcome}

-- stands for "handed on" where a status is answered
abbrev pub handed_on_code : Status
handed_on_code = 4294967295

-- ---- before any file is looked at
-- what is known of a request then: it is answered with a status, handed on, or its body, of so many bytes, is read, by an ordinary return where the file decides so
pub data Decision : Type 0 where
  Answered : (status : Status) → Decision
  HandedOn : Decision
  ReadBody ReturnBody : (len : ℕ) → Decision

-- 10013 in grace, and d out of it
abbrev pub out_of_grace : Head → Decision → Decision
out_of_grace h d = cond h.grace (Answered 10013) d

-- step 4: by the kind of stateid, the edition and the phase
abbrev pub phase_of : Kind → Head → ℕ → Decision
phase_of Anonymous h len = cond h.old (Answered 10025) (cond h.grace (ReadBody len) (Answered 10033))
phase_of Bypass h len = out_of_grace h (Answered 10025)
phase_of Invalid h len = out_of_grace h (Answered 10025)
phase_of Current h len = out_of_grace h HandedOn
phase_of Ordinary h len = out_of_grace h (ReturnBody len)

-- steps 1 to 4
abbrev pub decided : Head → Request → Decision
decided h (request.Refused k) = Answered k
decided h request.Bulk = HandedOn
decided h (request.File kind len) = phase_of kind h len

-- 28 for a reply buffer of under 24 bytes before them
unfoldable pub decision_of : Head → Bytes → ℕ → Decision
decision_of h s room = cond (ltb room 24) (Answered 28) (decided h (request_of s))

-- ---- steps 5 to 7 on the file f
-- step 6
abbrev pub of_client : Assessment → Option ℕ → Assessment
of_client a o = cond (is_found o) a (status_only 10034)

abbrev pub of_intent : FileNumber → Client → File → Assessment → Assessment
of_intent n c f a = cond (is_file n f) (of_client a (first (is_intent c) f.intents)) (status_only 70)

abbrev pub if_whole : Assessment → Assessment → Assessment
if_whole a b = cond (eqb a.status 0) b a

unfoldable pub report_on : FileNumber → Client → Report → File → Assessment
report_on n c p f = if_whole (assessment_of f.mirrors p) (of_intent n c f (assessment_of f.mirrors p))

-- ---- an ordinary return (02, Ticket 13): t is the request's stateid, u the client's on the file f
-- step 4: 10025 no such `other`, or the seqid is newer; 10024 older
abbrev pub by_age : Age → Status
by_age Same = 0
by_age Older = 10024
by_age Newer = 10025

abbrev pub by_stateid : Stateid → Stateid → Status
by_stateid t u = cond (is_stated u) (cond (has_other t u) (by_age (age_of u.seqid t.seqid)) 10025) 10025

abbrev pub held_on : Client → File → Stateid
held_on c f = stateid_at f.intents (first (is_intent c) f.intents)

unfoldable pub bar_on : FileNumber → Client → Stateid → File → Status
bar_on n c t f = cond (is_file n f) (by_stateid t (held_on c f)) 70

-- an old record takes no report: the body is read for its form alone
abbrev pub in_edition : Head → Assessment → Assessment
in_edition h a = cond h.old (status_only a.status) a

-- steps 4, 5 and 7
unfoldable pub return_on : FileNumber → Head → Client → Stateid → Report → File → Assessment
return_on n h c t p f = cond (eqb (bar_on n c t f) 0) (in_edition h (assessment_of f.mirrors p)) (status_only (bar_on n c t f))

-- the stateid of the reply: the client's with its seqid raised, where the return is accepted
abbrev pub raised_on : Client → File → Status → Stateid
raised_on c f k = cond (eqb k 0) (raised_stateid (held_on c f)) no_stateid

-- ---- the outcome: t is the stateid of the reply, which the client c has then
abbrev pub outcome_with : Head → Client → Stateid → Assessment → Outcome
outcome_with h c t a = record { status = a.status; head = h; change = a.change; totals = a.totals; client = c; stateid = t }

abbrev pub outcome_of : Head → Client → Assessment → Outcome
outcome_of h c a = outcome_with h c no_stateid a

-- where a report was read, with the counts as it moves them
abbrev pub outcome_on : Head → Client → Stateid → File → Assessment → Outcome
outcome_on h c t f a = outcome_with (head_after a.change h f) c t a

abbrev pub report_outcome : FileNumber → Head → Client → Report → File → Outcome
report_outcome n h c p f = outcome_on h c no_stateid f (report_on n c p f)

abbrev pub return_outcome : FileNumber → Head → Client → Stateid → Report → File → Outcome
return_outcome n h c t p f = outcome_on h c (raised_on c f (return_on n h c t p f).status) f (return_on n h c t p f)

unfoldable pub outcome_by : FileNumber → Head → Client → Bytes → File → Decision → Outcome
outcome_by n h c s f (Answered k) = outcome_of h c (status_only k)
outcome_by n h c s f HandedOn = outcome_of h c (status_only handed_on_code)
outcome_by n h c s f (ReadBody len) = report_outcome n h c (report_of (part_of len s)) f
outcome_by n h c s f (ReturnBody len) = return_outcome n h c (stateid_in s) (report_of (part_of len s)) f

-- ---- the reply buffer afterwards: nothing is written where the request is handed on
abbrev pub reply_by : Status → Stateid → Bytes → Bytes
reply_by k t d = cond (eqb k handed_on_code) d (reply_in_with k (stateid_bytes t) d)

-- ---- the file afterwards
abbrev pub file_after : File → Outcome → File
file_after f o = raised_file o.client o.stateid (changed_file o.change f)
