-- MODEL. LAYOUTRETURN on the record: what it answers, the record afterwards, and the reply buffer. Nothing here need be believed: crate ledger shows that
-- it is what the ledger says.
use Rattle.std.specs.Prelude.{ℕ, length, eqb}
use Rattle.statuses.specs.Names.{Bytes, Status, Client, FileNumber}
use Rattle.reports.specs.Report.{report_of}
use Rattle.wire.specs.Request.{body_of}
use Rattle.wire.specs.Stateid.{no_stateid, stateid_in}
use Rattle.wire.specs.declared.stateid.Stateid.{Stateid}
use Rattle.mirroring.specs.Totals.{no_totals}
use Rattle.mirroring.specs.declared.totals.Totals.{Totals}
use Rattle.files.specs.File.{FileAnswered, file_answered}
use Rattle.files.specs.declared.file.File.{File}
use Rattle.layoutreturn.specs.LayoutReturn.{handed_on_code, decision_of, report_outcome, return_outcome, reply_by, file_after, Decision, Answered, HandedOn, ReadBody, ReturnBody}
use Rattle.layoutreturn.specs.declared.Outcome.{Outcome}
use Rattle.recovery.specs.Record.{place_in, file_at, on_place}
use Rattle.recovery.specs.declared.record.Record.{Record}
use Rattle.recovery.specs.declared.returns.Returned.{Returned}

abbrev pub returning : Status → Totals → Record → Returned
returning k ts r = record { status = k; handed = eqb k handed_on_code; totals = ts; after = r }

-- what an outcome says, and the file afterwards
abbrev pub answered_by : File → Outcome → FileAnswered
answered_by f o = file_answered o.status o.head (file_after f o)

-- steps 5 to 7 on a file, and an ordinary return
abbrev pub report_file : FileNumber → Client → Bytes → Record → File → Outcome
report_file n c s r f = report_outcome n r.head c (report_of (body_of s)) f

abbrev pub return_file : FileNumber → Client → Bytes → Record → File → Outcome
return_file n c s r f = return_outcome n r.head c (stateid_in s) (report_of (body_of s)) f

-- either on the file of the number n
abbrev pub asked : FileNumber → Record → (File → Outcome) → Returned
asked n r o = returning (o (file_at n r)).status (o (file_at n r)).totals (on_place n (λ f. answered_by f (o f)) r).after

unfoldable pub reported_of : FileNumber → Client → Bytes → Record → Returned
reported_of n c s r = asked n r (report_file n c s r)

unfoldable pub ordinary_of : FileNumber → Client → Bytes → Record → Returned
ordinary_of n c s r = asked n r (return_file n c s r)

-- by what is decided before any file is looked at
abbrev pub returned_by : FileNumber → Client → Bytes → Record → Decision → Returned
returned_by n c s r (Answered k) = returning k no_totals r
returned_by n c s r HandedOn = returning handed_on_code no_totals r
returned_by n c s r (ReadBody len) = reported_of n c s r
returned_by n c s r (ReturnBody len) = ordinary_of n c s r

-- the place that is asked: a file is looked up only where the body is read
abbrev pub place_for : FileNumber → Record → Decision → ℕ
place_for n r (Answered k) = 63
place_for n r HandedOn = 63
place_for n r (ReadBody len) = place_in n r
place_for n r (ReturnBody len) = place_in n r

unfoldable pub layoutreturn_of : FileNumber → Client → Bytes → Bytes → Record → Returned
layoutreturn_of n c s d r = returned_by n c s r (decision_of r.head s (length d))

-- the reply's stateid: only an ordinary return has one
abbrev pub stateid_by : FileNumber → Client → Bytes → Record → Decision → Stateid
stateid_by n c s r (Answered k) = no_stateid
stateid_by n c s r HandedOn = no_stateid
stateid_by n c s r (ReadBody len) = no_stateid
stateid_by n c s r (ReturnBody len) = (return_file n c s r (file_at n r)).stateid

-- the reply buffer afterwards
unfoldable pub reply_after : FileNumber → Client → Bytes → Bytes → Record → Bytes
reply_after n c s d r = reply_by (layoutreturn_of n c s d r).status (stateid_by n c s r (decision_of r.head s (length d))) d
