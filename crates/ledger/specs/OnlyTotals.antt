-- DEFINITION. Statistics change nothing but the totals (Rules 3.12): they never mark, blame or reclaim, and the record is the same without them. Proved in
-- proofs/OnlyTotals.antt. In this order: two requests that differ in their statistics; two answers that differ in their totals; the claim, of any record.
use Rattle.std.specs.Prelude.{◌≡◌, false, List, [], map}
use Rattle.statuses.specs.Names.{Bytes, Client, FileNumber}
use Rattle.reports.specs.Statistics.{Statistic}
use Rattle.reports.specs.Report.{Whole, report_of, without_statistics}
use Rattle.wire.specs.Request.{Request, request_of, body_of}
use Rattle.wire.specs.Stateid.{no_stateid, stateid_in}
use Rattle.wire.specs.Request as request
use Rattle.mirroring.specs.Totals.{no_totals}
use Rattle.recovery.specs.Calls.{Call, layout_return, Answer, said, replied, handed_on, listed}
use Rattle.intents.specs.declared.Intent.{Intent}
use Rattle.files.specs.File.{with_intents}
use Rattle.recovery.specs.Record.{with_files}
use Rattle.recovery.specs.declared.record.Record.{Record}
use Rattle.ledger.specs.Ledger.{is_ordinary}
use Rattle.ledger.specs.History.{step}

-- how a request is read, but for the length of its body
abbrev pub kind_of : Request → Request
kind_of (request.Refused k) = request.Refused k
kind_of request.Bulk = request.Bulk
kind_of (request.File kind len) = request.File kind 0

-- they are read alike, have the same stateid, and their bodies hold the same device errors in the same order, or are both malformed
pub record SameButStatistics (s t : Bytes) : Type 0 where
  pub kind : kind_of (request_of s) ≡ kind_of (request_of t)
  pub stateid : stateid_in s ≡ stateid_in t
  pub errors : without_statistics (report_of (body_of s)) ≡ without_statistics (report_of (body_of t))

abbrev pub without_totals : Answer → Answer
without_totals (said k) = said k
without_totals (replied k ts d) = replied k no_totals d
without_totals (handed_on ts d) = handed_on no_totals d
without_totals (listed k n a b) = listed k n a b

-- two calls leave the same record, and are answered alike but for the totals
pub record Alike (r : Record) (x y : Call) : Type 0 where
  pub after : (step r x).after ≡ (step r y).after
  pub answer : without_totals (step r x).answer ≡ without_totals (step r y).answer

-- a record but for its stateids
abbrev pub without_stateid : Intent → Intent
without_stateid x = record { client = x.client; stateid = no_stateid; taken = x.taken; reclaimed = x.reclaimed }

abbrev pub without_stateids : Record → Record
without_stateids r = with_files (map (λ f. with_intents (map without_stateid f.intents) f) r.files) r

-- whatever the statistics records say, and a report that has no others leaves the record as it was, but for the seqid that an ordinary return raises
pub record OnlyTotals (r : Record) (n : FileNumber) (c : Client) (s d : Bytes) : Type 0 where
  pub alike : (t : Bytes) → SameButStatistics s t → Alike r (layout_return n c s d) (layout_return n c t d)
  pub silent : (ys : List Statistic) → report_of (body_of s) ≡ Whole [] ys → without_stateids (step r (layout_return n c s d)).after ≡ without_stateids r
  pub unraised : (ys : List Statistic) → report_of (body_of s) ≡ Whole [] ys → is_ordinary (request_of s) ≡ false → (step r (layout_return n c s d)).after ≡ r
