-- DEFINITION. The marked examples K1 to K15 (Rules 8), as one table: what the definitions answer, and beside it what the paper prints. In this order:
-- layout bodies; a report as bytes; histories of the record, by the record's definitions and by the ledger's; rows; the table; the claim.
use Rattle.std.specs.Prelude.{ℕ, ◌-◌, ◌^◌, ◌≡◌, List, [], ◌∷◌, ◌++◌, map, replicate}
use Rattle.xdr.specs.Be.{be_bytes}
use Rattle.extents.specs.Verdict.{Verdict, Accepted, Refused}
use Rattle.layouts.specs.declared.kinds.Kind.TheVariants.{Scsi}
use Rattle.layouts.specs.Layout.{check_body}
use Rattle.mirroring.specs.Totals.{no_totals}
use Rattle.recovery.specs.Calls.{Call, register, opening, reclaim, close, end_grace, restart, layout_return, listing, Answer, said, replied, listed}
use Rattle.recovery.specs.declared.listing.Listing.TheVariants.{Resilver, Offered}
use Rattle.mirroring.specs.declared.source.Direction.TheVariants.{Lowest}
use Rattle.ledger.specs.Ledger.{Ledger, no_rows, judge, feed}
use Rattle.files.specs.declared.head.Edition.TheVariants.{Current}
use Rattle.recovery.specs.Record.{fresh}
use Rattle.ledger.specs.History.{answers}
use Rattle.epochs.specs.Epochs as epochs
use Rattle.epochs.specs.History as epoch

-- ---- layout bodies: an extent of a state at an offset, of a length; device and storage offset are 0
abbrev pub extent : ℕ → ℕ → ℕ → List ℕ
extent state offset len = replicate 16 0 ++ be_bytes 8 offset ++ be_bytes 8 len ++ be_bytes 8 0 ++ be_bytes 4 state

abbrev pub read_write : ℕ → ℕ → List ℕ
read_write offset len = extent 0 offset len

abbrev pub read : ℕ → ℕ → List ℕ
read offset len = extent 1 offset len

abbrev pub invalid : ℕ → ℕ → List ℕ
invalid offset len = extent 2 offset len

abbrev pub none : ℕ → ℕ → List ℕ
none offset len = extent 3 offset len

-- ---- devices A, B and C
abbrev pub A : List ℕ
A = replicate 16 10

abbrev pub B : List ℕ
B = replicate 16 11

abbrev pub C : List ℕ
C = replicate 16 12

-- a report of one device with status 5: one error record with one device error, and no statistics (68 bytes)
abbrev pub report : List ℕ → List ℕ
report device =
    be_bytes 4 1 ++ be_bytes 8 0 ++ be_bytes 8 4096 ++ replicate 16 0 ++ be_bytes 4 1 ++ device ++ be_bytes 4 5 ++ be_bytes 4 38 ++ be_bytes 4 0

-- a LAYOUTRETURN of a file's layout with the all-zero stateid and that report (120 bytes)
abbrev pub request : List ℕ → List ℕ
request device =
    be_bytes 4 0 ++ be_bytes 4 4 ++ be_bytes 4 3 ++ be_bytes 4 1 ++ be_bytes 8 0 ++ be_bytes 8 (2 ^ 64 - 1) ++ replicate 16 0 ++ be_bytes 4 68 ++ report device

-- ---- histories
-- register 7 (devices A, B), client 1 opens, restart
abbrev pub started : List Call
started = register 7 (A ++ B) ∷ opening 7 1 ∷ restart ∷ []

abbrev pub reclaimed : List Call
reclaimed = started ++ reclaim 7 1 ∷ []

abbrev pub reports : List ℕ → Call
reports device = layout_return 7 1 (request device) (replicate 24 255)

-- the listings, lent two places each
abbrev pub list : Call
list = listing Resilver Lowest (0 ∷ 0 ∷ []) (9 ∷ 9 ∷ [])

abbrev pub offers : Call
offers = listing Offered Lowest (0 ∷ 0 ∷ []) (9 ∷ 9 ∷ [])

-- what the record's definitions answer to a list of calls, and what the ledger says, fed with its own answers
abbrev pub by_record : List Call → List Answer
by_record calls = answers fresh calls

unfoldable pub ledger_from : Ledger → List Call → List Answer
ledger_from l [] = []
ledger_from l (x ∷ xs) = judge l x ∷ ledger_from (feed l x (judge l x)) xs

abbrev pub by_ledger : List Call → List Answer
by_ledger calls = ledger_from (no_rows Current) calls

-- ---- rows: a verdict; the answers to a history, by the record and by the ledger; or the epochs C and R
pub data Row : Type 0 where
  body : Verdict → Row
  history : (by_the_record by_the_ledger : List Answer) → Row
  epochs_are : (current recovery : ℕ) → Row

abbrev pub called : List Call → Row
called calls = history (by_record calls) (by_ledger calls)

abbrev pub epochs_after : List epoch.Call → Row
epochs_after calls = epochs_are (epoch.after epochs.fresh calls).current (epoch.after epochs.fresh calls).recovery

abbrev pub both_start : List epoch.Call
both_start = epoch.join 0 ∷ epoch.join 1 ∷ epoch.start 0 ∷ epoch.start 1 ∷ []

-- the list has file 7 with a source, and nothing else; or nothing
abbrev pub seven : ℕ → Answer
seven source = listed 0 1 (7 ∷ 0 ∷ []) (source ∷ 9 ∷ [])

abbrev pub empty : Answer
empty = listed 0 0 (0 ∷ 0 ∷ []) (9 ∷ 9 ∷ [])

abbrev pub both : List Answer → Row
both given = history given given

-- the answer to an accepted report without statistics: status 0, boolean 1, sixteen zero bytes, and no totals
abbrev pub accepted : Answer
accepted = replied 0 no_totals (be_bytes 4 0 ++ be_bytes 4 1 ++ replicate 16 0)

-- an example: what the definitions answer, and what the paper prints
pub data Example : Type 0 where
  ◌gives◌ : (answer printed : Row) → Example

infix 68 ◌gives◌
abbrev pub answer_of : Example → Row
answer_of (a gives b) = a

abbrev pub printed_in : Example → Row
printed_in (a gives b) = b

-- ---- the table
unfoldable pub table : List Example
table =
    -- K1: four zero bytes
    body (check_body Scsi (0 ∷ 0 ∷ 0 ∷ 0 ∷ [])) gives body (Accepted 0)
    -- K2: three bytes
    ∷ body (check_body Scsi (0 ∷ 0 ∷ 0 ∷ [])) gives body (Refused 1 0)
    -- K3: count 1,025, nothing more
    ∷ body (check_body Scsi (be_bytes 4 1025)) gives body (Refused 2 0)
    -- K4: read-write [0,10), [10,20)
    ∷ body (check_body Scsi (be_bytes 4 2 ++ read_write 0 10 ++ read_write 10 10)) gives body (Accepted 2)
    -- K5: read [0,100), invalid [0,10)
    ∷ body (check_body Scsi (be_bytes 4 2 ++ read 0 100 ++ invalid 0 10)) gives body (Accepted 2)
    -- K6: invalid [0,10), read [0,100)
    ∷ body (check_body Scsi (be_bytes 4 2 ++ invalid 0 10 ++ read 0 100)) gives body (Refused 6 1)
    -- K7: read [0,100), invalid [0,10), read [50,60)
    ∷ body (check_body Scsi (be_bytes 4 3 ++ read 0 100 ++ invalid 0 10 ++ read 50 10)) gives body (Refused 7 2)
    -- K8: state 3, offset 2^64 - 2, length 1
    ∷ body (check_body Scsi (be_bytes 4 1 ++ none (2 ^ 64 - 2) 1)) gives body (Accepted 1)
    -- K9: the same at 2^64 - 1
    ∷ body (check_body Scsi (be_bytes 4 1 ++ none (2 ^ 64 - 1) 1)) gives body (Refused 5 0)
    -- K10: register 7 (devices A, B), client 1 opens, restart, end; list: 7, source 0
    ∷ called (started ++ end_grace ∷ list ∷ [])
    gives both (said 0 ∷ said 0 ∷ said 0 ∷ said 0 ∷ seven 0 ∷ [])
    -- K11: as K10 with client 1's reclaim before the end; empty
    ∷ called (reclaimed ++ end_grace ∷ list ∷ [])
    gives both (said 0 ∷ said 0 ∷ said 0 ∷ said 0 ∷ said 0 ∷ empty ∷ [])
    -- K12: as K11, and it reports A with status 5 in grace; 7, source 1; offered only after close
    ∷ called (reclaimed ++ reports A ∷ end_grace ∷ list ∷ offers ∷ close 7 1 ∷ offers ∷ [])
    gives both (said 0 ∷ said 0 ∷ said 0 ∷ said 0 ∷ accepted ∷ said 0 ∷ seven 1 ∷ empty ∷ said 0 ∷ seven 1 ∷ [])
    -- K13: as K11, and it reports a device C in grace; 7, source 0
    ∷ called (reclaimed ++ reports C ∷ end_grace ∷ list ∷ [])
    gives both (said 0 ∷ said 0 ∷ said 0 ∷ said 0 ∷ accepted ∷ said 0 ∷ seven 0 ∷ [])
    -- K14: nodes 0, 1 join; 0 starts, 1 starts; C = 2, R = 1
    ∷ epochs_after both_start gives epochs_are 2 1
    -- K15: then 0 finishes; 1 finishes; R = 1; then R = 0
    ∷ epochs_after (both_start ++ epoch.finish 0 ∷ []) gives epochs_are 2 1
    ∷ epochs_after (both_start ++ epoch.finish 0 ∷ epoch.finish 1 ∷ []) gives epochs_are 2 0
    ∷ []

abbrev pub MarkedExamples : Type 0
MarkedExamples = map answer_of table ≡ map printed_in table
