-- DEFINITION. Demand 3 (Rules 5.9), of any list of calls from a fresh record of either edition (Rules 4.3): one claim about the whole list, proved in proofs/History.antt.
use Rattle.std.specs.Prelude.{◌≡◌, List, false, ℕ}
use Rattle.statuses.specs.Names.{FileNumber}
use Rattle.places.specs.Lists.{has}
use Rattle.files.specs.declared.head.Edition.{Edition}
use Rattle.files.specs.Head.{edition_of}
use Rattle.mirroring.specs.declared.source.Direction.{Direction}
use Rattle.recovery.specs.Calls.{Call, listing}
use Rattle.recovery.specs.declared.listing.Listing.{Listing}
use Rattle.ledger.specs.Ledger.{Ledger, no_rows, judge, is_on, rows_on, sources}
use Rattle.ledger.specs.Lists.{OneList}
use Rattle.recovery.specs.Record.{fresh_as, listing_of}
use Rattle.ledger.specs.History.{answers, record_after, verdicts, ledger_after}

-- the ledger after some calls, fed each call and the record's answer; old is how the record is set up
abbrev pub ledger_of : Edition → List Call → Ledger
ledger_of e calls = ledger_after (no_rows e) calls (answers (fresh_as e) calls)

-- each answer is what the ledger before that call says, every lent byte and all totals of a LAYOUTRETURN (Rules 3.11) included; after all calls both listings are
-- the ledger's, and the ledger's two lists are those that the paper's sentences mean, and no other lists are; no source is place 4, the proxy's (Rules 5.7); and the
-- record's edition is the one that it was set up with
pub record Holds (e : Edition) (calls : List Call) : Type 0 where
  pub answered : answers (fresh_as e) calls ≡ verdicts (no_rows e) calls (answers (fresh_as e) calls)
  pub listings : (which : Listing) (by : Direction) (a : List FileNumber) (b : List ℕ) → listing_of which by (record_after (fresh_as e) calls) a b ≡ judge (ledger_of e calls) (listing which by a b)
  pub lists : (which : Listing) (by : Direction) → OneList by (is_on which) (ledger_of e calls) (rows_on which (ledger_of e calls))
  pub ordinary : (which : Listing) (by : Direction) → has 4 (sources by (rows_on which (ledger_of e calls))) ≡ false
  pub edition : edition_of (record_after (fresh_as e) calls).head ≡ e

abbrev pub Demand3 : Type 0
Demand3 = (e : Edition) (calls : List Call) → Holds e calls
