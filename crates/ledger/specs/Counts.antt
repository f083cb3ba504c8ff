-- DEFINITION. The two counts (02, Ticket 8; Rules 5.11), over the histories of demand 3: after any list of calls from a fresh record of either edition, refused
-- calls, restarts and listings included, what the record answers of its counts is how long the two lists of the ledger are. Proved in proofs/Counted.antt.
use Rattle.std.specs.Prelude.{◌≡◌, List, length}
use Rattle.files.specs.declared.head.Edition.{Edition}
use Rattle.recovery.specs.Calls.{Call}
use Rattle.recovery.specs.Counts.{counts, counts_of}
use Rattle.recovery.specs.Record.{fresh_as}
use Rattle.recovery.specs.declared.counts.Counts.{Counts}
use Rattle.recovery.specs.declared.listing.Listing.TheVariants.{Resilver, Offered}
use Rattle.ledger.specs.Ledger.{Ledger, rows_on}
use Rattle.ledger.specs.History.{record_after}
use Rattle.ledger.specs.Demand3.{ledger_of}

-- how many files wait for repair, and how many of those are offered
abbrev pub lengths : Ledger → Counts
lengths l = counts (length (rows_on Resilver l)) (length (rows_on Offered l))

abbrev pub CountsAgree : Type 0
CountsAgree = (e : Edition) (calls : List Call) → counts_of (record_after (fresh_as e) calls).head ≡ lengths (ledger_of e calls)
