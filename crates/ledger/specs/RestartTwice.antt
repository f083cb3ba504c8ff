-- DEFINITION. Restarting twice (Rules 5.10): one more restart inside a grace period takes no file off the list at its end, and clears no blame; and no reclaim
-- outlives a restart. Proved in proofs/RestartTwice.antt.
use Rattle.std.specs.Prelude.{◌≡◌, List, [], ◌∷◌, ◌++◌, Bool, true, false, cond, ℕ, get_or, take, replicate}
use Rattle.statuses.specs.Names.{FileNumber}
use Rattle.places.specs.Lists.{has}
use Rattle.files.specs.declared.head.Edition.{Edition}
use Rattle.recovery.specs.Calls.{Call, end_grace, restart, Answer, said, replied, handed_on, listed}
use Rattle.mirroring.specs.Mirrors.{no_mirror}
use Rattle.files.specs.File.{is_file}
use Rattle.recovery.specs.Record.{fresh_as, file_at, listing_of}
use Rattle.recovery.specs.declared.listing.Listing.TheVariants.{Resilver}
use Rattle.mirroring.specs.declared.source.Direction.TheVariants.{Highest}
use Rattle.recovery.specs.declared.record.Record.{Record}
use Rattle.ledger.specs.Ledger.{Row, row_of, is_open}
use Rattle.ledger.specs.History.{step, record_after}
use Rattle.ledger.specs.Demand3.{ledger_of}

-- whether a record is in grace, and so after each of some calls: they all lie in one grace period
unfoldable pub in_grace_through : Record → List Call → Bool
in_grace_through r [] = r.head.grace
in_grace_through r (x ∷ xs) = cond r.head.grace (in_grace_through (step r x).after xs) false

-- the files of a listing: the places that it filled
abbrev pub files_of : Answer → List FileNumber
files_of (said s) = []
files_of (replied s t d) = []
files_of (handed_on t d) = []
files_of (listed s count a b) = take count a

-- the files that the record's resilver list gives after some calls, whatever the direction; it is lent room for 64, and a record has no more
abbrev pub resilver_files : Edition → List Call → List FileNumber
resilver_files e calls = files_of (listing_of Resilver Highest (record_after (fresh_as e) calls) (replicate 64 0) (replicate 64 0))

-- the row of a file after some calls
abbrev pub row_after : Edition → FileNumber → List Call → Row
row_after e n calls = row_of n (ledger_of e calls)

-- whether the record holds the mirror at a place of a file as blamed
abbrev pub is_blamed : FileNumber → ℕ → Record → Bool
is_blamed n place r = cond (is_file n (file_at n r)) (get_or (file_at n r).mirrors place no_mirror).blamed false

-- what is listed and who is blamed after the calls `once` is so after the calls `twice` too, by the ledger's rows and by what the
-- record holds; a file's mirrors stand at the same places, and so does its proxy
pub record StillThere (e : Edition) (once twice : List Call) : Type 0 where
  pub listed : (n : FileNumber) → has n (resilver_files e once) ≡ true → has n (resilver_files e twice) ≡ true
  pub blamed : (n : FileNumber) (place : ℕ) → has place (row_after e n once).blamed ≡ true → has place (row_after e n twice).blamed ≡ true
  pub held : (n : FileNumber) (place : ℕ) → is_blamed n place (record_after (fresh_as e) once) ≡ true → is_blamed n place (record_after (fresh_as e) twice) ≡ true
  pub mirrors : (n : FileNumber) → (row_after e n twice).mirrors ≡ (row_after e n once).mirrors
  pub proxy : (n : FileNumber) → (row_after e n twice).proxy ≡ (row_after e n once).proxy

-- any history of a record of either edition, with one more restart anywhere inside a grace period: it is in grace after `before`, and stays so through `during`, up to the end
abbrev pub RestartTwice : Type 0
RestartTwice =
    (e : Edition) (before during : List Call) → in_grace_through (record_after (fresh_as e) before) during ≡ true
    → StillThere e (before ++ during ++ end_grace ∷ []) (before ++ restart ∷ during ++ end_grace ∷ [])

-- no reclaim outlives a restart: whoever had reclaimed, a file that has an intent is listed if grace ends before anybody reclaims again
abbrev pub ReclaimAgain : Type 0
ReclaimAgain = (e : Edition) (before : List Call) (n : FileNumber) → is_open (row_after e n before) ≡ true → has n (resilver_files e (before ++ restart ∷ end_grace ∷ [])) ≡ true
