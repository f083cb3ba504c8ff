-- MODEL. What each method answers, and the record afterwards. Nothing here need be believed: proofs/History.antt shows that it is what the ledger
-- says. In this order: the record; calls on one file; the set-up of a stateid; register and forget; restart and the end of grace; the lists.
use Rattle.std.specs.Prelude.{List, [], ◌∷◌, ◌++◌, map, Bool, true, false, cond, ℕ, zero, suc, get_or, set, take, drop, replicate, length, eqb, leb}
use Rattle.statuses.specs.Names.{Bytes, Status, Client, FileNumber}
use Rattle.places.specs.Lists.{any, chosen}
use Rattle.places.specs.Places.{first, place_or}
use Rattle.wire.specs.Stateid.{new_stateid, bad_other}
use Rattle.mirroring.specs.Mirrors.{Enrolled, enrolled_of}
use Rattle.files.specs.File.{FileAnswered, no_file, blank_file, file_of, is_file, is_vacant, opened_file, reclaimed_file, closed_file, repaired_file, proxy_added_file, proxy_removed_file, stated_file, uses_stateid, forgettable, restarted_file, ended_file, is_listed, is_ready, source_of, tallied}
use Rattle.files.specs.Head.{fresh_head}
use Rattle.files.specs.declared.head.Edition.{Edition}
use Rattle.files.specs.declared.head.Edition.TheVariants.{Current}
use Rattle.files.specs.declared.file.File.{File}
use Rattle.files.specs.declared.head.Head.{Head}
use Rattle.mirroring.specs.declared.source.Direction.{Direction}
use Rattle.recovery.specs.Calls.{Answer, lend}
use Rattle.recovery.specs.declared.listing.Listing.{Listing}
use Rattle.recovery.specs.declared.listing.Listing.TheVariants.{Resilver, Offered}
use Rattle.recovery.specs.declared.record.Record.{Record}

-- ---- the record
-- as it is set up: empty and not in grace, of an edition, which no call changes
abbrev pub fresh_as : Edition → Record
fresh_as e = record { files = replicate 64 blank_file; head = fresh_head e }

abbrev pub fresh : Record
fresh = fresh_as Current

abbrev pub with_files : List File → Record → Record
with_files fs r = record { files = fs; head = r.head }

abbrev pub with_grace : Bool → Record → Record
with_grace g r = record { files = r.files; head = record { waiting = r.head.waiting; offered = r.head.offered; grace = g; old = r.head.old } }

abbrev pub with_head : Head → Record → Record
with_head h r = record { files = r.files; head = h }

-- what a call answers, and the record afterwards
pub record Answered : Type 0 where
  pub status : Status
  pub after : Record

abbrev pub answered : Status → Record → Answered
answered s r = record { status = s; after = r }

-- ---- calls on one file
-- the place of the file n, or the last place
unfoldable pub place_in : FileNumber → Record → ℕ
place_in n r = place_or 63 (first (is_file n) r.files)

abbrev pub file_at : FileNumber → Record → File
file_at n r = get_or r.files (place_in n r) no_file

abbrev pub put_file : Record → ℕ → FileAnswered → Answered
put_file r i a = answered a.status (with_head a.head (with_files (set r.files i a.file) r))

-- a call on the file at that place, which tests for itself whether it is the file n
abbrev pub on_place : FileNumber → (File → FileAnswered) → Record → Answered
on_place n h r = put_file r (place_in n r) (h (file_at n r))

unfoldable pub open_of : FileNumber → Client → Record → Answered
open_of n c r = on_place n (opened_file n r.head c) r

unfoldable pub reclaim_of : FileNumber → Client → Record → Answered
reclaim_of n c r = on_place n (reclaimed_file n r.head c) r

unfoldable pub close_of : FileNumber → Client → Record → Answered
close_of n c r = on_place n (closed_file n r.head c) r

unfoldable pub repaired_of : FileNumber → Record → Answered
repaired_of n r = on_place n (repaired_file n r.head) r

-- s is the device
unfoldable pub add_proxy_of : FileNumber → Bytes → Record → Answered
add_proxy_of n s r = on_place n (proxy_added_file n r.head s) r

unfoldable pub remove_proxy_of : FileNumber → Record → Answered
remove_proxy_of n r = on_place n (proxy_removed_file n r.head) r

-- ---- the set-up of a stateid: s is its `other` (Rules 4.12)
-- whether the `other` may not be a new one's: it is bad, or in use anywhere in the record
unfoldable pub is_barred : Bytes → List File → Bool
is_barred s fs = cond (bad_other s) true (any (uses_stateid (new_stateid s)) fs)

unfoldable pub set_up_of : FileNumber → Client → Bytes → Record → Answered
set_up_of n c s r = on_place n (stated_file n r.head c (new_stateid s) (is_barred s r.files)) r

-- ---- register and forget
-- a file is entered by its number: from the first free place down, each file with a greater number moves up one place
unfoldable pub raised : File → ℕ → List File → List File
raised x zero fs = set fs 0 x
raised x (suc i) fs = cond (leb (get_or fs i no_file).number x.number) (set fs (suc i) x) (raised x i (set fs (suc i) (get_or fs i no_file)))

unfoldable pub room_in : List File → ℕ
room_in fs = place_or 63 (first is_vacant fs)

unfoldable pub enter : File → List File → List File
enter x fs = raised x (room_in fs) fs

-- the free places are last
abbrev pub is_full : Record → Bool
is_full r = (get_or r.files 63 no_file).used

abbrev pub register_with : FileNumber → Enrolled → Record → Answered
register_with n e r =
    cond e.good
    (cond (is_file n (file_at n r)) (answered 17 r)
    (cond (is_full r) (answered 28 r) (answered 0 (with_files (enter (file_of n e.mirrors) r.files) r))))
    (answered 22 r)

unfoldable pub register_of : FileNumber → Bytes → Record → Answered
register_of n s r = cond r.head.grace (answered 10013 r) (register_with n (enrolled_of s) r)

-- the files after the one that goes, up to the first free place, are pulled down over it
unfoldable pub pulled : List File → List File
pulled [] = []
pulled (x ∷ []) = blank_file ∷ []
pulled (x ∷ y ∷ ys) = cond (is_vacant y) (blank_file ∷ y ∷ ys) (y ∷ pulled (y ∷ ys))

abbrev pub without_file : ℕ → List File → List File
without_file i fs = take i fs ++ pulled (drop i fs)

abbrev pub forgets : Status → FileNumber → Record → Answered
forgets s n r = cond (eqb s 0) (answered 0 (with_files (without_file (place_in n r) r.files) r)) (answered s r)

unfoldable pub forget_of : FileNumber → Record → Answered
forget_of n r = forgets (forgettable n r.head (file_at n r)) n r

-- ---- restart and the end of grace
-- each file after the end of grace, and the head h with each of them counted
abbrev pub ended_record : Head → List File → Record
ended_record h fs = record { files = map ended_file fs; head = tallied h (map ended_file fs) }

-- the end of grace counts both lists anew, as it goes over the files
abbrev pub ended_head : List File → Head → Head
ended_head fs h = record { waiting = length (chosen is_listed fs); offered = length (chosen is_ready fs); grace = false; old = h.old }

unfoldable pub end_of : Record → Answered
end_of r = cond r.head.grace (answered 0 (record { files = map ended_file r.files; head = ended_head (map ended_file r.files) r.head })) (answered 10033 r)

unfoldable pub restart_of : Record → Answered
restart_of r = answered 0 (with_grace true (with_files (map restarted_file r.files) r))

-- ---- the lists
unfoldable pub is_wanted : Listing → File → Bool
is_wanted Resilver f = is_listed f
is_wanted Offered f = is_ready f

abbrev pub number_of : File → FileNumber
number_of f = f.number

unfoldable pub listing_of : Listing → Direction → Record → List FileNumber → List ℕ → Answer
listing_of k d r a b = lend (map number_of (chosen (is_wanted k) r.files)) (map (source_of d) (chosen (is_wanted k) r.files)) a b
