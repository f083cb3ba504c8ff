-- MODEL. One file of the record, in this order: a file's fields, each changed by one function; tests; the counts; the calls on one file, with what each
-- answers and the file afterwards; a report; restart and the end of grace; the lists.
use Rattle.std.specs.Prelude.{ℕ, Bool, true, false, cond, not, List, [], ◌∷◌, map, length, ◌==◌, slice_index_or, slice_set, Option, Some, None}
use Rattle.statuses.specs.Names.{Bytes, Status, Client, FileNumber}
use Rattle.reports.specs.Device.{halves}
use Rattle.places.specs.Lists.{any, chosen, fill}
use Rattle.places.specs.Places.{first, left_out}
use Rattle.mirroring.specs.Mirrors.{no_mirrors, is_device, unblamed, blamed_at, has_proxy, with_proxy, without_proxy}
use Rattle.mirroring.specs.Source.{source_in}
use Rattle.mirroring.specs.declared.source.Direction.{Direction}
use Rattle.wire.specs.declared.stateid.Stateid.{Stateid}
use Rattle.intents.specs.Intents.{no_intent, no_intents, intent_of, is_intent, is_free, is_kept, is_lost, first_taken, reclaimed_if, unreclaimed_intent, stayed_intent, is_stated, uses_other, stateid_at, stated_if}
use Rattle.mirroring.specs.declared.mirrors.Mirror.{Mirror}
use Rattle.intents.specs.declared.Intent.{Intent}
use Rattle.mirroring.specs.declared.blame.Change.{Change}
use Rattle.files.specs.Counts.{standing, moved_by}
use Rattle.files.specs.declared.counts.Standing.{Standing}
use Rattle.files.specs.declared.file.File.{File}
use Rattle.files.specs.declared.head.Head.{Head}

-- ---- fields
-- what a list has past its end
abbrev pub no_file : File
no_file = record { number = 0; mirrors = []; intents = []; used = false; marked = false }

abbrev pub blank_file : File
blank_file = record { number = 0; mirrors = no_mirrors; intents = no_intents; used = false; marked = false }

abbrev pub file_of : FileNumber → List Mirror → File
file_of n ms = record { number = n; mirrors = ms; intents = no_intents; used = true; marked = false }

abbrev pub with_mirrors : List Mirror → File → File
with_mirrors ms f = record { number = f.number; mirrors = ms; intents = f.intents; used = f.used; marked = f.marked }

abbrev pub with_intents : List Intent → File → File
with_intents xs f = record { number = f.number; mirrors = f.mirrors; intents = xs; used = f.used; marked = f.marked }

abbrev pub with_mark : Bool → File → File
with_mark b f = record { number = f.number; mirrors = f.mirrors; intents = f.intents; used = f.used; marked = b }

-- ---- tests
abbrev pub is_file : FileNumber → File → Bool
is_file n f = cond f.used (f.number == n) false

abbrev pub is_vacant : File → Bool
is_vacant f = not f.used

abbrev pub unreclaimed_bar : Bool → Bool → Bool
unreclaimed_bar h r = cond h (not r) false

-- whether a file is on the resilver list, and whether it is offered for copying
abbrev pub is_listed : File → Bool
is_listed f = cond f.used f.marked false

abbrev pub is_ready : File → Bool
is_ready f = cond (is_listed f) (not (first_taken f.intents)) false

-- ---- the counts: the head once the file f has become g, with one file more, and with each of a list
abbrev pub standing_of : File → Standing
standing_of f = standing (is_listed f) (first_taken f.intents)

abbrev pub moved_head : File → File → Head → Head
moved_head f g h = moved_by (standing_of f) (standing_of g) h

abbrev pub counted_head : Head → File → Head
counted_head h f = moved_by (standing false false) (standing_of f) h

-- all of a list counted, in its order
unfoldable pub tallied : Head → List File → Head
tallied h [] = h
tallied h (f ∷ fs) = tallied (counted_head h f) fs

-- ---- the calls on one file, of the number n; h stands beside the files
-- what a call answers: its status, and what stands beside the files and the file afterwards
pub record FileAnswered : Type 0 where
  pub status : Status
  pub head : Head
  pub file : File

abbrev pub file_answered : Status → Head → File → FileAnswered
file_answered s h f = record { status = s; head = h; file = f }

-- a call that makes g of the file f
abbrev pub becomes : Head → File → File → FileAnswered
becomes h f g = file_answered 0 (moved_head f g h) g

-- a call on the file of the number n, or 70
abbrev pub of_file : FileNumber → Head → File → FileAnswered → FileAnswered
of_file n h f a = cond (is_file n f) a (file_answered 70 h f)

-- a new intent goes to the first free place
abbrev pub takes : Client → Head → File → Option ℕ → FileAnswered
takes c h f None = file_answered 28 h f
takes c h f (Some i) = becomes h f (with_intents (slice_set f.intents i (intent_of c)) f)

abbrev pub opens : Client → Head → File → Option ℕ → FileAnswered
opens c h f (Some i) = file_answered 0 h f
opens c h f None = takes c h f (first is_free f.intents)

unfoldable pub opened_file : FileNumber → Head → Client → File → FileAnswered
opened_file n h c f = cond h.grace (file_answered 10013 h f) (of_file n h f (opens c h f (first (is_intent c) f.intents)))

-- the same in two steps, for code that changes the intents where they lie: s, which is decided first, and then the file with the new intent at a place
pub record Opening : Type 0 where
  pub status : Status
  pub head : Head
  pub at : ℕ
  pub client : Client

abbrev pub with_begun : ℕ → Opening → File → File
with_begun at s f = with_intents (slice_set f.intents at (intent_of s.client)) f

abbrev pub opened_by : Opening → File → FileAnswered
opened_by s f = file_answered s.status s.head (cond (s.status == 0) (with_begun s.at s f) f)

abbrev pub reclaims : Client → Head → File → Option ℕ → FileAnswered
reclaims c h f None = file_answered 10034 h f
reclaims c h f (Some i) = file_answered 0 h (with_intents (map (reclaimed_if c) f.intents) f)

unfoldable pub reclaimed_file : FileNumber → Head → Client → File → FileAnswered
reclaimed_file n h c f = cond h.grace (of_file n h f (reclaims c h f (first (is_intent c) f.intents))) (file_answered 10033 h f)

-- the intents after the one that goes are pulled down over it
abbrev pub leaves : Head → File → Option ℕ → FileAnswered
leaves h f None = file_answered 10025 h f
leaves h f (Some i) =
    cond (unreclaimed_bar h.grace (slice_index_or f.intents i no_intent).reclaimed) (file_answered 10025 h f)
    (becomes h f (with_intents (left_out no_intent i f.intents) f))

unfoldable pub closed_file : FileNumber → Head → Client → File → FileAnswered
closed_file n h c f = of_file n h f (leaves h f (first (is_intent c) f.intents))

-- the same in two steps, as open: s, and then the file without the intent at a place
pub record Closing : Type 0 where
  pub status : Status
  pub head : Head
  pub at : ℕ

abbrev pub with_ended : ℕ → Closing → File → File
with_ended at s f = with_intents (left_out no_intent at f.intents) f

abbrev pub closed_by : Closing → File → FileAnswered
closed_by s f = file_answered s.status s.head (cond (s.status == 0) (with_ended s.at s f) f)

abbrev pub mended_file : File → File
mended_file f = with_mark false (with_mirrors (map unblamed f.mirrors) f)

unfoldable pub repaired_file : FileNumber → Head → File → FileAnswered
repaired_file n h f =
    of_file n h f
    (cond (not f.marked) (file_answered 22 h f) (cond (first_taken f.intents) (file_answered 10008 h f) (becomes h f (mended_file f))))

unfoldable pub forgettable : FileNumber → Head → File → Status
forgettable n h f = cond h.grace 10013 (cond (is_file n f) (cond f.marked 10008 (cond (first_taken f.intents) 10008 0)) 70)

-- a proxy more (Rules 4.9), whose device is s: 22 if that isn't 16 bytes or stands there, 17 if a proxy is there
unfoldable pub proxy_added_file : FileNumber → Head → Bytes → File → FileAnswered
proxy_added_file n h s f =
    cond h.grace (file_answered 10013 h f)
    (of_file n h f
    (cond (not (length s == 16)) (file_answered 22 h f)
    (cond (any (is_device (halves s)) f.mirrors) (file_answered 22 h f)
    (cond (has_proxy f.mirrors) (file_answered 17 h f)
    (file_answered 0 h (with_mirrors (with_proxy (halves s).high (halves s).low f.mirrors) f))))))

-- and none, or 2 (Rules 4.10); its blame goes with it, and the mark stays
unfoldable pub proxy_removed_file : FileNumber → Head → File → FileAnswered
proxy_removed_file n h f =
    cond h.grace (file_answered 10013 h f)
    (of_file n h f
    (cond (not (has_proxy f.mirrors)) (file_answered 2 h f)
    (file_answered 0 h (with_mirrors (without_proxy f.mirrors) f))))

-- a client's stateid is set up (Rules 4.12) as t; `barred` where its `other` may not be a new one's
abbrev pub states : Client → Stateid → Bool → Head → File → Option ℕ → FileAnswered
states c t barred h f None = file_answered 10025 h f
states c t barred h f (Some i) =
    cond (is_stated (stateid_at f.intents (Some i))) (file_answered 17 h f)
    (cond barred (file_answered 22 h f)
    (file_answered 0 h (with_intents (map (stated_if c t) f.intents) f)))

unfoldable pub stated_file : FileNumber → Head → Client → Stateid → Bool → File → FileAnswered
stated_file n h c t barred f = cond h.grace (file_answered 10013 h f) (of_file n h f (states c t barred h f (first (is_intent c) f.intents)))

-- whether one of the file's clients has the `other` of t
unfoldable pub uses_stateid : Stateid → File → Bool
uses_stateid t f = cond f.used (any (uses_other t) f.intents) false

-- ---- a report (LAYOUTRETURN, step 7): one that names an unknown device only marks
unfoldable pub changed_file : Change → File → File
changed_file x f = cond x.unknown (with_mark true f) (cond x.failed (with_mark true (with_mirrors (blamed_at x.blamed f.mirrors) f)) f)

-- the seqid of a return's client rises (02, Ticket 13): it has the stateid t then; no return raises one to 0, which is none
unfoldable pub raised_file : Client → Stateid → File → File
raised_file c t f = cond (is_stated t) (with_intents (map (stated_if c t) f.intents) f) f

-- the same by its parts: whether it marks the file, and the places that it blames
abbrev pub marks_file : Change → Bool
marks_file x = cond x.unknown true x.failed

abbrev pub blames_places : Change → ℕ
blames_places x = cond x.unknown 0 (cond x.failed x.blamed 0)

abbrev pub marked_if : Bool → File → File
marked_if b f = with_mark (cond b true f.marked) f

abbrev pub blamed_file : Bool → ℕ → File → File
blamed_file b places f = marked_if b (with_mirrors (blamed_at places f.mirrors) f)

-- what stands beside the files then
unfoldable pub head_marked : Bool → Head → File → Head
head_marked b h f = moved_head f (marked_if b f) h

unfoldable pub head_after : Change → Head → File → Head
head_after x h f = moved_head f (changed_file x f) h

-- ---- restart and the end of grace
unfoldable pub restarted_file : File → File
restarted_file f = with_intents (map unreclaimed_intent f.intents) f

unfoldable pub ended_file : File → File
ended_file f =
    with_mark (cond (any is_lost f.intents) true f.marked)
    (with_intents (fill (map stayed_intent (chosen is_kept f.intents)) no_intents) f)

-- ---- the lists
unfoldable pub source_of : Direction → File → ℕ
source_of d f = source_in d f.mirrors
