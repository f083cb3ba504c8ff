-- MODEL. Calls that change more than one file, as the code in place makes them: what such a call answers, and what becomes of the files. In this order:
-- the end of grace and a fresh record; register; forget. proofs/Whole.antt proves them equal to the definitions of crate recovery.
use Rattle.std.specs.Prelude.{ℕ, zero, suc, ◌+◌, ◌-◌, true, false, cond, List, [], ◌∷◌, slice_index_or, slice_set, Result, Ok, Err}
use Rattle.statuses.specs.Names.{Bytes, Status, FileNumber}
use Rattle.statuses.specs.Numbers.{number}
use Rattle.statuses.specs.declared.Status.{Status as Refusal}
use Rattle.mirroring.specs.Mirrors.{enrolled_of, Enrolled}
use Rattle.intents.specs.Intents.{no_intent, is_kept, is_lost, stayed_intent}
use Rattle.intents.specs.declared.Intent.{Intent}
use Rattle.files.specs.File.{FileAnswered, no_file, blank_file, file_of, is_file, is_vacant, file_answered, forgettable, with_intents, with_mark}
use Rattle.files.specs.declared.file.File.{File}
use Rattle.files.specs.declared.head.Head.{Head}
use Rattle.recovery.specs.Record.{with_files, enter, without_file, ended_record}
use Rattle.recovery.specs.declared.record.Record.{Record}

-- ---- all files
-- what is answered, and what stands beside the files afterwards
pub record Verdict : Type 0 where
  pub status : Status
  pub head : Head

abbrev pub verdict : Status → Head → Verdict
verdict s h = record { status = s; head = h }

-- as the end of grace begins: no file is counted
abbrev pub ending : Head → Head
ending h = record { waiting = 0; offered = 0; grace = false; old = h.old }

abbrev pub emptied_file : File → File
emptied_file f = blank_file

-- a file's intents at the end of grace, in t turns from the place i on, when n stay so far: the place is emptied, one that stays goes to the place n, and one
-- that is lost marks the file
abbrev pub emptied_at : ℕ → File → File
emptied_at i f = with_intents (slice_set f.intents i no_intent) f

abbrev pub moved_to : ℕ → Intent → File → File
moved_to n x f = with_intents (slice_set f.intents n (stayed_intent x)) f

unfoldable pub gathered : ℕ → ℕ → ℕ → File → File
gathered zero i n f = f
gathered (suc t) i n f =
    cond (is_kept (slice_index_or f.intents i no_intent)) (gathered t (i + 1) (n + 1) (moved_to n (slice_index_or f.intents i no_intent) (emptied_at i f)))
    (cond (is_lost (slice_index_or f.intents i no_intent)) (gathered t (i + 1) n (with_mark true (emptied_at i f))) (gathered t (i + 1) n (emptied_at i f)))

-- each file after the end of grace, and each of them counted
unfoldable pub ended_each : Record → Record
ended_each r = ended_record r.head r.files

-- ---- register
abbrev pub refused_with : Status → Head → FileAnswered
refused_with s h = file_answered s h blank_file

-- f is the file n, or the last place
abbrev pub admitted_by : FileNumber → Head → Enrolled → File → FileAnswered
admitted_by n h e f =
    cond e.good (cond (is_file n f) (refused_with 17 h) (cond f.used (refused_with 28 h) (file_answered 0 h (file_of n e.mirrors)))) (refused_with 22 h)

unfoldable pub admitted_of : FileNumber → Head → Bytes → File → FileAnswered
admitted_of n h s f = cond h.grace (refused_with 10013 h) (admitted_by n h (enrolled_of s) f)

-- what the code answers: the file that is to be entered, or a refusal
abbrev pub admitted_as : Head → Result File Refusal → FileAnswered
admitted_as h (Ok x) = file_answered 0 h x
admitted_as h (Err s) = refused_with (number s) h

unfoldable pub entered_files : Record → ℕ → FileAnswered → Record
entered_files r at s = with_files (enter s.file r.files) r

-- ---- forget
abbrev pub forget_verdict : ℕ → Head → File → Verdict
forget_verdict n h f = verdict (forgettable n h f) h

-- each over the one before it
unfoldable pub slid : {A : Type 0} → List A → List A
slid [] = []
slid (x ∷ []) = x ∷ []
slid (x ∷ y ∷ ys) = y ∷ slid (y ∷ ys)

-- the last place before a free one, from i on, in at most t steps
unfoldable pub last_in : List File → ℕ → ℕ → ℕ
last_in fs zero i = i
last_in fs (suc t) i = cond (is_vacant (slice_index_or fs (i + 1) no_file)) i (last_in fs t (i + 1))

unfoldable pub last_sought : Record → ℕ → ℕ
last_sought r at = last_in r.files (63 - at) at

unfoldable pub pulled_files : Record → ℕ → Verdict → Record
pulled_files r at s = with_files (without_file at r.files) r
