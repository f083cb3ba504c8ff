-- MODEL. LAYOUTRETURN in place, parted before any file is looked up: what is known of a request by what was decided; a request whose body, of so many bytes, is
-- read, or an ordinary return, on its file's place; and what one that is accepted changes there. proofs/Parting.antt proves them together equal to `layoutreturn_of` and
-- `reply_after` of crate recovery.
use Rattle.std.specs.Prelude.{ℕ, cond, slice_index_or, slice_set, Result, Ok, Err}
use Rattle.statuses.specs.Names.{Bytes, Client, FileNumber}
use Rattle.wire.specs.declared.stateid.Stateid.{Stateid}
use Rattle.files.specs.File.{no_file}
use Rattle.files.specs.declared.file.File.{File}
use Rattle.files.specs.declared.head.Head.{Head}
use Rattle.layoutreturn.specs.LayoutReturn.{handed_on_code, outcome_by, Decision, Answered, HandedOn, ReadBody, ReturnBody}
use Rattle.layoutreturn.specs.Settled.{settled_file}
use Rattle.layoutreturn.specs.declared.Outcome.{Outcome}
use Rattle.layoutreturn.specs.declared.Settled.{Settled}
use Rattle.recovery.specs.Record.{with_files, file_at, on_place}
use Rattle.recovery.specs.LayoutReturn.{returning, answered_by}
use Rattle.recovery.specs.declared.record.Record.{Record}
use Rattle.recovery.specs.declared.returns.Returned.{Returned}

-- a file is wanted where the body, of so many bytes, is read, and for an ordinary return; else there is a status
abbrev pub begun_of : Decision → Result ℕ ℕ
begun_of (Answered k) = Err k
begun_of HandedOn = Err handed_on_code
begun_of (ReadBody len) = Ok len
begun_of (ReturnBody len) = Ok len

-- which of the two it is, the phase says: a body is read in grace, and an ordinary return is one out of it
abbrev pub body_read : Head → ℕ → Decision
body_read h len = cond h.grace (ReadBody len) (ReturnBody len)

abbrev pub outcome_in : FileNumber → ℕ → Client → Bytes → Record → File → Outcome
outcome_in n len c s r f = outcome_by n r.head c s f (body_read r.head len)

unfoldable pub returned_in : FileNumber → ℕ → Client → Bytes → Record → Returned
returned_in n len c s r =
    returning (outcome_in n len c s r (file_at n r)).status (outcome_in n len c s r (file_at n r)).totals
    (on_place n (λ f. answered_by f (outcome_in n len c s r f)) r).after

-- the stateid of the reply
unfoldable pub stateid_for : FileNumber → ℕ → Client → Bytes → Record → Stateid
stateid_for n len c s r = (outcome_in n len c s r (file_at n r)).stateid

-- ---- what a return that is accepted changes: the file at the place i
unfoldable pub changed_files : Record → ℕ → Settled → Record
changed_files r i o = with_files (slice_set r.files i (settled_file (slice_index_or r.files i no_file) o)) r
