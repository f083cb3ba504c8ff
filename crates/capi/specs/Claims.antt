-- MODEL. What the file at a place of a record says of a return's client, by the kind of return: in grace it is anonymous.
use Rattle.std.specs.Prelude.{ℕ, not, slice_index_or}
use Rattle.statuses.specs.Names.{Bytes, Client, FileNumber}
use Rattle.files.specs.File.{no_file}
use Rattle.layoutreturn.specs.OneWalk.{claim_by, Claim}
use Rattle.recovery.specs.declared.record.Record.{Record}

abbrev pub claim_in : Record → ℕ → FileNumber → Client → Bytes → Claim
claim_in r i n c s = claim_by n c s (slice_index_or r.files i no_file) (not r.head.grace)
