-- MODEL. A file's place, as a loop over the record where it lies finds it: the test of one place, by its flag and number and by its number alone; the first of the 63 places that passes, or the last
-- place, by either test. proofs/Places.antt proves the former equal to `place_in` of crate recovery, and the latter to the former where it is not to be sought again.
use Rattle.std.specs.Prelude.{ℕ, Bool, false, cond, ◌==◌, nat_lt}
use Rattle.statuses.specs.Names.{FileNumber}
use Rattle.walks.specs.Seek.{seek}
use Rattle.files.specs.File.{no_file, is_file}
use Rattle.recovery.specs.declared.record.Record.{Record}

abbrev pub has_number : Bool → FileNumber → FileNumber → Bool
has_number used number file = number == file

-- whether a place that was found by its number alone is to be sought again
abbrev pub is_unsure : Bool → ℕ → Bool
is_unsure used at = cond used false (nat_lt at 63)

unfoldable pub sought_in : FileNumber → Record → ℕ
sought_in n r = seek (is_file n) no_file r.files 63 0

unfoldable pub number_in : FileNumber → Record → ℕ
number_in n r = seek (λ f. has_number f.used f.number n) no_file r.files 63 0
