-- MODEL. A file that is changed where it lies, by g, at the place i of the record.
use Rattle.std.specs.Prelude.{ℕ, slice_index_or, slice_set}
use Rattle.files.specs.File.{no_file}
use Rattle.files.specs.declared.file.File.{File}
use Rattle.recovery.specs.Record.{with_files}
use Rattle.recovery.specs.declared.record.Record.{Record}

abbrev pub changed_at : (File → File) → ℕ → Record → Record
changed_at g i r = with_files (slice_set r.files i (g (slice_index_or r.files i no_file))) r
