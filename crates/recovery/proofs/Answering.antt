-- A refusal puts the file back that stands at its place.
use mathlib.Core.Path.{◌≡◌, ap}
use Prim.Native.Nat.{ℕ}
use lib.ListN.{get_or}
use lib.Seq.{set-get_or}
use Rattle.statuses.specs.Names.{Status}
use Rattle.files.specs.File.{no_file, file_answered}
use Rattle.recovery.specs.Record.{with_files, answered, put_file}
use Rattle.recovery.specs.declared.record.Record.{Record}

pub put_back : (r : Record) (i : ℕ) (k : Status) → put_file r i (file_answered k r.head (get_or r.files i no_file)) ≡ answered k r
put_back r i k = ap (λ fs. answered k (with_files fs r)) (set-get_or r.files i no_file)
