-- The turns from the index on lead where all turns lead.
use Rattle.std.proofs.Common.{◌-◌, ◌≡◌, length}
use Rattle.records.proofs.Slid.{slides}
use Rattle.files.specs.File.{no_file}
use Rattle.capi.proofs.slide.Given as goal

abbrev pub invariant-loop-i : goal.invariant-loop-i
invariant-loop-i l = slides no_file (length l.fs - l.i) (l.i - 1) l.fs ≡ slides no_file (length l.fn.fs - 1) 0 l.fn.fs
