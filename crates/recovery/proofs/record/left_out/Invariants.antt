-- The loop pulls the later files down: `Lowering` holds at its head.
use mathlib.Core.Path.{◌≡◌}
use Prim.Native.Nat.{◌≤◌}
use Rattle.files.specs.File.{blank_file}
use Rattle.recovery.specs.Record.{without_file}
use Rattle.recovery.proofs.Moving.{Lowering}
use Rattle.recovery.proofs.record.left_out.Given as goal

abbrev pub invariant-loop-i : goal.invariant-loop-i
invariant-loop-i l = (l.i ≤ 63) × (l.blank ≡ blank_file) × Lowering (without_file l.at l.initial.fs) l.fs l.i
