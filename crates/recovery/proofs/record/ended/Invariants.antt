-- The loop maps and counts: `Mapping` and `Tallying` hold at its head.
use Rattle.places.proofs.Loops.{Mapping}
use Rattle.files.specs.File.{ended_file}
use Rattle.recovery.proofs.Tallying.{Tallying}
use Rattle.recovery.proofs.record.ended.Given as goal

abbrev pub invariant-loop-f : goal.invariant-loop-f
invariant-loop-f l = Mapping (λ k. ended_file) l.initial.f-items l.f-items l.f-index × Tallying l.initial.head l.head l.f-items l.f-index
