-- The loop maps: `Mapping` holds at its head.
use Rattle.places.proofs.Loops.{Mapping}
use Rattle.files.specs.File.{restarted_file}
use Rattle.recovery.proofs.record.restarted.Given as goal

abbrev pub invariant-loop-f : goal.invariant-loop-f
invariant-loop-f l = Mapping (λ k. restarted_file) l.initial.f-items l.f-items l.f-index
