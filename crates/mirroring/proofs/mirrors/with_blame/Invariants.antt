-- The loop maps by place: `Mapping` holds at its head.
use Rattle.masks.specs.Mask as mask
use Rattle.places.proofs.Loops.{Mapping}
use Rattle.mirroring.specs.Mirrors.{blamed_if}
use Rattle.mirroring.proofs.mirrors.with_blame.Given as goal

abbrev pub invariant-loop-i : goal.invariant-loop-i
invariant-loop-i l = Mapping (λ k. blamed_if (mask.has l.places k)) l.fn.mirrors l.ms l.i
