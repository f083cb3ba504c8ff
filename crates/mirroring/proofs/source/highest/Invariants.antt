-- `Downwards` holds at the loop's head.
use Rattle.mirroring.specs.Source.{ordinary}
use Rattle.mirroring.proofs.Sourcing.{Downwards}
use Rattle.mirroring.proofs.source.highest.Given as goal

abbrev pub invariant-loop-i : goal.invariant-loop-i
invariant-loop-i l = Downwards (ordinary l.mirrors) l.i
