-- Rests on the laws of the first device error from a cursor on. The measure is what is left of the bytes, whatever the counts say.
use Prim.Native.Nat.{◌-◌}
use lib.ListN.{length}
use mathlib.Core.Path.{◌≡◌}
use Rattle.flexfiles.specs.Handed.{first_at}
use Rattle.flexfiles.proofs.first.Given as goal

abbrev pub invariant-loop-c : goal.invariant-loop-c
invariant-loop-c l = first_at l.s l.c ≡ first_at l.s l.fn.from

abbrev pub decreases-loop-c : goal.decreases-loop-c
decreases-loop-c l = length l.s - l.c.at
