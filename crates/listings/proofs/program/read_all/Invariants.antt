-- read_all: what was read so far is within the buffer.
use Prim.Native.Nat.{◌≤◌}
use lib.ListN.{length}
use Rattle.listings.proofs.program.read_all.Given as goal

abbrev pub invariant-loop-turn : goal.invariant-loop-turn
invariant-loop-turn _ l = l.done ≤ length l.buf
