-- skip_rest: each turn reads 65,536 bytes at most.
use Prim.Native.Nat.{◌*◌, ◌≤◌}
use Rattle.listings.proofs.program.skip_rest.Given as goal

abbrev pub invariant-loop-turn : goal.invariant-loop-turn
invariant-loop-turn _ l = l.done ≤ 65536 * l._turn
