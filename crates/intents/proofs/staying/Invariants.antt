-- The loop chooses: `Counting` and `Filling` hold at its head.
use Rattle.std.proofs.Common.{replicate, ◌≤◌}
use Rattle.places.proofs.Loops.{Counting, Filling}
use Rattle.intents.specs.Intents.{no_intent, is_kept, stayed_intent}
use Rattle.intents.proofs.staying.Given as goal

abbrev pub invariant-loop-x : goal.invariant-loop-x
invariant-loop-x l = (l.n ≤ l.x-index) × Counting is_kept l.x-items l.x-index l.n × Filling is_kept stayed_intent l.x-items l.x-index (replicate 8 no_intent) l.xs
