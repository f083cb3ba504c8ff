-- The loop pulls down: `Pulling` holds at its head, at the place that it has come to.
use Rattle.places.specs.Places.{left_out}
use Rattle.places.proofs.Loops.{Pulling}
use Rattle.intents.specs.Intents.{no_intent}
use Rattle.intents.proofs.without.Given as goal

abbrev pub invariant-loop-i : goal.invariant-loop-i
invariant-loop-i l = Pulling no_intent 7 (left_out no_intent l.fn.at l.fn.intents) l.xs l.i
