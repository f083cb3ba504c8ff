-- The intents before the index are raised.
use Rattle.std.proofs.Common.{◌≡◌}
use Rattle.records.proofs.Each.{done}
use Rattle.intents.specs.Intents.{stated_if}
use Rattle.capi.proofs.change.Given as goal

abbrev pub invariant-loop-x : goal.invariant-loop-x
invariant-loop-x l = l.x-items ≡ done (stated_if l.s.client l.s.stateid) l.x-index l.initial.x-items
