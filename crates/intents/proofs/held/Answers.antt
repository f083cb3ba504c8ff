-- One passes where the first that passes is found.
use Rattle.std.proofs.Common.{rules, tests, ◌∙◌}
use Rattle.intents.specs.Intents.{is_intent}
use Rattle.intents.proofs.Near.{found-any}
use Rattle.intents.proofs.held.Goals as goal

pub returns : goal.returns
returns c = c.passes.ensures (is_intent c.args.client) (λ x b q. search (rules, tests)) ∙ found-any _ _
