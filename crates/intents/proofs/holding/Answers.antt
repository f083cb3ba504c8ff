-- A search is std's `position`.
use Rattle.std.proofs.Common.{rules, tests, ◌∙◌}
use Rattle.std.proofs.lemmas.Iterator.{YieldsList-from_slice}
use Rattle.std.proofs.lemmas.Iterator.Search.{position_from_yields_List}
use Rattle.places.proofs.Std.{first-position}
use Rattle.intents.specs.Intents.{is_intent}
use Rattle.intents.proofs.holding.Goals as goal

pub returns : goal.returns
returns c =
    position_from_yields_List (is_intent c.args.client) _ _ c.position.result c.position.ensures.ran (YieldsList-from_slice c.args.intents (cc)) (λ x b q k. search (rules, tests))
    ∙ first-position _ _
