-- A test of each is std's `any`.
use Rattle.std.proofs.Common.{rules, tests, ◌∙◌}
use Rattle.std.proofs.lemmas.Iterator.{YieldsList-from_slice}
use Rattle.std.proofs.lemmas.Iterator.Search.{any_from_yields_List}
use Rattle.places.proofs.Std.{any-std}
use Rattle.intents.specs.Intents.{is_lost}
use Rattle.intents.proofs.lost.Goals as goal

pub returns : goal.returns
returns c =
    any_from_yields_List is_lost _ _ c.any.result c.any.ensures.ran (YieldsList-from_slice c.args.intents (cc)) (λ x b q k. search (rules, tests))
    ∙ any-std _ _
