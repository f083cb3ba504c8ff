-- A test of each is std's `any`.
use Rattle.std.proofs.Common.{rules, tests, sym, ◌∙◌}
use Rattle.std.proofs.lemmas.Iterator.{YieldsList-from_slice}
use Rattle.std.proofs.lemmas.Iterator.Search.{any_from_yields_List}
use Rattle.places.proofs.Std.{any-std}
use Rattle.intents.specs.Intents.{is_near, uses_other}
use Rattle.intents.proofs.Near.{far}
use Rattle.intents.proofs.uses.Goals as goal

pub returns-then-passes : goal.returns-then-passes
returns-then-passes c =
    any_from_yields_List (uses_other c.args.t) _ _ c.any.result c.any.ensures.ran (YieldsList-from_slice c.args.intents (cc)) (λ x b q k. search (rules, tests))
    ∙ any-std _ _

pub returns-else-passes : goal.returns-else-passes
returns-else-passes c =
    let near = c.passes.ensures (is_near c.args.t) (λ x b q. search (rules, tests)) in
    c.if-passes.false ∙ sym (far c.args.t c.args.intents (sym near ∙ c.if-passes.false))
