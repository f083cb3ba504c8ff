-- Those that are counted are what a filter leaves.
use Rattle.std.proofs.Common.{length, rules, tests, ap, ◌∙◌}
use Rattle.std.proofs.lemmas.Iterator.{YieldsList-from_slice}
use Rattle.std.proofs.lemmas.Iterator.Consumers.{YieldsList-at, YieldsList-from_filter, count_from_yields_List}
use Rattle.places.proofs.Std.{chosen-filter}
use Rattle.recovery.specs.Record.{is_wanted}
use Rattle.recovery.proofs.listing.counted.Goals as goal

pub returns : goal.returns
returns c =
    count_from_yields_List c.filter.result _ c.count.ensures.ran (YieldsList-from_filter _ (is_wanted c.args.which) (YieldsList-at c.filter.ensures.source (YieldsList-from_slice c.args.files.now cc)) c.filter.ensures.closure (λ x b q k. search (rules, tests)))
    ∙ ap length (chosen-filter _ _)
