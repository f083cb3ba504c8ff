-- A search is std's `position`; the first that passes is the first of those that pass.
use Rattle.std.proofs.Common.{rules, tests, ◌≡◌, ap, ◌∙◌}
use Rattle.std.proofs.lemmas.Iterator.{YieldsList-from_slice}
use Rattle.std.proofs.lemmas.Iterator.Search.{position_from_yields_List}
use Rattle.places.specs.Places.{first, place_or}
use Rattle.places.proofs.Std.{first-position}
use Rattle.mirroring.specs.Mirrors.{is_good}
use Rattle.mirroring.specs.Source.{ordinary}
use Rattle.mirroring.proofs.Sourcing.{first-up}
use Rattle.mirroring.proofs.source.lowest.Goals as goal

pub returns-clause-place : goal.returns-clause-place
returns-clause-place c =
    let found : c.position.result ≡ first is_good (ordinary c.args.mirrors) =
    position_from_yields_List is_good _ _ c.position.result c.position.ensures.ran (YieldsList-from_slice (ordinary c.args.mirrors) (cc)) (λ x b q k. search (rules, tests))
    ∙ first-position _ _
    in
    ap (place_or 255) found ∙ first-up (ordinary c.args.mirrors)
