-- A search is std's `position`, and what it finds is a place.
use Rattle.std.proofs.Common.{◌≡◌, length, rules, tests, ◌∙◌}
use Rattle.std.proofs.lemmas.Iterator.{YieldsList-from_slice}
use Rattle.std.proofs.lemmas.Iterator.Search.{position_from_yields_List}
use Rattle.places.proofs.Loops.{mapped-length}
use Rattle.places.proofs.Std.{first-position}
use Rattle.files.specs.File.{is_file}
use Rattle.recovery.specs.Record.{place_in}
use Rattle.recovery.proofs.Places.{found-or-last}
use Rattle.recovery.proofs.record.Record.place.Goals as goal

pub returns : goal.returns
unfolding place_in
returns c =
    let long : length c.args.self.files ≡ 64 = search (mapped-length, rules) in
    let at =
    position_from_yields_List (is_file c.args.number) _ _ c.position.result c.position.ensures.ran (YieldsList-from_slice c.args.self.files (cc)) (λ x b q k. search (rules, tests))
    ∙ first-position _ _ in
    found-or-last (is_file c.args.number) c.args.self.files long at c.unwrap_or.ensures
