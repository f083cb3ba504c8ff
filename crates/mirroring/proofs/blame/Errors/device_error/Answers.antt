-- By the place that `place` finds.
use mathlib.Core.Path.{◌≡◌, sym, ◌∙◌}
use lib.ListN.{length}
use Rattle.places.proofs.Loops.{mapped-length}
use Rattle.mirroring.proofs.Flags.{found_within}
use native.Mathlib.Omega.{arith}
use borrow.Author.Rules.{rules}
use Rattle.mirroring.proofs.blame.Errors.device_error.Goals as goal

pub blame-requires : goal.blame-requires
blame-requires c =
    let long : length c.args.mirrors ≡ 5 = search (mapped-length, rules) in
    omega (arith, long, found_within _ _ _ (sym c.place.ensures ∙ c.in-Some.is))
