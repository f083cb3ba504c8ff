-- By the laws of such a loop in `Loops` of places, and by `Flags`.
use mathlib.Core.Path.{◌≡◌, ap, ◌∙◌}
use lib.ListN.{length, get_or}
use Rattle.places.proofs.Loops.{mapped-length, mapping-none, mapping-more}
use Rattle.mirroring.proofs.Flags.{mapped-places}
use Rattle.mirroring.specs.Mirrors.{no_mirror, blamed_if}
use native.Mathlib.Omega.{arith}
use borrow.Author.Rules.{rules}
use Rattle.mirroring.proofs.mirrors.with_blame.Goals as goal

pub loop-i-init : goal.loop-i-init
loop-i-init c = mapping-none _ _

pub loop-i-preserved : goal.loop-i-preserved
loop-i-preserved c =
    let long : length c.args.mirrors ≡ 5 = search (mapped-length, rules) in
    mapping-more c.loop-i.invariant no_mirror (omega (arith, long)) _ (c.blame.ensures ∙ ap (λ b. blamed_if b (get_or c.loop-i.ms c.loop-i.i no_mirror)) c.test.ensures)

pub returns : goal.returns
returns c =
    let long : length c.args.mirrors ≡ 5 = search (mapped-length, rules) in
    mapped-places _ c.args.mirrors c.loop-i.invariant (omega (arith, long))
