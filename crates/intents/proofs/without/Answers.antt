-- By the laws of such a loop in `Loops` of places; at no place of the eight, nothing goes.
use Rattle.std.proofs.Common.{rules, ◌≡◌, refl, sym, length}
use native.Mathlib.Omega.{arith}
use Rattle.places.proofs.Loops.{mapped-length, pulling-on, pulled, left_out-none}
use Rattle.intents.specs.Intents.{no_intent}
use Rattle.intents.proofs.without.Goals as goal

pub loop-i-init : goal.loop-i-init
loop-i-init c = record { rest = refl; long = search (mapped-length, rules) }

pub loop-i-preserved : goal.loop-i-preserved
loop-i-preserved c = pulling-on c.loop-i.invariant no_intent (omega arith) _ refl

pub returns-after-loop-i : goal.returns-after-loop-i
returns-after-loop-i c = pulled c.loop-i.invariant no_intent (omega arith) _ c.none.ensures

pub returns-else-at-lt8 : goal.returns-else-at-lt8
returns-else-at-lt8 c =
    let long : length c.args.intents ≡ 8 = search (mapped-length, rules) in
    sym (left_out-none _ _ _ (omega (arith, long)))
