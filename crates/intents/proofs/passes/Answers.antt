-- Rests on a turn, and on where no turn is left.
use Rattle.std.proofs.Common.{◌≡◌, ◌+◌, ◌≤◌, true, cond, not, eqb, drop, refl, sym, ap, ◌∙◌, length, arith, rules}
use Rattle.places.specs.Lists.{any}
use Rattle.places.proofs.Loops.{mapped-length}
use Rattle.intents.specs.Intents.{no_intent}
use Rattle.intents.proofs.Near.{any-turn, any-over, one-most, counted-on}
use Rattle.intents.proofs.passes.Goals as goal

pub loop-i-init : goal.loop-i-init
loop-i-init g c = (λ p k. refl, omega arith)

pub loop-i-preserved : goal.loop-i-preserved
loop-i-preserved g c =
    let long : length c.args.intents ≡ 8 = search (mapped-length, rules) in
    let one : c.from-n.result ≤ 1 = one-most c.f.result c.from-n.result c.from-n.ensures in (
      λ p k.
          ap (λ b. cond b true (any p (drop (c.loop-i.i + 1) c.args.intents))) (sym (counted-on c.loop-i.n c.from-n.result c.f.result c.from-n.ensures))
          ∙ sym (any-turn p c.args.intents c.loop-i.i (not (eqb c.loop-i.n 0)) no_intent c.f.result (omega (arith, long, c.loop-i-test.true)) (k _ _ c.f.ensures)) ∙ c.loop-i.invariant.0 p k,
      omega (arith, one, c.loop-i.invariant.1),
    )

pub overflow_add-n : goal.overflow_add-n
overflow_add-n g c =
    let one : c.from-n.result ≤ 1 = one-most c.f.result c.from-n.result c.from-n.ensures in
    omega (arith, one, c.loop-i.invariant.1, c.loop-i-test.true)

pub returns : goal.returns
returns g c = λ p k.
    let long : length c.args.intents ≡ 8 = search (mapped-length, rules) in
    sym (any-over p c.args.intents c.loop-i.i (not (eqb c.loop-i.n 0)) (omega (arith, long, c.loop-i-test.false))) ∙ c.loop-i.invariant.0 p k
