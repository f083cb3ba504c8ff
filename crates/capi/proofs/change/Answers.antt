-- Rests on the file that is reported, and on each of its intents raised.
use Rattle.std.proofs.Common.{◌≡◌, length, sym, ap, ◌∙◌, arith, rules}
use Rattle.places.proofs.Loops.{mapped-length}
use Rattle.records.proofs.Each.{done-turn, done-all}
use Rattle.intents.specs.Intents.{no_intent, stated_if}
use Rattle.files.specs.File.{with_intents}
use Rattle.capi.proofs.Parting.{settled-raised, settled-reported}
use Rattle.capi.proofs.change.Goals as goal

pub loop-x-preserved : goal.loop-x-preserved
loop-x-preserved c =
    let long : length c.reported.result.intents ≡ 8 = search (mapped-length, rules) in
    done-turn (stated_if c.args.s.client c.args.s.stateid) c.loop-x.x-index c.reported.result.intents no_intent (omega (arith, long)) c.loop-x.x-items c.loop-x.invariant _ c.raised.ensures

pub returns-after-loop-x : goal.returns-after-loop-x
returns-after-loop-x c =
    let long : length c.reported.result.intents ≡ 8 = search (mapped-length, rules) in
    ap (λ xs. with_intents xs c.reported.result) (c.loop-x.invariant ∙ done-all (stated_if c.args.s.client c.args.s.stateid) c.loop-x.x-index c.reported.result.intents (omega (arith, long)))
    ∙ settled-raised c.args.f.now c.args.s c.reported.result c.reported.ensures (sym c.raises.ensures ∙ c.if-raises.true)

pub returns-else-raises : goal.returns-else-raises
returns-else-raises c = settled-reported c.args.f.now c.args.s c.reported.result c.reported.ensures (sym c.raises.ensures ∙ c.if-raises.false)
