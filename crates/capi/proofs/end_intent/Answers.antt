-- Rests on the intents from the place up to the last, moved down, and the last place freed.
use Rattle.std.proofs.Common.{◌≡◌, length, set, ap, ◌∙◌, rules}
use Rattle.places.proofs.Loops.{mapped-length}
use Rattle.intents.specs.Intents.{no_intent}
use Rattle.files.specs.File.{with_intents}
use Rattle.capi.proofs.Ended.{ended_so, none_ends}
use Rattle.capi.proofs.end_intent.Goals as goal

pub returns-then-s-lt8 : goal.returns-then-s-lt8
returns-then-s-lt8 c =
    let long : length c.args.f.now.intents ≡ 8 = search (mapped-length, rules) in
    let f = c.args.f.now in
    ap (λ zs. with_intents zs f) (ap (λ zs. set zs 7 c.none.result) c.copy_within.ensures.after ∙ ap (set _ 7) c.none.ensures ∙ ended_so no_intent f.intents c.args.s.at (length f.intents) long long c.if-s-lt8.true)

pub returns-else-s-lt8 : goal.returns-else-s-lt8
returns-else-s-lt8 c =
    let long : length c.args.f.now.intents ≡ 8 = search (mapped-length, rules) in
    ap (λ zs. with_intents zs c.args.f.now) (none_ends no_intent c.args.f.now.intents c.args.s.at long c.if-s-lt8.false)
