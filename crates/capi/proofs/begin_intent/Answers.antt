-- Rests on a place past the last, where nothing is written.
use Rattle.std.proofs.Common.{◌≡◌, length, sym, ap, arith, rules}
use lib.Seq.{set_out}
use Rattle.places.proofs.Loops.{mapped-length}
use Rattle.intents.specs.Intents.{intent_of}
use Rattle.files.specs.File.{with_intents}
use Rattle.capi.proofs.begin_intent.Goals as goal

pub returns-else-s-lt8 : goal.returns-else-s-lt8
returns-else-s-lt8 c =
    let long : length c.args.f.now.intents ≡ 8 = search (mapped-length, rules) in
    sym (ap (λ xs. with_intents xs c.args.f.now) (set_out c.args.f.now.intents c.args.s.at (intent_of c.args.s.client) (omega (arith, long))))
