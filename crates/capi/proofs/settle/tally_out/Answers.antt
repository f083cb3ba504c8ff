-- Where no record is to come, by what follows; else by what `tally` answers.
use Rattle.std.proofs.Common.{◌≡◌, length, refl, sym, ap, ◌∙◌, rules}
use Rattle.places.proofs.Loops.{mapped-length}
use Rattle.mirroring.specs.Blame.{tallied}
use Rattle.capi.proofs.Tallying.{nothing-follows, something-follows}
use Rattle.capi.proofs.Settling.{none_over}
use Rattle.capi.proofs.settle.tally_out.Goals as goal

pub returns-then-from-body : goal.returns-then-from-body
returns-then-from-body c =
    let long : length c.args.mirrors ≡ 5 = search (mapped-length, rules) in
    let a = c.args in
    let h = c.hand_out_none.ensures in
    rw (something-follows a.mirrors long a.counts a.body.now a.from c.if-from-eq0.true c.if-from-body.true) (refl, h.0, h.1, h.2 ∙ none_over, h.3 ∙ none_over)

pub returns-then-from-eq0 : goal.returns-then-from-eq0
returns-then-from-eq0 c =
    let long : length c.args.mirrors ≡ 5 = search (mapped-length, rules) in
    let a = c.args in
    let h = c.hand_out_none.ensures in
    rw (nothing-follows a.mirrors long a.counts a.body.now a.from c.if-from-eq0.true c.if-from-body.false) (refl, h.0, h.1, h.2 ∙ none_over, h.3 ∙ none_over)

pub returns-in-Err : goal.returns-in-Err
returns-in-Err c =
    let h = c.hand_out_none-in-Err.ensures in
    let told = ap tallied (sym c.in-Err.is) ∙ c.tally.ensures in
    rw (← told) (refl, h.0, h.1, h.2 ∙ none_over, h.3 ∙ none_over)
