-- By the laws of `Assessing` and `StatisticsWalk` of reports.
use mathlib.Core.Path.{◌≡◌, sym, ap, ◌∙◌}
use native.Mathlib.Omega.{arith}
use lib.ListN.{length}
use Rattle.places.proofs.Loops.{mapped-length}
use Rattle.std.specs.Prelude.{Ok, Err}
use Rattle.std.proofs.lemmas.Result.{err_from_is_err_and}
use Rattle.statuses.specs.declared.Status.{Status}
use Rattle.reports.specs.StatisticsSteps.{item_of}
use Rattle.reports.proofs.StatisticsWalk.{goes-forward, stated, tally-given, tally-end, tally-malformed}
use Rattle.mirroring.specs.Blame.{tallied}
use Rattle.mirroring.proofs.Assessing.{adding-stated, told, untold, telling, told_is}
use borrow.Author.Rules.{rules}
use Rattle.mirroring.proofs.blame.tally.Goals as goal

pub loop-y-smaller : goal.loop-y-smaller
loop-y-smaller c =
    let a = c.args in
    omega (arith, goes-forward a.body.now c.loop-y.c (sym c.next.ensures ∙ ap item_of (c.in_ok-y.was ∙ ap Ok c.in-Some.is)))

pub loop-y-preserved : goal.loop-y-preserved
loop-y-preserved c =
    let a = c.args in
    let l = c.loop-y in
    let e = sym c.next.ensures ∙ ap item_of (c.in_ok-y.was ∙ ap Ok c.in-Some.is) in
    rw (c.add-t.ensures ∙ adding-stated a.mirrors l.t (stated a.body.now l.c e))
    (tally-given (telling a.mirrors) untold (told l.t) a.body.now l.c l.invariant e)

pub returns : goal.returns
returns c =
    let long : length c.args.mirrors ≡ 5 = search (mapped-length, rules) in
    let s = c in
    let l = c.loop-y in
    rw c.if-not-counts.false
    (tally-end (telling s.args.mirrors) untold (told l.t) s.args.body.now l.c l.invariant (sym c.next.ensures ∙ ap item_of (c.in_ok-y.was ∙ ap Ok c.in_default.is))
    ∙ told_is s.args.mirrors long _)

pub returns-in_err-y : goal.returns-in_err-y
returns-in_err-y c =
    let long : length c.args.mirrors ≡ 5 = search (mapped-length, rules) in
    let s = c in
    let l = c.loop-y in
    let e = err_from_is_err_and c.from_residual-in_err-y.result c.from_residual-in_err-y.ensures.1 in
    rw c.if-not-counts.false
    (ap tallied e.1 ∙ ap (λ (status : Status). tallied (Err status)) e.2
    ∙ tally-malformed (telling s.args.mirrors) untold (told l.t) s.args.body.now l.c l.invariant (sym c.next.ensures ∙ ap item_of c.in_err-y.was)
    ∙ told_is s.args.mirrors long _)
