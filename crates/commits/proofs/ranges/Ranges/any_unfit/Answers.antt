-- any_unfit: at each turn what is refused of the ranges to come is what is refused of all.
use Rattle.std.proofs.Common.{◌≡◌, sym, ◌∙◌, arith}
use Rattle.committing.specs.Ranges.{range_at, unfit}
use Rattle.committing.proofs.Ranges.{unfit-here, fit-here, all_fit, fit-ends}
use Rattle.commits.proofs.ranges.Ranges.any_unfit.Goals as goal

pub returns-then-is_unfit : goal.returns-then-is_unfit
returns-then-is_unfit c =
    let a = c.args in
    let l = c.loop-k in
    let g = range_at a.self.list.now in
    let e : c.is_unfit.result ≡ unfit a.block l.before (g l.k) = c.is_unfit.ensures ∙ rw (c.get-off.ensures.0, c.get-off.ensures.1) in
    unfit-here a.block g a.self.count l.k l.before (omega (arith, c)) (sym e ∙ (search)) ∙ l.invariant

pub overflow_add-before : goal.overflow_add-before
overflow_add-before c =
    let a = c.args in
    let l = c.loop-k in
    let g = range_at a.self.list.now in
    let e : c.is_unfit.result ≡ unfit a.block l.before (g l.k) = c.is_unfit.ensures ∙ rw (c.get-off.ensures.0, c.get-off.ensures.1) in
    record { fits = omega (arith, fit-ends a.block l.before (g l.k) (sym e ∙ (search)), c.get-off.ensures.0, c.get-off.ensures.1) }

pub loop-k-preserved : goal.loop-k-preserved
loop-k-preserved c =
    let a = c.args in
    let l = c.loop-k in
    let g = range_at a.self.list.now in
    let e : c.is_unfit.result ≡ unfit a.block l.before (g l.k) = c.is_unfit.ensures ∙ rw (c.get-off.ensures.0, c.get-off.ensures.1) in
    rw (c.get-off.ensures.0, c.get-off.ensures.1) (fit-here a.block g a.self.count l.k l.before (omega (arith, c)) (sym e ∙ (search)) ∙ l.invariant)

pub returns : goal.returns
returns c =
    let a = c.args in
    let l = c.loop-k in
    all_fit a.block (range_at a.self.list.now) a.self.count l.k l.before (omega (arith, c)) ∙ l.invariant
