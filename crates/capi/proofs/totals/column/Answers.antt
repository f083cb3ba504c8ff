-- A slice of just the places is the sums; else they stand before zeros.
use Rattle.std.proofs.Common.{◌≡◌, List, ℕ, ◌++◌, length, drop, min, sym, ap, ◌∙◌, rules}
use Rattle.capi.proofs.Lent.{column-parted, column-whole}
use Rattle.capi.proofs.totals.column.Goals as goal

pub returns-then-lent-eq-PLACES : goal.returns-then-lent-eq-PLACES
returns-then-lent-eq-PLACES c =
    let long : length c.args.sums ≡ 5 = search rules in
    c.copy_from_slice.ensures.after ∙ column-whole c.args.sums c.args.lent.now (c.if-lent-eq-PLACES.true ∙ sym long)

pub returns : goal.returns
returns c =
    let long : length c.args.sums ≡ 5 = search rules in
    ap (λ (t : List ℕ). t ++ drop c.min-n.result c.fill.new.self) c.copy_from_slice-2.ensures.after
    ∙ column-parted c.args.sums c.args.lent.now c.min-n.result c.fill.new.self (c.min-n.ensures ∙ ap (λ k. min (length c.args.lent.now) k) (sym long)) (c.fill.ensures.after (λ y h. h))
