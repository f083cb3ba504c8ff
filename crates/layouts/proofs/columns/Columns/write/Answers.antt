-- write meets its contract by the laws of the writer's answers and of stores.
use Rattle.std.proofs.Common.{rules, ◌≡◌, ◌<◌, ◌≤◌, ◌^◌, Err, length, refl, sym, ap, ◌∙◌, arith}
use lib.Seq.{sets}
use Rattle.xdr.specs.Be.{be_bytes}
use Rattle.xdr.proofs.Be.{length-bytes}
use Rattle.extents.specs.Verdict.{verdict_of, Accepted}
use Rattle.layouts.specs.Layout.{body_size, rows_bytes}
use Rattle.layouts.specs.Columns.{lent, column_list}
use Rattle.layouts.proofs.Sizes.{size_fits, size-least}
use Rattle.layouts.proofs.Stores.{sets_then}
use Rattle.layouts.proofs.Rows.{passed, checked, no_room, room_for, wrote_as}
use Rattle.layouts.proofs.columns.Columns.write.Goals as goal

pub body_size-requires : goal.body_size-requires
body_size-requires c =
    let l = passed c.args.kind (lent c.args.self) c.in_ok-n.n (sym c.in_ok-n.ensures) in
    size_fits c.args.kind c.in_ok-n.n (omega (arith, l.few, l.counted))

pub returns-in_err-n : goal.returns-in_err-n
returns-in_err-n c =
    let a = c.args in
    let e : ◌≡◌ c.from_residual.result (Err c.in_err-n.field-0.0) = search rules in
    rw e (wrote_as a.kind (lent a.self) (checked a.kind (lent a.self) (verdict_of (Err c.in_err-n.field-0.0)) (length a.d.now) c.in_err-n.ensures) refl)

pub returns-then-d-body_size : goal.returns-then-d-body_size
returns-then-d-body_size c =
    let a = c.args in
    let n = c.in_ok-n.n in
    let few : length a.d.now < body_size a.kind n = omega (arith, c.if-d-body_size.true, c.body_size.ensures) in
    rw c.at.ensures (wrote_as a.kind (lent a.self) (no_room a.kind n (length a.d.now) few ∙ checked a.kind (lent a.self) (Accepted n) (length a.d.now) c.in_ok-n.ensures) refl)

pub overflow_cast-n : goal.overflow_cast-n
overflow_cast-n c =
    let l = passed c.args.kind (lent c.args.self) c.in_ok-n.n (sym c.in_ok-n.ensures) in
    let small : c.in_ok-n.n < 2 ^ 32 = omega (arith, l.few, l.counted) in
    search rules

pub put32-requires : goal.put32-requires
put32-requires c = omega (arith, c.if-d-body_size.false, c.body_size.ensures, size-least c.args.kind c.in_ok-n.n)

pub fill-requires-clause-offsets_in_bounds : goal.fill-requires-clause-offsets_in_bounds
fill-requires-clause-offsets_in_bounds c =
    let l = passed c.args.kind (lent c.args.self) c.in_ok-n.n (sym c.in_ok-n.ensures) in
    omega (arith, c.if-d-body_size.false, c.body_size.ensures, ap (body_size c.args.kind) l.counted)

pub fill-requires-clause-even : goal.fill-requires-clause-even
fill-requires-clause-even c = (passed c.args.kind (lent c.args.self) c.in_ok-n.n (sym c.in_ok-n.ensures)).level

pub returns : goal.returns
returns c =
    let a = c.args in
    let n = c.in_ok-n.n in
    let room : body_size a.kind n ≤ length a.d.now = omega (arith, c.if-d-body_size.false, c.body_size.ensures) in
    let rows = rows_bytes a.kind (column_list (lent a.self)) in
    wrote_as a.kind (lent a.self) (room_for a.kind n (length a.d.now) room ∙ checked a.kind (lent a.self) (Accepted n) (length a.d.now) c.in_ok-n.ensures) (
    c.fill.ensures ∙ ap (λ l. sets l 4 rows) c.put32.ensures ∙ sets_then a.d.now 0 4 4 (be_bytes 4 n) rows (length-bytes 4 n) refl
    )
