-- merge meets its contract by the laws of its answers and of its stores.
use Rattle.std.proofs.Common.{rules, Err, ◌≡◌, length, sym, refl, ap, ◌∙◌, arith}
use lib.Seq.{sets}
use Rattle.xdr.specs.Be.{be_bytes}
use Rattle.xdr.proofs.Be.{length-bytes}
use Rattle.extents.specs.Verdict.{Accepted, verdict_of}
use Rattle.layouts.specs.declared.kinds.Kind.TheVariants.{Scsi}
use Rattle.layouts.proofs.Stores.{sets_then}
use Rattle.layouts.proofs.Rows.{even-said}
use Rattle.merging.specs.Merged.{merged}
use Rattle.joining.specs.Joiner.{bytes_of}
use Rattle.joining.specs.Merge.{columns_of, row_of, column_list}
use Rattle.joining.proofs.Answers.{uneven, too_many, judged, too_long, no_room, room_for, came-to}
use Rattle.joining.proofs.merge.merge.Goals as goal

pub returns-then-not-even-clause-answered : goal.returns-then-not-even-clause-answered
returns-then-not-even-clause-answered c =
    let a = c.args in
    rw c.at.ensures (uneven a.devs.now a.offs.now a.lens.now a.stos.now a.sts.now (length a.d.now) (sym c.even.ensures ∙ c.if-not-even.true))

pub returns-then-offs-gt4096-clause-answered : goal.returns-then-offs-gt4096-clause-answered
returns-then-offs-gt4096-clause-answered c =
    let a = c.args in
    rw c.at-then-offs-gt4096.ensures (too_many a.devs.now a.offs.now a.lens.now a.stos.now a.sts.now (length a.d.now) (sym c.even.ensures ∙ c.if-not-even.false) (omega arith))

pub count-requires-clause-even : goal.count-requires-clause-even
count-requires-clause-even c =
    let a = c.args in
    even-said Scsi (columns_of a.devs.now a.offs.now a.lens.now a.stos.now a.sts.now) (sym c.even.ensures ∙ c.if-not-even.false)

pub returns-in_err-k-clause-answered : goal.returns-in_err-k-clause-answered
returns-in_err-k-clause-answered c =
    let a = c.args in
    let e : ◌≡◌ c.from_residual.result (Err c.in_err-k.field-0.0) = search rules in
    rw e (judged a.devs.now a.offs.now a.lens.now a.stos.now a.sts.now (length a.d.now) (sym c.even.ensures ∙ c.if-not-even.false) (omega arith) (verdict_of (Err c.in_err-k.field-0.0)) c.in_err-k.ensures)

pub returns-then-k-gt1024-clause-answered : goal.returns-then-k-gt1024-clause-answered
returns-then-k-gt1024-clause-answered c =
    let a = c.args in
    rw c.at-then-k-gt1024.ensures (too_long c.in_ok-k.k (length a.d.now) (omega arith)
    ∙ judged a.devs.now a.offs.now a.lens.now a.stos.now a.sts.now (length a.d.now) (sym c.even.ensures ∙ c.if-not-even.false) (omega arith) (Accepted c.in_ok-k.k) c.in_ok-k.ensures)

pub returns-then-d-k-clause-answered : goal.returns-then-d-k-clause-answered
returns-then-d-k-clause-answered c =
    let a = c.args in
    rw c.at-then-d-k.ensures (no_room c.in_ok-k.k (length a.d.now) (omega arith) (omega arith)
    ∙ judged a.devs.now a.offs.now a.lens.now a.stos.now a.sts.now (length a.d.now) (sym c.even.ensures ∙ c.if-not-even.false) (omega arith) (Accepted c.in_ok-k.k) c.in_ok-k.ensures)

pub fill-requires-clause-sts_in_bounds : goal.fill-requires-clause-sts_in_bounds
fill-requires-clause-sts_in_bounds c =
    let a = c.args in
    let t = came-to (row_of a.devs.now a.offs.now a.lens.now a.stos.now a.sts.now) (length a.offs.now) c.in_ok-k.k (length (merged (column_list a.devs.now a.offs.now a.lens.now a.stos.now a.sts.now))) c.in_ok-k.ensures in
    omega arith

pub fill-requires-clause-even : goal.fill-requires-clause-even
fill-requires-clause-even c =
    let a = c.args in
    even-said Scsi (columns_of a.devs.now a.offs.now a.lens.now a.stos.now a.sts.now) (sym c.even.ensures ∙ c.if-not-even.false)

pub fill-requires-clause-sts_value : goal.fill-requires-clause-sts_value
fill-requires-clause-sts_value c =
    let a = c.args in
    (came-to (row_of a.devs.now a.offs.now a.lens.now a.stos.now a.sts.now) (length a.offs.now) c.in_ok-k.k (length (merged (column_list a.devs.now a.offs.now a.lens.now a.stos.now a.sts.now))) c.in_ok-k.ensures).1

pub returns-clause-answered : goal.returns-clause-answered
returns-clause-answered c =
    let a = c.args in
    room_for c.in_ok-k.k (length a.d.now) (omega arith) (omega arith)
    ∙ judged a.devs.now a.offs.now a.lens.now a.stos.now a.sts.now (length a.d.now) (sym c.even.ensures ∙ c.if-not-even.false) (omega arith) (Accepted c.in_ok-k.k) c.in_ok-k.ensures

pub returns-clause-stored : goal.returns-clause-stored
returns-clause-stored c =
    let a = c.args in
    let es = merged (column_list a.devs.now a.offs.now a.lens.now a.stos.now a.sts.now) in
    c.fill.ensures ∙ ap (λ l. sets l 4 (bytes_of es)) c.put32.ensures ∙ sets_then a.d.now 0 4 4 (be_bytes 4 c.in_ok-k.k) (bytes_of es) (length-bytes 4 c.in_ok-k.k) refl
