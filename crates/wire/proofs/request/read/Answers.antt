-- Rests on the equality of the code's tests with the definition of steps 1 to 3.
use Rattle.std.proofs.Common.{sym, ap, ◌∙◌, arith}
use Rattle.std.proofs.lemmas.Result.{err_from_is_err_and}
use Rattle.wire.specs.RequestSteps.{form_as}
use Rattle.wire.proofs.Requests.{numbers-fit, read-malformed, read-refused, read-bulk, read-file}
use Rattle.wire.proofs.request.read.Goals as goal

pub returns-in_err-form : goal.returns-in_err-form
returns-in_err-form c =
    let p = err_from_is_err_and c.from_residual.result c.from_residual.ensures.1 in
    let e = c.in_err-form.ensures in
    rw (p.1, p.2) (read-malformed c.args.s.now _ c.laid_out.ensures e.ok_part _ e.value)

pub be32-requires : goal.be32-requires
be32-requires c = omega (arith, numbers-fit c.args.s.now _ (ap form_as (sym c.in_ok-form.ensures.ok_part) ∙ c.laid_out.ensures))

pub be32-requires-2 : goal.be32-requires-2
be32-requires-2 c = omega (arith, numbers-fit c.args.s.now _ (ap form_as (sym c.in_ok-form.ensures.ok_part) ∙ c.laid_out.ensures))

pub returns-in_err-supported : goal.returns-in_err-supported
returns-in_err-supported c =
    let p = err_from_is_err_and c.from_residual-in_err-supported.result c.from_residual-in_err-supported.ensures.1 in
    let laid = ap form_as (sym c.in_ok-form.ensures.ok_part) ∙ c.laid_out.ensures in
    rw (p.1, p.2) (read-refused c.args.s.now c.be32.ensures c.be32-2.ensures _ laid _ c.in_err-supported.ensures)

pub returns-in-Bulk : goal.returns-in-Bulk
returns-in-Bulk c =
    let laid = ap form_as (sym c.in_ok-form.ensures.ok_part) ∙ c.laid_out.ensures in
    read-bulk c.args.s.now c.be32.ensures c.be32-2.ensures (rw c.in-Bulk.is at laid) c.in_ok-supported.ensures

pub returns-in-File : goal.returns-in-File
returns-in-File c =
    let laid = ap form_as (sym c.in_ok-form.ensures.ok_part) ∙ c.laid_out.ensures in
    read-file c.args.s.now c.be32.ensures c.be32-2.ensures (rw c.in-File.is at laid) c.in_ok-supported.ensures (λ k. omega (arith, c.type_inv.s k)) c.in_request.ensures c.kind_of-kind.ensures
