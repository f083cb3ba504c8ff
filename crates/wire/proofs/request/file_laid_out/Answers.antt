-- Rests on the laws of step 1 for return type 1.
use Rattle.std.proofs.Common.{◌∙◌, ap, arith}
use Rattle.wire.specs.RequestSteps.{file_as}
use Rattle.wire.proofs.Requests.{file-answered}
use Rattle.wire.proofs.request.file_laid_out.Goals as goal

pub returns : goal.returns
returns c =
    let s = c.args.s.now in
    let rest = c.in_ok-padding.ensures.lookup in
    ap file_as c.then_some.ensures ∙ file-answered s (omega arith) c.be32-len.ensures (omega arith) rest.0.0 c.pad.ensures rest.0.2 c.eq.ensures
