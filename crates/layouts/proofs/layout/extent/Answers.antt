-- extent meets its contract by the law of a place by the numbers of the check.
use Rattle.std.proofs.Common.{◌∙◌}
use Rattle.extents.specs.Verdict.{verdict_of}
use Rattle.layouts.proofs.Bodies.{by-numbers}
use Rattle.layouts.proofs.layout.extent.Goals as goal

pub returns : goal.returns
returns c =
    let a = c.args in
    c.extent_in.ensures ∙ by-numbers a.kind a.s.now a.i (verdict_of c.check.result) c.check.ensures
