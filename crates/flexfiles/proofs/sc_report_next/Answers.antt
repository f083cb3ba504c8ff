-- By the cases of the first device error from a cursor on.
use mathlib.Core.Path.{ap, ◌∙◌}
use Rattle.std.specs.Prelude.{Ok}
use Rattle.flexfiles.specs.Handed.{answer_of}
use Rattle.flexfiles.proofs.Handed.{handed-is}
use Rattle.flexfiles.proofs.sc_report_next.Goals as goal

pub returns-in-Ok-Some : goal.returns-in-Ok-Some
returns-in-Ok-Some c =
    let a = c.args in
    handed-is a.body.now a.at.now a.records.now a.devices.now c.resumed.ensures c.first.ensures (ap answer_of (c.in-Ok-Some.is ∙ ap Ok c.in-Ok-Some.field-0-is))

pub returns-in-Ok-None : goal.returns-in-Ok-None
returns-in-Ok-None c =
    let a = c.args in
    handed-is a.body.now a.at.now a.records.now a.devices.now c.resumed.ensures c.first.ensures (ap answer_of (c.in-Ok-None.is ∙ ap Ok c.in-Ok-None.field-0-is))

pub returns-in-Err : goal.returns-in-Err
returns-in-Err c =
    let a = c.args in
    rw c.from.ensures (handed-is a.body.now a.at.now a.records.now a.devices.now c.resumed.ensures c.first.ensures (ap answer_of c.in-Err.is))
