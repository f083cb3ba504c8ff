-- Rests on where the body of a request lies.
use Rattle.std.proofs.Common.{sym, ◌∙◌}
use Rattle.wire.proofs.Requests.{body_refused, body-bulk, body-part}
use Rattle.wire.proofs.body.body.Goals as goal

pub returns-in-Err : goal.returns-in-Err
returns-in-Err c = body_refused c.args.s.now (sym c.in-Err.ensures)

pub returns-in-Ok-Bulk : goal.returns-in-Ok-Bulk
returns-in-Ok-Bulk c = body-bulk c.args.s.now (sym (rw c.in-Ok-Bulk.field-0-is at c.in-Ok-Bulk.ensures))

pub returns-in-Ok-File : goal.returns-in-Ok-File
returns-in-Ok-File c =
    let asked = rw c.in-Ok-File.field-0-is at c.in-Ok-File.ensures in
    c.part.ensures ∙ body-part c.args.s.now (sym asked)
