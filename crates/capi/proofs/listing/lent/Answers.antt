-- By whether the number is a direction.
use Rattle.std.proofs.Common.{◌∙◌}
use Rattle.std.specs.Prelude.{Ok, Err}
use Rattle.capi.proofs.Turns.{asked-so}
use Rattle.capi.proofs.listing.lent.Goals as goal

pub returns-in-Err : goal.returns-in-Err
returns-in-Err c = asked-so c.args.which c.args.direction c.args.r.now c.args.files.now c.args.sources.now (Err c.in-Err.status) c.in-Err.ensures

pub returns-in-Ok : goal.returns-in-Ok
returns-in-Ok c = c.list.ensures ∙ asked-so c.args.which c.args.direction c.args.r.now c.args.files.now c.args.sources.now (Ok c.in-Ok.end) c.in-Ok.ensures
