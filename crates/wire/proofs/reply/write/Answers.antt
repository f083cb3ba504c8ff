-- The stateid of sixteen zero bytes.
use Rattle.std.proofs.Common.{◌∙◌}
use Rattle.wire.proofs.Replies.{none-bytes}
use Rattle.wire.proofs.reply.write.Goals as goal

pub returns : goal.returns
returns c = let w = c.write_with in (w.ensures.0, w.ensures.1 ∙ rw (c.none-t.ensures, none-bytes))
