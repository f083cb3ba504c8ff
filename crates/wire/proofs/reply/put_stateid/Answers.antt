-- Rests on what the stores of a stateid leave in the buffer.
use Rattle.std.proofs.Common.{◌≡◌, sym, ap, ◌∙◌}
use lib.Seq.{sets}
use Rattle.wire.specs.Stateid.{no_stateid, stateid_bytes}
use Rattle.wire.proofs.Replies.{same_are, stateid-stored}
use Rattle.wire.proofs.reply.put_stateid.Goals as goal

pub returns-then-eq : goal.returns-then-eq
returns-then-eq c =
    let h = c.eq in
    let a = c.args in
    let none : no_stateid ≡ a.t = sym (same_are _ _ c.if-eq.ensures ∙ c.none.ensures) in
    cc (stateid-stored a.reply.now no_stateid ∙ ap (λ t. sets a.reply.now 8 (stateid_bytes t)) none)

pub returns : goal.returns
returns c =
    let a = c.args in
    cc (stateid-stored a.reply.now a.t)
