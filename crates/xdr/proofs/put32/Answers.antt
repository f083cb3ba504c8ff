-- put32 meets its contract: the bytes that std stores are those of the definition.
use Rattle.std.proofs.Common.{◌∙◌}
use Rattle.xdr.proofs.Be.{stored, high_first, length-bytes}
use Rattle.xdr.proofs.put32.Goals as goal

pub returns : goal.returns
returns c =
    let a = c.args in
    stored 4 a.at a.d.now c.requires (c.copy_from_slice.ensures.after ∙ c.to_be_bytes.ensures ∙ high_first 4 a.x) (length-bytes 4 a.x)
