-- bytes: a part that is written anew is a run of stores.
use Rattle.std.proofs.Common.{length, refl}
use Rattle.xdr.proofs.Be.{stored}
use Rattle.listings.proofs.text.Text.bytes.Goals as goal

pub returns : goal.returns
returns c =
    let a = c.args in
    record { same = refl; put = record { ends = refl; holds = stored (length a.src.now) a.self.now.at a.self.now.d.now c.requires c.copy_from_slice.ensures.after refl } }
