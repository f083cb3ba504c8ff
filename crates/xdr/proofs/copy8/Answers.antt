-- copy8 meets its contract: a part that is written anew is a run of stores.
use Rattle.std.proofs.Common.{◌≡◌, ◌∙◌, ◌+◌, ◌-◌, ap, arith, take, drop, length-drop}
use lib.Seq.{length-take-le}
use Rattle.xdr.proofs.Be.{stored}
use Rattle.xdr.proofs.copy8.Goals as goal

pub returns : goal.returns
returns c =
    let a = c.args in
    let eight : a.from + 8 - a.from ≡ 8 = omega arith in
    stored 8 a.at a.d.now c.requires.0 (c.copy_from_slice.ensures.after ∙ ap (λ k. take k (drop a.from a.src.now)) eight) (length-take-le 8 (drop a.from a.src.now) (rw length-drop (omega arith)))
