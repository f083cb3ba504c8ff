-- put_device: a part that is written anew is a run of stores.
use Rattle.std.proofs.Common.{◌≡◌, ◌∙◌, ◌+◌, ◌-◌, ap, arith, take, drop}
use Rattle.xdr.proofs.Be.{stored}
use Rattle.layouts.proofs.Stores.{device-length}
use Rattle.layouts.proofs.fields.put_device.Goals as goal

pub returns : goal.returns
returns c =
    let a = c.args in
    let sixteen : a.from + 16 - a.from ≡ 16 = omega arith in
    stored 16 a.at a.d.now c.requires.0 (c.copy_from_slice.ensures.after ∙ ap (λ k. take k (drop a.from a.devices.now)) sixteen) (device-length a.devices.now a.from c.requires.1)
