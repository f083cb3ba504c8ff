-- put_extent stores a device id, or zeros for it, and then the numbers.
use Rattle.std.proofs.Common.{◌∙◌, ◌+◌, ap, refl, arith, take, drop, replicate, true, false}
use lib.Seq.{sets, length-sets}
use Rattle.xdr.proofs.Be.{stored}
use Rattle.layouts.specs.declared.kinds.Kind.TheVariants.{Scsi}
use Rattle.layouts.specs.Layout.{handle_size, numbers_of, numbers_bytes}
use Rattle.layouts.specs.Placing.{scsi, placed}
use Rattle.layouts.proofs.Stores.{device-numbers, device-length}
use Rattle.layouts.proofs.fields.put_extent.Goals as goal

pub put_numbers-requires : goal.put_numbers-requires
unfolding handle_size
put_numbers-requires c =
    let a = c.args in
    let z = stored 16 a.at a.d.now (omega (arith, c.requires.0)) c.copy_from_slice.ensures.after refl in
    rw z (omega (arith, c.requires.0, length-sets a.d.now a.at (replicate 16 0)))

pub put_numbers-requires-else-bare : goal.put_numbers-requires-else-bare
unfolding handle_size
put_numbers-requires-else-bare c =
    let a = c.args in
    rw c.put_device.ensures (omega (arith, c.requires.0, length-sets a.d.now a.at (take 16 (drop a.from a.devices.now))))

pub returns-then-bare : goal.returns-then-bare
returns-then-bare c =
    let a = c.args in
    let device = take 16 (drop a.from a.devices.now) in
    let e = placed device a.n true in
    let z = stored 16 a.at a.d.now (omega (arith, c.requires.0)) c.copy_from_slice.ensures.after refl in
    rw c.if-bare.true (c.put_numbers.ensures ∙ ap (λ l. sets l (a.at + 16) (numbers_bytes Scsi (numbers_of e) 0)) z ∙ device-numbers Scsi a.d.now a.at (scsi e) refl)

pub returns-else-bare : goal.returns-else-bare
returns-else-bare c =
    let a = c.args in
    let device = take 16 (drop a.from a.devices.now) in
    let e = placed device a.n false in
    rw c.if-bare.false (c.put_numbers-else-bare.ensures ∙ ap (λ l. sets l (a.at + 16) (numbers_bytes Scsi (numbers_of e) 0)) c.put_device.ensures ∙ device-numbers Scsi a.d.now a.at (scsi e) (device-length a.devices.now a.from c.requires.1))
