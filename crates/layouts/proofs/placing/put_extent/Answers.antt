-- put_extent: nothing without a place or a row, else the bytes of the extent.
use Rattle.std.proofs.Common.{rules, ℕ, ◌*◌, ◌<◌, ◌^◌, length, ap, ◌∙◌, arith}
use lib.ListN.{take, drop}
use lib.Seq.{sets}
use Rattle.layouts.specs.declared.kinds.Kind.TheVariants.{Scsi}
use Rattle.layouts.specs.Layout.{row_bytes}
use Rattle.layouts.specs.Placing.{scsi, placed}
use Rattle.layouts.proofs.Sizes.{held-inside}
use Rattle.layouts.proofs.Placed.{no_place, no_row, extent-put}
use Rattle.layouts.proofs.placing.put_extent.Goals.{else-i-held-via-then-i-held+else-row-devices, else-i-held-via-else-i-held}
use Rattle.layouts.proofs.placing.put_extent.Goals as goal

pub body_size-requires : goal.body_size-requires
body_size-requires c =
    let a = c.args in
    let long : length a.d.now < 2 ^ 64 = search rules in
    omega (arith, long, held-inside Scsi a.d.now a.i (omega (arith, c.held.ensures, c.if-i-held.true)))

pub put_extent-requires : goal.put_extent-requires
put_extent-requires c =
    let a = c.args in
    (omega (arith, c.body_size.ensures, held-inside Scsi a.d.now a.i (omega (arith, c.held.ensures, c.if-i-held.true))), omega (arith, c.if-row-devices.true))

pub returns-then-row-devices : goal.returns-then-row-devices
returns-then-row-devices c =
    let a = c.args in
    c.put_extent.ensures
    ∙ ap (λ (at : ℕ). sets a.d.now at (row_bytes Scsi (scsi (placed (take 16 (drop (16 * a.row) a.devices.now)) a.n a.bare)))) c.body_size.ensures
    ∙ extent-put a.d.now a.i a.devices.now a.row a.n a.bare (omega (arith, c.held.ensures, c.if-i-held.true)) c.if-row-devices.true

pub returns-else-i-held : goal.returns-else-i-held
returns-else-i-held c =
    let a = c.args in
    elim c.else-i-held.branch [
      | else-i-held-via-then-i-held+else-row-devices w ↦ no_row a.d.now a.i a.devices.now a.row a.n a.bare (omega (arith, c.held.ensures, w.if-i-held.true)) w.if-row-devices.false
      | else-i-held-via-else-i-held w ↦ no_place a.d.now a.i a.devices.now a.row a.n a.bare (omega (arith, c.held.ensures, w.if-i-held.false))
    ]
