-- fill stores one more extent at each turn, by the laws of sizes and stores.
use Rattle.std.proofs.Common.{rules, ◌≡◌, ◌<◌, ◌^◌, length, refl, ◌∙◌, arith}
use Rattle.extents.specs.Extents.{list_from}
use Rattle.layouts.specs.Layout.{rows_bytes}
use Rattle.layouts.specs.Columns.{lent, column_row}
use Rattle.layouts.proofs.Sizes.{inside}
use Rattle.layouts.proofs.Stores.{next_row, row-device}
use Rattle.layouts.proofs.columns.Columns.fill.Goals as goal

pub loop-i-init : goal.loop-i-init
unfolding list_from rows_bytes
loop-i-init c = (refl, refl)

pub body_size-requires : goal.body_size-requires
body_size-requires c =
    let a = c.args in
    let m = c.loop-i in
    let long : length a.d.now < 2 ^ 64 = search rules in
    omega (arith, c.requires.offsets_in_bounds, inside a.kind m.i (length a.self.offsets.now) c.loop-i-test.true, long)

pub put_row-requires-clause-kind_in_bounds : goal.put_row-requires-clause-kind_in_bounds
put_row-requires-clause-kind_in_bounds c =
    let a = c.args in
    let m = c.loop-i in
    (omega (arith, m.invariant.0, c.body_size.ensures, c.requires.offsets_in_bounds, inside a.kind m.i (length a.self.offsets.now) c.loop-i-test.true), c.loop-i-test.true)

pub loop-i-preserved : goal.loop-i-preserved
loop-i-preserved c =
    let a = c.args in
    let m = c.loop-i in
    let n = length a.self.offsets.now in (
      omega arith,
      c.put_row.ensures
          ∙ rw m.invariant.1 (next_row a.kind (column_row (lent a.self)) m.i n c.body_size.result c.body_size.ensures c.loop-i-test.true (row-device a.self.devices.now n c.requires.even.all-devices) a.d.now),
    )

pub returns : goal.returns
returns c =
    let n : c.loop-i.i ≡ length c.args.self.offsets.now = omega (arith, c.loop-i-test.false, c.loop-i.auto.i-end) in
    rw n at c.loop-i.invariant.1
