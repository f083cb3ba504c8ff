-- put_row stores the device and then the numbers.
use Rattle.std.proofs.Common.{rules, ◌≡◌, ◌+◌, ◌*◌, get_or, ap, ◌∙◌, arith}
use lib.Seq.{sets}
use Rattle.layouts.specs.Layout.{numbers_of, numbers_bytes}
use Rattle.layouts.specs.Columns.{lent, column_row}
use Rattle.layouts.proofs.Stores.{device-numbers, device-length}
use Rattle.layouts.proofs.columns.Columns.put_row.Goals as goal

pub returns : goal.returns
returns c =
    let a = c.args in
    let r = column_row (lent a.self) a.i in
    let h : c.unwrap_or-handle.result ≡ get_or a.self.handles.now a.i 0 = search rules in
    rw (c.numbers.ensures, h) at c.put_numbers.ensures
    ∙ ap (λ l. sets l (a.at + 16) (numbers_bytes a.kind (numbers_of r.extent) r.handle)) c.put_device.ensures
    ∙ device-numbers a.kind a.d.now a.at r (device-length a.self.devices.now (16 * a.i) (omega arith))
