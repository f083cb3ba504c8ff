-- put_numbers stores five numbers, one after the other.
use Rattle.std.proofs.Common.{◌+◌, ap, ◌∙◌}
use lib.Seq.{sets}
use Rattle.xdr.specs.Be.{be_bytes}
use Rattle.layouts.specs.Layout.{handle_size}
use Rattle.layouts.proofs.Stores.{five-numbers}
use Rattle.layouts.proofs.kinds.Kind.put_numbers.Goals as goal

pub returns : goal.returns
returns c =
    let a = c.args in
    let rest = a.at + c.handle_size.result in
    let handled = c.put_handle.ensures ∙ ap (λ l. sets l (a.at + 8) (be_bytes (handle_size a.self) a.handle)) c.put64.ensures in
    let sized = c.put64-2.ensures ∙ ap (λ l. sets l (rest + 8) (be_bytes 8 a.n.len)) handled in
    let stored = c.put64-3.ensures ∙ ap (λ l. sets l (rest + 16) (be_bytes 8 a.n.storage)) sized in
    c.put32.ensures ∙ ap (λ l. sets l (rest + 24) (be_bytes 4 a.n.state)) stored
    ∙ five-numbers a.self a.d.now a.at rest (ap (λ x. a.at + x) c.handle_size.ensures) a.n a.handle
