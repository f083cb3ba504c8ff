-- Scan::pass: a refusal ends the walk; an extent that no rule refuses ends below 2^64.
use Prim.Native.Nat.{ℕ}
use mathlib.Core.Path.{ap, sym}
use Rattle.extents.specs.Extents.{answer}
use Rattle.extents.proofs.OnePass.{accepted-end}
use Rattle.extents.proofs.Scan.pass.Goals as goal

pub returns-clause-refused : goal.returns-clause-refused
returns-clause-refused c rest = ap (λ (k : ℕ). answer k c.args.place rest) c.in_default.ensures

pub overflow_add-e : goal.overflow_add-e
overflow_add-e c =
    let e = c.args.e in
    record { fits = accepted-end c.args.self.now e.offset e.len e.storage e.state (sym c.in_default.ensures) }
