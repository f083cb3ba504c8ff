-- be64 meets its contract by the law that two halves make the number.
use native.Mathlib.Omega.{arith}
use Rattle.xdr.proofs.Be.{eight-at}
use Rattle.xdr.proofs.be64.Goals as goal

pub returns : goal.returns
returns c =
    let a = c.args in
    omega (arith, eight-at a.s.now a.at)
