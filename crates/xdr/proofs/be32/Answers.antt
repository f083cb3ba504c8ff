-- be32 meets its contract by the law of the four bytes at a place.
use native.Mathlib.Omega.{arith}
use Rattle.xdr.proofs.Be.{four-at}
use Rattle.xdr.proofs.be32.Goals as goal

pub returns : goal.returns
returns c =
    let a = c.args in
    omega (arith, four-at a.s.now a.at, c.from_be_bytes.ensures)
