-- last stores the columns of the kind that is matched.
use mathlib.Core.Path.{sym, ap}
use native.Mathlib.Omega.{arith}
use Rattle.listings.specs.Text.{last_of}
use Rattle.listings.proofs.Texts.{long, and_then, said_so, number-ends}
use Rattle.listings.proofs.text.Text.last.Goals as goal

pub number-requires-in-Rdma-2 : goal.number-requires-in-Rdma-2
number-requires-in-Rdma-2 c =
    let p = c.number-in-Rdma.ensures in
    omega (arith, number-ends c.args.state 32 p.put, long p)

pub returns-in-Scsi : goal.returns-in-Scsi
unfolding last_of
returns-in-Scsi c =
    let a = c.args in
    said_so (ap (λ k. last_of k a.state a.handle) (sym c.in-Scsi.is)) c.number.ensures

pub returns-in-Rdma : goal.returns-in-Rdma
unfolding last_of
returns-in-Rdma c =
    let a = c.args in
    said_so (ap (λ k. last_of k a.state a.handle) (sym c.in-Rdma.is)) (and_then c.number-in-Rdma.ensures c.number-in-Rdma-2.ensures)
