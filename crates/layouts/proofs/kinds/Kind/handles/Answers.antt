-- handles is the count of the kind that is matched.
use mathlib.Core.Path.{sym, ap}
use Rattle.layouts.specs.Columns.{handle_count}
use Rattle.layouts.proofs.kinds.Kind.handles.Goals as goal

pub returns-in-Scsi : goal.returns-in-Scsi
unfolding handle_count
returns-in-Scsi c = ap (λ k. handle_count k c.args.n) (sym c.in-Scsi.is)

pub returns-in-Rdma : goal.returns-in-Rdma
unfolding handle_count
returns-in-Rdma c = ap (λ k. handle_count k c.args.n) (sym c.in-Rdma.is)
