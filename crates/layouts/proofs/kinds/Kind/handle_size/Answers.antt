-- handle_size is the size of the kind that is matched.
use mathlib.Core.Path.{sym, ap}
use Rattle.layouts.specs.Layout.{handle_size}
use Rattle.layouts.proofs.kinds.Kind.handle_size.Goals as goal

pub returns-in-Scsi : goal.returns-in-Scsi
unfolding handle_size
returns-in-Scsi c = ap handle_size (sym c.in-Scsi.is)

pub returns-in-Rdma : goal.returns-in-Rdma
unfolding handle_size
returns-in-Rdma c = ap handle_size (sym c.in-Rdma.is)
