-- held divides by the size of the kind that is matched.
use mathlib.Core.Path.{sym, ap}
use Rattle.layouts.specs.Layout.{handle_size, held_in}
use Rattle.layouts.proofs.kinds.Kind.held.Goals as goal

pub returns-in-Scsi : goal.returns-in-Scsi
unfolding handle_size held_in
returns-in-Scsi c = rw c.saturating_sub-room.ensures (ap (λ k. held_in k c.args.s.now) (sym c.in-Scsi.is))

pub returns-in-Rdma : goal.returns-in-Rdma
unfolding handle_size held_in
returns-in-Rdma c = rw c.saturating_sub-room.ensures (ap (λ k. held_in k c.args.s.now) (sym c.in-Rdma.is))
