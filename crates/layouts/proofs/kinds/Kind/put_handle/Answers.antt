-- put_handle stores as many bytes as the kind that is matched gives a handle.
use Rattle.std.proofs.Common.{◌+◌, ◌≤◌, length, sym, ap, subst, ◌∙◌}
use lib.Seq.{sets}
use Rattle.xdr.specs.Be.{be_bytes}
use Rattle.layouts.specs.Layout.{handle_size}
use Rattle.layouts.proofs.kinds.Kind.put_handle.Goals as goal

pub put32-requires : goal.put32-requires
unfolding handle_size
put32-requires c = let a = c.args in subst (λ k. a.at + handle_size k ≤ length a.d.now) c.in-Rdma.is c.requires

pub returns-in-Scsi : goal.returns-in-Scsi
unfolding handle_size be_bytes
returns-in-Scsi c = let a = c.args in ap (λ k. sets a.d.now a.at (be_bytes (handle_size k) a.handle)) (sym c.in-Scsi.is)

pub returns-in-Rdma : goal.returns-in-Rdma
unfolding handle_size
returns-in-Rdma c = let a = c.args in c.put32.ensures ∙ ap (λ k. sets a.d.now a.at (be_bytes (handle_size k) a.handle)) (sym c.in-Rdma.is)
