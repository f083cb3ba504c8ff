-- handle_at reads as many bytes as the kind that is matched gives a handle.
use mathlib.Core.Path.{sym, ap, ◌∙◌}
use lib.ListN.{drop}
use lib.Seq.{drop-drop}
use Rattle.xdr.specs.Be.{be_nat}
use Rattle.layouts.specs.Layout.{handle_size}
use Rattle.layouts.proofs.kinds.Kind.handle_at.Goals as goal

pub returns-in-Scsi : goal.returns-in-Scsi
unfolding handle_size be_nat
returns-in-Scsi c = let a = c.args in ap (λ k. be_nat (handle_size k) (drop 24 (drop a.at a.s.now))) (sym c.in-Scsi.is)

pub returns-in-Rdma : goal.returns-in-Rdma
unfolding handle_size
returns-in-Rdma c =
    let a = c.args in
    c.be32.ensures ∙ ap (be_nat 4) (sym (drop-drop 24 a.at a.s.now)) ∙ ap (λ k. be_nat (handle_size k) (drop 24 (drop a.at a.s.now))) (sym c.in-Rdma.is)
