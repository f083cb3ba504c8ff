-- check meets its contract by the laws of a body's verdict.
use mathlib.Core.Path.{sym, ◌∙◌}
use native.Mathlib.Omega.{arith}
use Rattle.layouts.specs.Layout.{row_at}
use Rattle.layouts.proofs.Sizes.{size_fits}
use Rattle.layouts.proofs.Bodies.{by-places, too_short, too_many, wrong-length, right-length}
use Rattle.layouts.proofs.layout.check.Goals as goal

pub returns-then-s-lt4 : goal.returns-then-s-lt4
returns-then-s-lt4 c = let a = c.args in rw c.at.ensures (too_short a.kind a.s.now (omega arith))

pub returns-then-n-gt1024 : goal.returns-then-n-gt1024
returns-then-n-gt1024 c = let a = c.args in rw c.at-then-n-gt1024.ensures (too_many a.kind a.s.now c.be32-n.result c.be32-n.ensures (omega arith) (omega arith))

pub body_size-requires : goal.body_size-requires
body_size-requires c = size_fits c.args.kind c.be32-n.result (omega arith)

pub returns-then-s-body_size : goal.returns-then-s-body_size
returns-then-s-body_size c =
    let a = c.args in
    let n = c.be32-n in
    rw c.at-then-s-body_size.ensures (wrong-length a.kind a.s.now n.result n.ensures (omega arith) (omega arith) (λ e. c.if-s-body_size.true (e ∙ sym c.body_size.ensures)))

pub returns : goal.returns
returns c =
    let a = c.args in
    let n = c.be32-n in
    c.scan.ensures ∙ by-places (row_at a.kind a.s.now) n.result
    ∙ right-length a.kind a.s.now n.result n.ensures (omega arith) (omega arith) (c.if-s-body_size.false ∙ c.body_size.ensures)
