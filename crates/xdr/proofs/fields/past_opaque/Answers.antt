-- Rests on the laws of an opaque field.
use Rattle.xdr.proofs.Opaques.{opaque-short, opaque-large, opaque-cut, opaque-past, opaque-unpadded}
use Rattle.std.proofs.Common.{◌∙◌}
use native.Mathlib.Omega.{arith}
use Rattle.xdr.proofs.fields.past_opaque.Goals as goal

pub returns-then-room-lt4 : goal.returns-then-room-lt4
returns-then-room-lt4 c =
    let a = c.args in
    opaque-short a.s.now a.at a.limit (omega arith)

pub returns-then-limit-n : goal.returns-then-limit-n
returns-then-limit-n c =
    let a = c.args in
    opaque-large a.s.now a.at a.limit (omega arith) c.be32-n.ensures (omega arith)

pub returns-then-room-n : goal.returns-then-room-n
returns-then-room-n c =
    let a = c.args in
    opaque-cut a.s.now a.at a.limit (omega arith) c.be32-n.ensures (omega arith) c.pad-p.ensures (omega arith)

pub returns : goal.returns
returns c =
    let a = c.args in
    opaque-past a.s.now a.at a.limit (omega arith) c.be32-n.ensures (omega arith) c.pad-p.ensures (omega arith) c.same.ensures c.if-not-same.false

pub returns-then-not-same : goal.returns-then-not-same
returns-then-not-same c =
    let a = c.args in
    opaque-unpadded a.s.now a.at a.limit (omega arith) c.be32-n.ensures (omega arith) c.pad-p.ensures (omega arith) c.same.ensures c.if-not-same.true
