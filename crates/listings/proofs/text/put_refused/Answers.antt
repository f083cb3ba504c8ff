-- put_refused stores its four parts, one after the other.
use Rattle.listings.specs.Text.{refused_text}
use Rattle.listings.proofs.Texts.{long, and_then, number-ends}
use native.Mathlib.Omega.{arith}
use Rattle.std.proofs.Common.{rules}
use Rattle.listings.proofs.text.put_refused.Goals as goal

pub bytes-requires-2 : goal.bytes-requires-2
bytes-requires-2 c =
    let p = c.bytes.ensures in
    let q = c.number.ensures in
    omega (arith, p.put.ends, long p, number-ends _ 32 q.put, long q)

pub number-requires-2 : goal.number-requires-2
number-requires-2 c =
    let p = c.bytes.ensures in
    let q = c.number.ensures in
    let r = c.bytes-2.ensures in
    omega (arith, p.put.ends, long p, number-ends _ 32 q.put, long q, r.put.ends, long r)

pub returns : goal.returns
unfolding refused_text
returns c =
    let p = and_then c.bytes.ensures (and_then (rw c.from-rule.ensures at c.number.ensures) (and_then c.bytes-2.ensures c.number-2.ensures)) in
    search (rules, p.put, p.same)
