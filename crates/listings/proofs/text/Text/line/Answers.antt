-- line stores the numbers of the extent, one after the other.
use native.Mathlib.Omega.{arith}
use Rattle.listings.specs.Text.{line_of}
use Rattle.listings.proofs.Texts.{long, and_then, number-ends}
use Rattle.listings.proofs.text.Text.line.Goals as goal

pub number-requires-2 : goal.number-requires-2
number-requires-2 c =
    let e = c.args.e in
    let p = c.number.ensures in
    omega (arith, number-ends e.offset 32 p.put, long p)

pub number-requires-3 : goal.number-requires-3
number-requires-3 c =
    let e = c.args.e in
    let p = c.number.ensures in
    let q = c.number-2.ensures in
    omega (arith, number-ends e.offset 32 p.put, long p, number-ends e.len 32 q.put, long q)

pub last-requires : goal.last-requires
last-requires c =
    let e = c.args.e in
    let p = c.number.ensures in
    let q = c.number-2.ensures in
    let r = c.number-3.ensures in
    omega (arith, number-ends e.offset 32 p.put, long p, number-ends e.len 32 q.put, long q, number-ends e.storage 32 r.put, long r)

pub returns : goal.returns
unfolding line_of
returns c =
    and_then c.number.ensures (and_then c.number-2.ensures (and_then c.number-3.ensures c.last.ensures))
