-- put_accepted stores the head and then the lines.
use Rattle.listings.specs.Text.{accepted_text}
use Rattle.listings.proofs.Texts.{long, and_then, number-ends}
use native.Mathlib.Omega.{arith}
use Rattle.std.proofs.Common.{rules}
use Rattle.listings.proofs.text.put_accepted.Goals as goal

pub lines-requires : goal.lines-requires
lines-requires c =
    let p = c.bytes.ensures in
    let q = c.number.ensures in
    (omega (arith, p.put.ends, long p, number-ends c.args.n 10 q.put, long q), c.requires.1)

pub returns : goal.returns
unfolding accepted_text
returns c =
    let p = and_then c.bytes.ensures (and_then c.number.ensures c.lines.ensures) in
    search (rules, p.put, p.same)
