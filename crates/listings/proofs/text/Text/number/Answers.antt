-- number stores the digits and then the byte after them.
use Rattle.listings.specs.Text.{number_text}
use Rattle.listings.proofs.Texts.{long, and_then, length_digits}
use native.Mathlib.Omega.{arith}
use Rattle.listings.proofs.text.Text.number.Goals as goal

pub byte-requires : goal.byte-requires
byte-requires c =
    let p = c.decimal.ensures in
    omega (arith, p.put.ends, long p, length_digits 20 c.args.x)

pub returns : goal.returns
unfolding number_text
returns c = and_then c.decimal.ensures c.byte.ensures
