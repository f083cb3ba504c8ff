-- decimal meets its contract by the law of the last digit.
use Rattle.listings.proofs.Texts.{long, and_then, said_so, one-digit, last-digit, length_front}
use native.Mathlib.Omega.{arith}
use mathlib.Core.Path.{sym}
use Rattle.listings.proofs.text.Text.+decimal.Goals as goal

pub byte-requires-else-x-lt10 : goal.byte-requires-else-x-lt10
byte-requires-else-x-lt10 t c =
    let p = c.decimal.ensures in
    omega (arith, p.put.ends, long p, length_front c.args.x (omega arith))

pub returns-then-x-lt10 : goal.returns-then-x-lt10
returns-then-x-lt10 t c = said_so (sym (one-digit c.args.x (omega arith))) c.byte.ensures

pub returns-else-x-lt10 : goal.returns-else-x-lt10
returns-else-x-lt10 t c = said_so (sym (last-digit c.args.x (omega arith) (omega arith))) (and_then c.decimal.ensures c.byte-else-x-lt10.ensures)
