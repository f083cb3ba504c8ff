-- By the number of the direction.
use Rattle.std.proofs.Common.{arith}
use Rattle.capi.proofs.Turns.{asked-highest, asked-lowest, asked-none}
use Rattle.capi.proofs.listing.asked.Goals as goal

pub returns-in-0 : goal.returns-in-0
returns-in-0 c = asked-highest _ (omega arith) (λ e. omega (arith, e))

pub returns-in-1 : goal.returns-in-1
returns-in-1 c = asked-lowest _ (omega arith)

pub returns-in-2 : goal.returns-in-2
returns-in-2 c = asked-highest _ (omega arith) (λ e. omega (arith, e))

pub returns-in-3-to-4294967295 : goal.returns-in-3-to-4294967295
returns-in-3-to-4294967295 c = asked-none _ (omega arith)
