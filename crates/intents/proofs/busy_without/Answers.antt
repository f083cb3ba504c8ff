-- The first place afterwards is the second, where the first has gone.
use Rattle.std.proofs.Common.{rules, ◌≡◌, refl, ℕ, List, [], ◌∷◌, get_or, length}
use native.Mathlib.Omega.{arith}
use Rattle.places.specs.Places.{left_out, pull}
use Rattle.places.proofs.Loops.{mapped-length}
use Rattle.intents.specs.Intents.{no_intent, first_taken}
use Rattle.intents.specs.declared.Intent.{Intent}
use Rattle.intents.proofs.busy_without.Goals as goal

first-left : (at : ℕ) (xs : List Intent) → length xs ≡ 8 → at ≡ 0 → (get_or xs 1 no_intent).taken ≡ first_taken (left_out no_intent at xs)
unfolding pull
first-left at [] e q = absurd (omega (arith, e))
first-left at (x ∷ []) e q = absurd (omega (arith, e))
first-left at (x ∷ y ∷ zs) e q = rw q refl

pub returns-then-at-eq0 : goal.returns-then-at-eq0
returns-then-at-eq0 c = first-left c.args.at c.args.intents (search (mapped-length, rules)) c.if-at-eq0.true
