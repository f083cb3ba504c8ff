-- The places from the index on decide where none before it was counted, by each test that says what `f` answers; no more are counted than were passed.
use Rattle.std.proofs.Common.{◌≡◌, ◌≤◌, Bool, true, cond, not, eqb, drop}
use Rattle.places.specs.Lists.{any}
use Rattle.intents.specs.declared.Intent.{Intent}
use Rattle.intents.proofs.passes.Given as goal

abbrev pub invariant-loop-i : goal.invariant-loop-i
invariant-loop-i g l =
    ((p : Intent → Bool) → ((x : Intent) (b : Bool) → goal.F-post g l.f x b → b ≡ p x) → cond (not (eqb l.n 0)) true (any p (drop l.i l.intents)) ≡ any p l.intents) × (l.n ≤ l.i)
