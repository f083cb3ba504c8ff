-- The loop maps: `Mapping` holds at its head, by each function that says what `f` gives.
use mathlib.Core.Path.{◌≡◌}
use Rattle.places.proofs.Loops.{Mapping}
use Rattle.places.proofs.each.Given as goal

abbrev pub invariant-loop-i : goal.invariant-loop-i
invariant-loop-i g l = (h : _ → _) → ((x y : _) → goal.F-post g l.f x y → y ≡ h x) → Mapping (λ k. h) l.fn.xs l.ys l.i
