-- The place that a search of the 64 files finds, or the last place.
use Rattle.std.proofs.Common.{◌≡◌, ℕ, ◌<◌, Bool, List, length, refl, ap, ◌∙◌, arith}
use Rattle.std.specs.Prelude.{Option, Some, None}
use Rattle.std.specs.Option.{unwrap_or}
use Rattle.places.specs.Places.{first, place_or}
use Rattle.places.proofs.Loops.{found_below}

as-place : (o : Option ℕ) → unwrap_or o 63 ≡ place_or 63 o
as-place (Some i) = refl
as-place None = refl

below : {A : Type 0} (p : A → Bool) (l : List A) → length l ≡ 64 → place_or 63 (first p l) < 64
below p l k = by (first p l) (λ i e. found_below p l i e)
  where
    by : (o : Option ℕ) → ((i : ℕ) → o ≡ Some i → i < length l) → place_or 63 o < 64
    by (Some i) h = omega (arith, k, h i refl)
    by None h = omega arith

pub found-or-last : {A : Type 0} (p : A → Bool) (l : List A) {o : Option ℕ} {n : ℕ} → length l ≡ 64 → o ≡ first p l → n ≡ unwrap_or o 63 → (n ≡ place_or 63 (first p l)) × (n < 64)
found-or-last p l {o} {n} k e u =
    let q : n ≡ place_or 63 (first p l) = u ∙ as-place o ∙ ap (place_or 63) e in
    (q, omega (arith, q, below p l k))
