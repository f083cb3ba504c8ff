-- A map by place that blames where the place is in a set gives the mirrors with that blame; how far a place that is found is; and a set that a place was put into is not none.
use mathlib.Core.Path.{◌≡◌, refl, sym, ap, ◌∙◌}
use mathlib.Core.List.{List, [], ◌∷◌}
use mathlib.Core.Bool.{Bool, true, false, cond}
use Prim.Native.Nat.{ℕ, suc, ◌<◌, ◌≤◌}
use native.Mathlib.Omega.{arith}
use lib.ListN.{length}
use lib.Dec.{eqb}
use borrow.Author.Tests.{ne_eqb}
use Rattle.masks.specs.Mask as mask
use Rattle.masks.proofs.Laws.{has-zero, plus-node}
use Rattle.places.proofs.Sets.{true-false}
use Rattle.places.specs.Places.{bump, first, place_or}
use Rattle.places.proofs.Loops.{map_at, Mapping, mapped_at}
use Rattle.mirroring.specs.Mirrors.{blamed_if, blamed_by, blamed_at}
use Rattle.mirroring.specs.declared.mirrors.Mirror.{Mirror}
use Rattle.std.specs.Prelude.{Option, Some, None}

by_place : (p : ℕ → Bool) (ms : List Mirror) → map_at (λ k. blamed_if (p k)) ms ≡ blamed_by p ms
unfolding map_at blamed_by
by_place p [] = refl
by_place p (m ∷ ms) = ap {B = List Mirror} (λ t. blamed_if (p 0) m ∷ t) (by_place (λ k. p (suc k)) ms)

pub mapped-places : (s : ℕ) (l : List Mirror) {m : List Mirror} {i : ℕ} → Mapping (λ k. blamed_if (mask.has s k)) l m i → length l ≤ i → m ≡ blamed_at s l
mapped-places s l w h = mapped_at w h ∙ by_place (λ k. mask.has s k) l

-- ---- a place that is found
bumped : (b : Bool) (o : Option ℕ) (n : ℕ) → place_or 0 o ≤ n → place_or 0 (cond b (Some 0) (bump o)) ≤ suc n
bumped true o n h = omega arith
bumped false (Some i) n h = omega arith
bumped false None n h = omega arith

at_most : {A : Type 0} (p : A → Bool) (xs : List A) → place_or 0 (first p xs) ≤ length xs
unfolding first
at_most p [] = omega arith
at_most p (x ∷ xs) = bumped (p x) (first p xs) (length xs) (at_most p xs)

pub found_within : {A : Type 0} (p : A → Bool) (xs : List A) (i : ℕ) → first p xs ≡ Some i → i ≤ length xs
found_within p xs i e = rw (ap (place_or 0) e) at (at_most p xs)

-- ---- a set with a place
pub some-place : (m i : ℕ) → i < 32 → eqb (mask.plus m i) 0 ≡ false
some-place m i h = ne_eqb (mask.plus m i) 0 (λ e. true-false (sym (plus-node m i h) ∙ ap (λ n. mask.has n i) e ∙ has-zero i))
