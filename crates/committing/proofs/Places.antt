-- Lists by their places (`list_from`). In this order: what holds of all, and of each place; of every pair; a valid list; how long; the next of those to come.
use Prim.Native.Nat.{ℕ, zero, suc, ◌+◌, ◌-◌, ◌<◌, ◌≤◌}
use mathlib.Core.Path.{◌≡◌, refl, ap}
use mathlib.Core.List.{[], ◌∷◌}
use native.Mathlib.Omega.{arith}
use native.Mathlib.Decide.{ℕ_discrete}
use lib.ListN.{length}
use Rattle.extents.specs.Extents.{list_from}
use Rattle.extents.specs.declared.Extent.{Extent}
use Rattle.merging.specs.Meaning.{All}
use Rattle.merging.proofs.Rules.{Valid, Before}
use Rattle.committing.specs.Ranges.{Range, AllPairs}

module _ {A : Type 0} where
  pub all-at : (P : A → Type 0) (f : ℕ → A) (n k : ℕ) → All P (list_from f n k) → (j : ℕ) → k ≤ j → j < k + n → P (f j)
  unfolding list_from
  all-at P f zero k h j l g = absurd (omega arith)
  all-at P f (suc n) k h j l g = by (ℕ_discrete k j) (λ u v. all-at P f n (k + 1) h.1 j u v)
    where
      by : Dec (k ≡ j) → (k + 1 ≤ j → j < k + 1 + n → P (f j)) → P (f j)
      by (yes q) ih = rw q at h.0
      by (no q) ih = ih (omega arith) (omega arith)

  pub at_all : (P : A → Type 0) (f : ℕ → A) (n k : ℕ) → ((j : ℕ) → k ≤ j → j < k + n → P (f j)) → All P (list_from f n k)
  unfolding list_from
  at_all P f zero k h = tt
  at_all P f (suc n) k h = (h k (omega arith) (omega arith), at_all P f n (k + 1) (λ j l g. h j (omega arith) (omega arith)))

  pub length_from : (f : ℕ → A) (n k : ℕ) → length (list_from f n k) ≡ n
  unfolding list_from
  length_from f zero k = refl
  length_from f (suc n) k = ap suc (length_from f n (k + 1))

  pub from_next : (f : ℕ → A) (n k : ℕ) → k < n → list_from f (n - k) k ≡ f k ∷ list_from f (n - (k + 1)) (k + 1)
  unfolding list_from
  from_next f n k h =
      let z : n - k ≡ suc (n - (k + 1)) = omega arith in
      rw z

  pub from-done : (f : ℕ → A) (n k : ℕ) → n ≤ k → list_from f (n - k) k ≡ []
  unfolding list_from
  from-done f n k h =
      let z : n - k ≡ 0 = omega arith in
      rw z

pub pair-at : (P : Range → Range → Type 0) (f : ℕ → Range) (n k : ℕ) → AllPairs P (list_from f n k) → (a b : ℕ) → k ≤ a → a < b → b < k + n → P (f a) (f b)
unfolding list_from
pair-at P f zero k v a b l h g = absurd (omega arith)
pair-at P f (suc n) k v a b l h g = by (ℕ_discrete k a) (λ u w. pair-at P f n (k + 1) v.1 a b u h w)
  where
    by : Dec (k ≡ a) → (k + 1 ≤ a → b < k + 1 + n → P (f a) (f b)) → P (f a) (f b)
    by (yes q) ih = rw q at (all-at (P (f k)) f n (k + 1) v.0 b (omega arith) (omega arith))
    by (no q) ih = ih (omega arith) (omega arith)

pub valid-at : (f : ℕ → Extent) (n k : ℕ) → Valid (list_from f n k) → (a b : ℕ) → k ≤ a → a < b → b < k + n → Before (f a) (f b)
unfolding list_from
valid-at f zero k v a b l h g = absurd (omega arith)
valid-at f (suc n) k v a b l h g = by (ℕ_discrete k a) (λ u w. valid-at f n (k + 1) v.2 a b u h w)
  where
    by : Dec (k ≡ a) → (k + 1 ≤ a → b < k + 1 + n → Before (f a) (f b)) → Before (f a) (f b)
    by (yes q) ih = rw q at (all-at (Before (f k)) f n (k + 1) v.1 b (omega arith) (omega arith))
    by (no q) ih = ih (omega arith) (omega arith)
