-- Where a sweep stands. In this order: the first that ends after x, and that there is one only; later x; what lies over x; the next edge.
use Prim.Native.Nat.{ℕ, zero, suc, ◌+◌, ◌-◌, ◌^◌, ◌<◌, ◌≤◌}
use mathlib.Core.Path.{◌≡◌, refl}
use mathlib.Core.Logic.{◌⊎◌, inl, inr}
use mathlib.Core.Bool.{Bool, true, false, cond, ◌&&◌}
use native.Mathlib.Omega.{arith}
use native.Mathlib.Decide.{dec_lt, ℕ_discrete}
use borrow.Author.Tests.{lt-ltb, le-ltb, ltb-true, ltb-false}
use lib.Dec.{ltb}
use Rattle.extents.proofs.Sentences.{and_both}
use Rattle.committing.specs.Seek.{Spread, Seeks, seek_from, seek_at, edge_of}

module _ (is : ℕ → Bool) (hi : ℕ → ℕ) (x : ℕ) where
  abbrev goes : ℕ → Bool
  goes a = is a && ltb x (hi a)

  -- ---- there is one
  seek-most : (m k : ℕ) → (k ≤ seek_from goes m k) × (seek_from goes m k ≤ k + m)
  unfolding seek_from
  seek-most zero k = (omega arith, omega arith)
  seek-most (suc m) k = by (goes k) (seek-most m (k + 1))
    where
      by : (t : Bool) → (k + 1 ≤ seek_from goes m (k + 1)) × (seek_from goes m (k + 1) ≤ k + 1 + m) → (k ≤ cond t k (seek_from goes m (k + 1))) × (cond t k (seek_from goes m (k + 1)) ≤ k + suc m)
      by true ih = (omega arith, omega arith)
      by false ih = (omega (arith, ih.0), omega (arith, ih.1))

  goes-not : (a : ℕ) → goes a ≡ false → is a ≡ true → hi a ≤ x
  goes-not a h q = ltb-false x (hi a) (rw q at h)

  seek-passed : (m k a : ℕ) → k ≤ a → a < seek_from goes m k → is a ≡ true → hi a ≤ x
  unfolding seek_from
  seek-passed zero k a l h q = absurd (omega arith)
  seek-passed (suc m) k a l h q = by (goes k) refl h (λ u v. seek-passed m (k + 1) a u v q)
    where
      by : (t : Bool) → goes k ≡ t → a < cond t k (seek_from goes m (k + 1)) → (k + 1 ≤ a → a < seek_from goes m (k + 1) → hi a ≤ x) → hi a ≤ x
      by true g r ih = absurd (omega arith)
      by false g r ih = at (ℕ_discrete k a)
        where
          at : Dec (k ≡ a) → hi a ≤ x
          at (yes e) = goes-not a (rw e at g) q
          at (no e) = ih (omega arith) r

  seek-here : (m k : ℕ) → seek_from goes m k < k + m → goes (seek_from goes m k) ≡ true
  unfolding seek_from
  seek-here zero k h = absurd (omega arith)
  seek-here (suc m) k h = by (goes k) refl h (λ r. seek-here m (k + 1) r)
    where
      by : (t : Bool) → goes k ≡ t → cond t k (seek_from goes m (k + 1)) < k + suc m → (seek_from goes m (k + 1) < k + 1 + m → goes (seek_from goes m (k + 1)) ≡ true) → goes (cond t k (seek_from goes m (k + 1))) ≡ true
      by true g r ih = g
      by false g r ih = ih (omega arith)

  pub seeks : (n : ℕ) → Seeks is hi n x (seek_at is hi n x)
  seeks n =
      record {
        most = omega (arith, (seek-most n 0).1);
        passed = λ a h q. seek-passed n 0 a (omega arith) h q;
        here = λ h.
            let (p, q) = and_both (is (seek_at is hi n x)) (ltb x (hi (seek_at is hi n x))) (seek-here n 0 (omega (arith, h))) in
            (p, ltb-true x (hi (seek_at is hi n x)) q);
      }

  -- ---- and one only
  pub seeks-one : (n p q : ℕ) → Seeks is hi n x p → Seeks is hi n x q → p ≡ q
  seeks-one n p q h g = by (ℕ_discrete p q) (dec_lt p q)
    where
      by : Dec (p ≡ q) → Dec (p < q) → p ≡ q
      by (yes e) d = e
      by (no e) (yes l) =
          let (s, t) = h.here (omega (arith, g.most)) in
          absurd (omega (arith, t, g.passed p l s))
      by (no e) (no l) =
          let less : q < p = omega arith in
          let (s, t) = g.here (omega (arith, h.most)) in
          absurd (omega (arith, t, h.passed q less s))

-- ---- what is passed stays passed
pub passed_later : (is : ℕ → Bool) (hi : ℕ → ℕ) (n x y p : ℕ) → x ≤ y → Seeks is hi n x p → (a : ℕ) → a < p → is a ≡ true → hi a ≤ y
passed_later is hi n x y p l s a h q = omega (arith, s.passed a h q)

pub passed-more : (is : ℕ → Bool) (hi : ℕ → ℕ) (y p : ℕ) → ((a : ℕ) → a < p → is a ≡ true → hi a ≤ y) → (is p ≡ true → hi p ≤ y) → (a : ℕ) → a < p + 1 → is a ≡ true → hi a ≤ y
passed-more is hi y p h g a l q = by (ℕ_discrete a p)
  where
    by : Dec (a ≡ p) → hi a ≤ y
    by (yes e) = rw e (g (rw e at q))
    by (no e) = h a (omega arith) q

-- ---- where it begins, or, if that is passed, where it ends
module _ (is : ℕ → Bool) (lo hi : ℕ → ℕ) (n x p : ℕ) (spread : Spread is lo hi n) (s : Seeks is hi n x p) where
  pub only_one : (a : ℕ) → a < n → is a ≡ true → lo a ≤ x → x < hi a → a ≡ p
  only_one a l q f g = by (ℕ_discrete a p) (dec_lt a p)
    where
      by : Dec (a ≡ p) → Dec (a < p) → a ≡ p
      by (yes e) d = e
      by (no e) (yes d) = absurd (omega (arith, s.passed a d q))
      by (no e) (no d) =
          let less : p < a = omega arith in
          let (t, u) = s.here (omega arith) in
          absurd (omega (arith, u, spread.ordered p a less l t q))

  abbrev edge : ℕ
  edge = edge_of n p x (lo p) (hi p)

  edge-two : p < n → ((edge ≡ lo p) × (x < lo p)) ⊎ ((edge ≡ hi p) × (lo p ≤ x))
  unfolding edge_of
  edge-two h = rw (lt-ltb p n h) (by (ltb x (lo p)) refl)
    where
      by : (t : Bool) → ltb x (lo p) ≡ t → ((cond t (lo p) (hi p) ≡ lo p) × (x < lo p)) ⊎ ((cond t (lo p) (hi p) ≡ hi p) × (lo p ≤ x))
      by true q = inl (refl, ltb-true x (lo p) q)
      by false q = inr (refl, ltb-false x (lo p) q)

  pub edge-above : p < n → x < edge
  edge-above h = by (edge-two h)
    where
      by : ((edge ≡ lo p) × (x < lo p)) ⊎ ((edge ≡ hi p) × (lo p ≤ x)) → x < edge
      by (inl (e, g)) = omega arith
      by (inr (e, g)) = omega (arith, (s.here h).1)

  pub edge-is : p < n → (edge ≡ lo p) ⊎ (edge ≡ hi p)
  edge-is h = by (edge-two h)
    where
      by : ((edge ≡ lo p) × (x < lo p)) ⊎ ((edge ≡ hi p) × (lo p ≤ x)) → (edge ≡ lo p) ⊎ (edge ≡ hi p)
      by (inl (e, g)) = inl e
      by (inr (e, g)) = inr e

  pub edge_none : n ≤ p → edge ≡ 2 ^ 64 - 1
  unfolding edge_of
  edge_none h = rw (le-ltb p n h)

  -- none begins or ends sooner
  pub edge-least : (a : ℕ) → a < n → is a ≡ true → (x < lo a → edge ≤ lo a) × (x < hi a → edge ≤ hi a)
  edge-least a l q = (λ h. low h, λ h. high h)
    where
      order : lo a < hi a
      order = spread.some a l q

      high : x < hi a → edge ≤ hi a
      high h = by (ℕ_discrete a p) (dec_lt a p)
        where
          by : Dec (a ≡ p) → Dec (a < p) → edge ≤ hi a
          by (no e) (yes g) = absurd (omega (arith, s.passed a g q))
          by (yes e) d = at (edge-two (omega arith))
            where
              at : ((edge ≡ lo p) × (x < lo p)) ⊎ ((edge ≡ hi p) × (lo p ≤ x)) → edge ≤ hi a
              at (inl (u, v)) = rw e (omega (arith, rw e at order))
              at (inr (u, v)) = rw e (omega arith)
          by (no e) (no g) =
              let less : p < a = omega arith in
              let (t, u) = s.here (omega arith) in
              let order-p = spread.some p (omega arith) t in
              at (edge-two (omega arith)) (spread.ordered p a less l t q) order-p
            where
              at : ((edge ≡ lo p) × (x < lo p)) ⊎ ((edge ≡ hi p) × (lo p ≤ x)) → hi p ≤ lo a → lo p < hi p → edge ≤ hi a
              at (inl (u, v)) r w = omega (arith, order)
              at (inr (u, v)) r w = omega (arith, order)

      low : x < lo a → edge ≤ lo a
      low h = by (ℕ_discrete a p) (dec_lt a p)
        where
          by : Dec (a ≡ p) → Dec (a < p) → edge ≤ lo a
          by (no e) (yes g) = absurd (omega (arith, order, s.passed a g q))
          by (yes e) d = at (edge-two (omega arith))
            where
              at : ((edge ≡ lo p) × (x < lo p)) ⊎ ((edge ≡ hi p) × (lo p ≤ x)) → edge ≤ lo a
              at (inl (u, v)) = rw e (omega arith)
              at (inr (u, v)) = absurd (omega (arith, rw e at h))
          by (no e) (no g) =
              let less : p < a = omega arith in
              let (t, u) = s.here (omega arith) in
              at (edge-two (omega arith)) (spread.ordered p a less l t q) (spread.some p (omega arith) t)
            where
              at : ((edge ≡ lo p) × (x < lo p)) ⊎ ((edge ≡ hi p) × (lo p ≤ x)) → hi p ≤ lo a → lo p < hi p → edge ≤ lo a
              at (inl (u, v)) r w = omega arith
              at (inr (u, v)) r w = omega arith

  -- nothing is left
  pub all-passed : n ≤ p → (a : ℕ) → a < n → is a ≡ true → (lo a ≤ x) × (hi a ≤ x)
  all-passed h a l q =
      let r : hi a ≤ x = s.passed a (omega arith) q in
      (omega (arith, spread.some a l q), r)
