-- Turns over a list of n, several times over: what is carried, and two lists that are written. What each turn keeps holds after all of them; a turn, and where no turn is left.
use Rattle.std.proofs.Common.{◌≡◌, ℕ, zero, suc, ◌+◌, ◌-◌, ◌%◌, ◌<◌, ◌≤◌, List, get_or, ap, subst, arith}

module _ {X : Type 0} (n : ℕ) (none : X) {C : Type 0} (Next : X → ℕ → C → List ℕ → List ℕ → C × List ℕ × List ℕ) (xs : List X) where
  abbrev pub next : ℕ → C × List ℕ × List ℕ → C × List ℕ × List ℕ
  next i z = Next (get_or xs (i % n) none) i z.0 z.1 z.2

  unfoldable pub goes : ℕ → ℕ → C × List ℕ × List ℕ → C × List ℕ × List ℕ
  goes zero i z = z
  goes (suc t) i z = goes t (i + 1) (next i z)

  pub kept : (P : ℕ → C × List ℕ × List ℕ → Type 0) (m t i : ℕ) (z : C × List ℕ × List ℕ) → i + t ≡ m → ((j : ℕ) (y : C × List ℕ × List ℕ) → j < m → P j y → P (j + 1) (next j y)) → P i z → P m (goes t i z)
  unfolding goes
  kept P m zero i z e step p = let q : i ≡ m = omega (arith, e) in subst (λ (j : ℕ). P j z) q p
  kept P m (suc t) i z e step p = kept P m t (i + 1) (next i z) (omega (arith, e)) step (step i z (omega (arith, e)) p)

  pub goes-turn : (m i : ℕ) (z : C × List ℕ × List ℕ) → i < m → goes (m - i) i z ≡ goes (m - (i + 1)) (i + 1) (next i z)
  unfolding goes
  goes-turn m i z l = let e : m - i ≡ suc (m - (i + 1)) = omega (arith, l) in ap (λ t. goes t i z) e

  pub goes-over : (m i : ℕ) (z : C × List ℕ × List ℕ) → m ≤ i → goes (m - i) i z ≡ z
  unfolding goes
  goes-over m i z l = let e : m - i ≡ 0 = omega (arith, l) in ap (λ t. goes t i z) e
