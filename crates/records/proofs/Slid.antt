-- A loop that moves each element down over the one before it: so many turns, the next of which fills the place i; a turn at the place i - 1, and where no turn is left.
use Rattle.std.proofs.Common.{◌≡◌, ℕ, zero, suc, ◌+◌, ◌-◌, ◌<◌, ◌≤◌, List, length, get_or, set, ap, ◌∙◌, arith, length-set}

module _ {X : Type 0} (none : X) where
  abbrev pub slides : ℕ → ℕ → List X → List X
  slides zero i ys = ys
  slides (suc t) i ys = slides t (suc i) (set ys i (get_or ys (suc i) none))

  pub slides-turn : (ys : List X) (i : ℕ) → 1 ≤ i → i < length ys
      → slides (length ys - i) (i - 1) ys ≡ slides (length (set ys (i - 1) (get_or ys i none)) - (i + 1)) (i + 1 - 1) (set ys (i - 1) (get_or ys i none))
  slides-turn ys i h l =
      let t : length ys - i ≡ suc (length ys - (i + 1)) = omega (arith, l) in
      let n : suc (i - 1) ≡ i = omega (arith, h) in
      let m : i + 1 - 1 ≡ i = omega arith in
      rw (length-set, m)
      (ap (λ k. slides k (i - 1) ys) t ∙ ap (λ k. slides (length ys - (i + 1)) k (set ys (i - 1) (get_or ys k none))) n)

  pub slides-over : (ys : List X) (i : ℕ) → length ys ≤ i → slides (length ys - i) (i - 1) ys ≡ ys
  slides-over ys i h = let t : length ys - i ≡ 0 = omega (arith, h) in ap (λ k. slides k (i - 1) ys) t
