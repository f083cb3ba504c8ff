-- What is handed to C is what the definition says: sums, and zeros after them, in a column of sums; and what a loop over the column stores there.
use Rattle.std.proofs.Common.{◌≡◌, ℕ, zero, suc, ◌≤◌, List, [], ◌∷◌, ◌++◌, length, get_or, take, drop, min, replicate, refl, sym, ap, ◌∙◌, arith}
use Rattle.std.proofs.lemmas.List.{length-replicate}
use Rattle.places.specs.Lists.{fill}
use Rattle.places.proofs.Loops.{map_at, Mapping, mapped_at}
use Rattle.capi.specs.Lent.{column_of}

-- xs in place of the first places of e, by the length of the shorter; and of as many places
filled : (n : ℕ) (xs e : List ℕ) → n ≡ min (length e) (length xs) → take n xs ++ drop n e ≡ fill xs e
unfolding fill
filled zero [] e h = refl
filled zero (x ∷ xs) [] h = refl
filled zero (x ∷ xs) (y ∷ e) h = absurd (omega (arith, h))
filled (suc n) [] e h = absurd (omega (arith, h))
filled (suc n) (x ∷ xs) [] h = absurd (omega (arith, h))
filled (suc n) (x ∷ xs) (y ∷ e) h = ap (λ (t : List ℕ). x ∷ t) (filled n xs e (omega (arith, h)))

filled-whole : (xs e : List ℕ) → length e ≡ length xs → xs ≡ fill xs e
unfolding fill
filled-whole [] [] h = refl
filled-whole [] (y ∷ e) h = absurd (omega (arith, h))
filled-whole (x ∷ xs) [] h = absurd (omega (arith, h))
filled-whole (x ∷ xs) (y ∷ e) h = ap (λ (t : List ℕ). x ∷ t) (filled-whole xs e (omega (arith, h)))

module _ (ns d : List ℕ) where
  pub column-parted : (n : ℕ) (e : List ℕ) → n ≡ min (length d) (length ns) → e ≡ replicate (length d) 0 → take n ns ++ drop n e ≡ column_of ns d
  unfolding column_of
  column-parted n e h z = rw z (filled n ns (replicate (length d) 0) (h ∙ ap (λ k. min k (length ns)) (sym (length-replicate (length d) 0))))

  pub column-whole : length d ≡ length ns → ns ≡ column_of ns d
  unfolding column_of
  column-whole h = filled-whole ns (replicate (length d) 0) (length-replicate (length d) 0 ∙ h)

-- the sum of a place, and what a loop that stores it at each place leaves
abbrev pub summed : List ℕ → ℕ → ℕ → ℕ
summed ns k x = get_or ns k 0

column-places : (ns d : List ℕ) → map_at (summed ns) d ≡ fill ns (replicate (length d) 0)
unfolding map_at fill
column-places [] [] = refl
column-places [] (x ∷ d) = ap (λ (t : List ℕ). 0 ∷ t) (column-places [] d)
column-places (n ∷ ns) [] = refl
column-places (n ∷ ns) (x ∷ d) = ap (λ (t : List ℕ). n ∷ t) (column-places ns d)

pub column-is : (ns d : List ℕ) {e : List ℕ} {i : ℕ} → Mapping (summed ns) d e i → length d ≤ i → e ≡ column_of ns d
unfolding column_of
column-is ns d s h = mapped_at s h ∙ column-places ns d
