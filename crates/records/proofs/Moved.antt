-- The k elements after the place at moved down over it, as `copy_within` does, and the place that the last of them leaves emptied.
use Rattle.std.proofs.Common.{◌≡◌, ℕ, suc, ◌+◌, ◌-◌, ◌≤◌, List, ◌∷◌, ◌++◌, length, get_or, set, take, drop, sym, ap, ◌∙◌, arith, append_assoc, drop-cons, length-append, length-drop, length-take-le}
use Rattle.std.specs.List.{copy_within}
use Rattle.std.proofs.lemmas.List.{drop-drop}
use lib.Seq.{set_at}

module _ {X : Type 0} (e d : X) (xs : List X) (at k : ℕ) (long : at + 1 + k ≤ length xs) where
  abbrev after : List X
  after = drop (at + 1) xs

  pub moved : set (copy_within xs (at + 1) (at + 1 + k) at) (at + k) e ≡ take at xs ++ (take k after ++ e ∷ drop k after)
  moved =
      let few : at + 1 + k - (at + 1) ≡ k = omega arith in
      let left : length after ≡ length xs - (at + 1) = length-drop (at + 1) xs in
      let front : length (take at xs ++ take k after) ≡ at + k =
      length-append (take at xs) (take k after) ∙ omega (arith, length-take-le at xs (omega (arith, long)), length-take-le k after (omega (arith, long, left))) in
      let next : suc (at + k) ≡ at + 1 + k = omega arith in
      rw (few, drop-cons xs (at + k) d (omega (arith, long)))
      (set_at (take at xs ++ take k after) (get_or xs (at + k) d) (drop (suc (at + k)) xs) e (at + k) front
      ∙ append_assoc (take at xs) (take k after) (e ∷ drop (suc (at + k)) xs)
      ∙ ap (λ zs. take at xs ++ (take k after ++ e ∷ zs)) (ap (λ n. drop n xs) next ∙ sym (drop-drop k (at + 1) xs)))
