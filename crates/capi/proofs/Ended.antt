-- An intent that ends where the intents lie: what is done is `left_out`, as crate files has it.
use Rattle.std.proofs.Common.{◌≡◌, ℕ, suc, ◌+◌, ◌-◌, ◌<◌, ◌≤◌, List, [], ◌∷◌, ◌++◌, length, get_or, take, drop, set, sym, refl, ap, ◌∙◌, append-nil, arith, length-drop, drop_of_length-le, take_all, drop-cons}
use Rattle.std.specs.List.{copy_within}
use Rattle.records.proofs.Moved.{moved}
use Rattle.places.specs.Places.{pull, left_out}

module _ {A : Type 0} (e : A) where
  pulled-out : (x : A) (ys : List A) → pull e (x ∷ ys) ≡ ys ++ e ∷ []
  unfolding pull
  pulled-out x [] = refl
  pulled-out x (y ∷ ys) = ap (◌∷◌ y) (pulled-out y ys)

  -- all that follow moved, and the last place freed, of eight
  pub ended_so : (xs : List A) (at n : ℕ) → length xs ≡ 8 → n ≡ 8 → at < 8 → set (copy_within xs (at + 1) n at) 7 e ≡ left_out e at xs
  ended_so xs at n long all l =
      let end : at + 1 + (7 - at) ≡ n = omega (arith, l, all) in
      let last : at + (7 - at) ≡ 7 = omega (arith, l) in
      let left : length (drop (at + 1) xs) ≡ 7 - at = length-drop (at + 1) xs ∙ omega (arith, long, l) in
      let next : suc at ≡ at + 1 = omega arith in
      let here : drop at xs ≡ get_or xs at e ∷ drop (at + 1) xs = drop-cons xs at e (omega (arith, l, long)) ∙ ap (λ k. get_or xs at e ∷ drop k xs) next in
      ap (λ k. set (copy_within xs (at + 1) k at) 7 e) (sym end) ∙ ap (λ k. set (copy_within xs (at + 1) (at + 1 + (7 - at)) at) k e) (sym last)
      ∙ moved e e xs at (7 - at) (omega (arith, long, l))
      ∙ ap (λ zs. take at xs ++ zs) (rw (take_all (7 - at) (drop (at + 1) xs) (omega (arith, left)), drop_of_length-le (drop (at + 1) xs) {i = 7 - at} (omega (arith, left))) (sym (ap (pull e) here ∙ pulled-out (get_or xs at e) (drop (at + 1) xs))))

  -- past the last place nothing ends
  pub none_ends : (xs : List A) (at : ℕ) → length xs ≡ 8 → 8 ≤ at → xs ≡ left_out e at xs
  unfolding pull
  none_ends xs at long h =
      let k : length xs ≤ at = omega (arith, long, h) in
      sym (rw (take_all at xs k, drop_of_length-le xs k, append-nil) refl)
