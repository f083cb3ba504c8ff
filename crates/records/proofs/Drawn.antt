-- The elements from the place at up to the place i moved down by Slide, and the place i emptied, of a list of n: what the code makes where i is a place, and where it is none.
use Rattle.std.proofs.Common.{◌≡◌, ℕ, ◌+◌, ◌-◌, ◌<◌, ◌≤◌, ltb, List, ◌++◌, set, take, drop, sym, ap, ◌∙◌, lt-ltb, le-ltb}
use Rattle.records.proofs.Headed.{if-called}

module _ {X : Type 0} (n : ℕ) (empty : X) (Slide : List X → List X) where
  abbrev slid-in : List X → ℕ → ℕ → List X
  slid-in xs at k = take at xs ++ (Slide (take k (drop at xs)) ++ drop k (drop at xs))

  abbrev pub draws : List X → ℕ → ℕ → List X
  draws xs at i = if-called (ltb i n) (set (slid-in xs at (i + 1 - at)) i empty) xs

  module _ (xs : List X) (at i : ℕ) where
    pub drawn : (ys : List X) (x : X) → i < n → ys ≡ Slide (take (i + 1 - at) (drop at xs)) → x ≡ empty → set (take at xs ++ (ys ++ drop (i + 1 - at) (drop at xs))) i x ≡ draws xs at i
    drawn ys x l slid freed =
        ap (λ zs. set (take at xs ++ (zs ++ drop (i + 1 - at) (drop at xs))) i x) slid
        ∙ ap (set (slid-in xs at (i + 1 - at)) i) freed
        ∙ ap (λ b. if-called b (set (slid-in xs at (i + 1 - at)) i empty) xs) (sym (lt-ltb i n l))

    pub not-drawn : n ≤ i → xs ≡ draws xs at i
    not-drawn l = ap (λ b. if-called b (set (slid-in xs at (i + 1 - at)) i empty) xs) (sym (le-ltb i n l))
