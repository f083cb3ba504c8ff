-- The next cut, by the three places of a sweep. In this order: where one interval begins or ends next; the least of three; that it is the next cut; no cut is left.
use Prim.Native.Nat.{ℕ, ◌-◌, ◌^◌, ◌<◌, ◌≤◌, min}
use mathlib.Core.Path.{◌≡◌, refl}
use mathlib.Core.List.{List, [], ◌∷◌}
use mathlib.Core.Logic.{◌⊎◌, inl, inr}
use mathlib.Core.Bool.{Bool, true, false, ◌||◌, true≢false}
use native.Mathlib.Omega.{arith}
use native.Mathlib.Decide.{dec_lt}
use borrow.Author.Tests.{ltb-true, ltb-false}
use lib.Dec.{ltb, eqb}
use Rattle.extents.specs.Extents.{list_from}
use Rattle.extents.specs.declared.Extent.{Extent}
use Rattle.merging.proofs.Rules.{Valid}
use Rattle.committing.specs.Ranges.{Range}
use Rattle.committing.specs.Commit.{all_cuts}
use Rattle.committing.specs.Seek.{Spread, Seeks, edge_of, above}
use Rattle.committing.proofs.Cuts.{Cut, Ends, ExtentEnds, all-cuts}
use Rattle.committing.proofs.Places.{all-at, at_all}
use Rattle.committing.proofs.Seek.{edge-above, edge-is, edge_none, edge-least, all-passed}
use Rattle.committing.proofs.Next.{each-cut, next-cut, no_cut}
use Rattle.committing.proofs.Start.{Cand, cand-min}
use Rattle.commits.specs.Spot.{range_begin, range_end, is_kind, always}
use Rattle.commits.proofs.Chosen.{st_of, lo_of, hi_of, sound-at, spread-kind}

-- ---- one interval
cand-at : (is : ℕ → Bool) (lo hi : ℕ → ℕ) (n x p : ℕ) (spread : Spread is lo hi n) (s : Seeks is hi n x p) (cuts : List ℕ)
    → (p < n → Cut cuts (lo p) × Cut cuts (hi p)) → (p < n → (lo p < 2 ^ 64) × (hi p < 2 ^ 64)) → Cand cuts x (edge_of n p x (lo p) (hi p)) (ltb p n)
cand-at is lo hi n x p spread s cuts ends top =
    record { is-there = λ q. there (ltb-true p n q); most = most (dec_lt p n); absent = λ q. edge_none is lo hi n x p spread s (ltb-false p n q) }
  where
    e : ℕ
    e = edge_of n p x (lo p) (hi p)

    there : p < n → Cut cuts e × (x < e)
    there l = (by (edge-is is lo hi n x p spread s l), edge-above is lo hi n x p spread s l)
      where
        by : (e ≡ lo p) ⊎ (e ≡ hi p) → Cut cuts e
        by (inl q) = rw q (ends l).0
        by (inr q) = rw q (ends l).1

    most : Dec (p < n) → e ≤ 2 ^ 64 - 1
    most (yes l) = by (edge-is is lo hi n x p spread s l)
      where
        by : (e ≡ lo p) ⊎ (e ≡ hi p) → e ≤ 2 ^ 64 - 1
        by (inl q) = omega (arith, (top l).0)
        by (inr q) = omega (arith, (top l).1)
    most (no l) = omega (arith, edge_none is lo hi n x p spread s (omega arith))

-- ---- the least of three
module _ (f : ℕ → Extent) (n : ℕ) (g : ℕ → Range) (m : ℕ) (valid : Valid (list_from f n 0)) (spread : Spread always (range_begin g) (range_end g) m) where
  abbrev es : List Extent
  es = list_from f n 0

  abbrev rs : List Range
  rs = list_from g m 0

  abbrev cuts : List ℕ
  cuts = all_cuts rs es

  module _ (top : (k : ℕ) → k < m → range_end g k < 2 ^ 64) (x i j k : ℕ) (hi : Seeks (is_kind (st_of f) false) (hi_of f) n x i) (hj : Seeks (is_kind (st_of f) true) (hi_of f) n x j) (hk : Seeks always (range_end g) m x k) where
    abbrev ei : ℕ
    ei = edge_of n i x (lo_of f i) (hi_of f i)

    abbrev ej : ℕ
    ej = edge_of n j x (lo_of f j) (hi_of f j)

    abbrev ek : ℕ
    ek = edge_of m k x (range_begin g k) (range_end g k)

    abbrev y : ℕ
    y = min ei (min ej ek)

    abbrev going : Bool
    going = ltb i n || (ltb j n || ltb k m)

    row-cand : (inv : Bool) (p : ℕ) → Seeks (is_kind (st_of f) inv) (hi_of f) n x p → Cand cuts x (edge_of n p x (lo_of f p) (hi_of f p)) (ltb p n)
    row-cand inv p s =
        cand-at (is_kind (st_of f) inv) (lo_of f) (hi_of f) n x p (spread-kind f n valid inv) s cuts
        (λ l. all-at (λ c. Ends (Cut cuts) c.offset c.len) f n 0 (all-cuts rs es).2 p (omega arith) (omega arith))
        (λ l. let t = (sound-at f n valid p l).in-file in (omega arith, t))

    range-cand : Cand cuts x ek (ltb k m)
    range-cand =
        cand-at always (range_begin g) (range_end g) m x k spread hk cuts
        (λ l. all-at (λ c. Ends (Cut cuts) c.offset c.len) g m 0 (all-cuts rs es).1 k (omega arith) (omega arith))
        (λ l. let t = top k l in (omega arith, t))

    pub cand : Cand cuts x y going
    cand = cand-min cuts x ei (min ej ek) (ltb i n) (ltb j n || ltb k m) (row-cand false i hi) (cand-min cuts x ej ek (ltb j n) (ltb k m) (row-cand true j hj) range-cand)

    -- a row is of one kind or the other
    row_ends : (P : ℕ → Type 0) → ((inv : Bool) (a : ℕ) → a < n → is_kind (st_of f) inv a ≡ true → Ends P (f a).offset (f a).len) → ExtentEnds P es
    row_ends P u = at_all (λ c. Ends P c.offset c.len) f n 0 (λ a l r. by a (omega arith) (eqb (f a).state 2) refl)
      where
        by : (a : ℕ) → a < n → (t : Bool) → eqb (f a).state 2 ≡ t → Ends P (f a).offset (f a).len
        by a l true q = u true a l (rw q)
        by a l false q = u false a l (rw q)

    least : (c : ℕ) → Cut cuts c → x < c → y ≤ c
    least =
        each-cut (λ c. x < c → y ≤ c) rs es
        (at_all (λ c. Ends (λ z. x < z → y ≤ z) c.offset c.len) g m 0 (λ a l r.
        let below : a < m = omega arith in
        let e = edge-least always (range_begin g) (range_end g) m x k spread hk a below refl in
        (λ h. omega (arith, e.0 h), λ h. omega (arith, e.1 h))))
        (row_ends (λ z. x < z → y ≤ z) (λ inv a l q. by inv a l q))
      where
        by : (inv : Bool) (a : ℕ) → a < n → is_kind (st_of f) inv a ≡ true → Ends (λ z. x < z → y ≤ z) (f a).offset (f a).len
        by false a l q = let e = edge-least (is_kind (st_of f) false) (lo_of f) (hi_of f) n x i (spread-kind f n valid false) hi a l q in (λ h. omega (arith, e.0 h), λ h. omega (arith, e.1 h))
        by true a l q = let e = edge-least (is_kind (st_of f) true) (lo_of f) (hi_of f) n x j (spread-kind f n valid true) hj a l q in (λ h. omega (arith, e.0 h), λ h. omega (arith, e.1 h))

    -- ---- it is the next cut
    pub goes_on : going ≡ true → (x < y) × (y < 2 ^ 64) × (above x cuts ≡ y ∷ above y cuts)
    goes_on q =
        let (c, l) = cand.is-there q in
        (l, omega (arith, cand.most), next-cut x y cuts (all-cuts rs es).0 c l least)

    -- ---- none is left
    pub ends-here : going ≡ false → above x cuts ≡ []
    ends-here q =
        no_cut x cuts
        (each-cut (λ c. c ≤ x) rs es
        (at_all (λ c. Ends (λ z. z ≤ x) c.offset c.len) g m 0 (λ a l r.
        let below : a < m = omega arith in
        all-passed always (range_begin g) (range_end g) m x k spread hk (ltb-false k m (third (ltb i n) (ltb j n) (ltb k m) q).2) a below refl))
        (row_ends (λ z. z ≤ x) (λ inv a l h. by inv a l h)))
      where
        third : (a b c : Bool) → (a || (b || c)) ≡ false → (a ≡ false) × (b ≡ false) × (c ≡ false)
        third true b c h = absurd (true≢false h)
        third false true c h = absurd (true≢false h)
        third false false c h = (refl, refl, h)

        by : (inv : Bool) (a : ℕ) → a < n → is_kind (st_of f) inv a ≡ true → Ends (λ z. z ≤ x) (f a).offset (f a).len
        by false a l h = all-passed (is_kind (st_of f) false) (lo_of f) (hi_of f) n x i (spread-kind f n valid false) hi (ltb-false i n (third (ltb i n) (ltb j n) (ltb k m) q).0) a l h
        by true a l h = all-passed (is_kind (st_of f) true) (lo_of f) (hi_of f) n x j (spread-kind f n valid true) hj (ltb-false j n (third (ltb i n) (ltb j n) (ltb k m) q).1) a l h
