-- The sweep from byte 0. In this order: every begin and end is passed or to come; no piece and no bare byte lies before the first cut; how many cuts; the
-- next cut of several.
use Prim.Native.Nat.{ℕ, ◌+◌, ◌-◌, ◌*◌, ◌^◌, ◌<◌, ◌≤◌, min}
use mathlib.Core.Path.{◌≡◌, refl}
use mathlib.Core.List.{List, [], ◌∷◌}
use mathlib.Core.Logic.{inl, inr}
use mathlib.Core.Bool.{Bool, true, false, cond, not, ◌&&◌, ◌||◌, false≢true, true≢false}
use native.Mathlib.Omega.{arith}
use native.Mathlib.Decide.{dec_le}
use borrow.Author.Tests.{ltb-true, ltb-false}
use lib.Dec.{leb, ltb, eqb}
use lib.ListN.{length}
use Rattle.extents.specs.declared.Extent.{Extent}
use Rattle.extents.proofs.Sentences.{by_cases}
use Rattle.merging.specs.Meaning.{All}
use Rattle.committing.specs.Ranges.{Range}
use Rattle.committing.specs.Commit.{in_range, is_committed, lies, invalid_at, other_at, between, sweep_from, sweep, cut_at, range_cuts, all_cuts}
use Rattle.places.specs.Lists.{chosen}
use Rattle.merging.proofs.Rules.{all_map}
use Rattle.committing.proofs.Cuts.{Rising, Sorted, Cut, ExtentEnds, RangeEnds, all-cuts, Known, at-or-above, ends-map}
use Rattle.committing.proofs.Sweep.{At, test-said, none-chosen}
use Rattle.committing.specs.Bare.{bare_at, bare_from, bare_over}
use Rattle.committing.specs.Seek.{above}
use Rattle.committing.proofs.Next.{above-rising, rising-sorted}

-- ---- every begin and end is passed, or is to come
above-known : (x n : ℕ) (cuts : List ℕ) → Sorted cuts → Cut cuts n → Known x (above x cuts) n
unfolding above
above-known x n [] r h = elim h [ ]
above-known x n (c ∷ cuts) r h = by (ltb x c) refl h (above-known x n cuts (rising-sorted c cuts r))
  where
    by : (t : Bool) → ltb x c ≡ t → Cut (c ∷ cuts) n → (Cut cuts n → Known x (above x cuts) n) → Known x (cond t (c ∷ cuts) (above x cuts)) n
    by true q g ih = inr g
    by false q (inl g) ih = inl (omega (arith, ltb-false x c q))
    by false q (inr g) ih = ih g

above-sorted : (x : ℕ) (cuts : List ℕ) → Sorted cuts → Rising x (above x cuts)
unfolding above
above-sorted x [] r = tt
above-sorted x (c ∷ cuts) r = by (ltb x c) refl (above-sorted x cuts (rising-sorted c cuts r))
  where
    by : (t : Bool) → ltb x c ≡ t → Rising x (above x cuts) → Rising x (cond t (c ∷ cuts) (above x cuts))
    by true q ih = (ltb-true x c q, r)
    by false q ih = ih

pub at_above : (rs : List Range) (es : List Extent) (x : ℕ) → At rs es x (above x (all_cuts rs es))
at_above rs es x =
    let c = all-cuts rs es in
    let known : (n : ℕ) → Cut (all_cuts rs es) n → Known x (above x (all_cuts rs es)) n = λ n h. above-known x n (all_cuts rs es) c.0 h in
    record {
      rising = above-sorted x (all_cuts rs es) c.0;
      ranges = all_map (λ r k. ends-map known r.offset r.len k) rs c.1;
      extents = all_map (λ e k. ends-map known e.offset e.len k) es c.2;
    }

-- ---- before the first cut
none-committed : (x : ℕ) (rs : List Range) → All (λ r. in_range x r ≡ false) rs → is_committed rs x ≡ false
unfolding is_committed
none-committed x [] h = refl
none-committed x (r ∷ rs) h = rw h.0 (none-committed x rs h.1)

module _ (rs : List Range) (es : List Extent) where
  not_there : (a o l : ℕ) → 0 < a → a ≤ o → (leb o 0 && ltb 0 (o + l)) ≡ false
  not_there a o l h g = by_cases (leb o 0 && ltb 0 (o + l)) (λ t. absurd (omega (arith, (test-said o l 0 t).0)))

  module _ (a : ℕ) (cuts : List ℕ) (r : Rising a cuts) (kr : RangeEnds (Cut (a ∷ cuts)) rs) (ke : ExtentEnds (Cut (a ∷ cuts)) es) (pos : 0 < a) where
    low : (n : ℕ) → Cut (a ∷ cuts) n → a ≤ n
    low n (inl q) = omega arith
    low n (inr k) = at-or-above a n cuts r k

    no-range : is_committed rs 0 ≡ false
    no-range = none-committed 0 rs (all_map (λ q k. not_there a q.offset q.len pos (low q.offset k.0)) rs kr)

    and-false : (p q : Bool) → q ≡ false → (p && q) ≡ false
    and-false true q h = h
    and-false false q h = refl

    no_other : chosen (other_at 0) es ≡ []
    no_other = none-chosen (other_at 0) es (all_map (λ e k. and-false (not (eqb e.state 2)) (lies 0 e) (not_there a e.offset e.len pos (low e.offset k.0))) es ke)

    no-invalid : chosen (invalid_at 0) es ≡ []
    no-invalid = none-chosen (invalid_at 0) es (all_map (λ e k. and-false (eqb e.state 2) (lies 0 e) (not_there a e.offset e.len pos (low e.offset k.0))) es ke)

    nothing-before : (b : ℕ) → between rs es 0 b ≡ []
    unfolding between
    nothing-before b = rw (no-range, no_other, no-invalid)

    none_bare : bare_at rs es 0 ≡ false
    none_bare = rw no-range

  start-cuts : (cuts : List ℕ) → Sorted cuts → RangeEnds (Cut cuts) rs → ExtentEnds (Cut cuts) es → (sweep rs es cuts ≡ sweep_from rs es 0 (above 0 cuts)) × (bare_over rs es cuts ≡ bare_from rs es 0 (above 0 cuts))
  unfolding sweep sweep_from above bare_over bare_from
  start-cuts [] r kr ke = (refl, refl)
  start-cuts (a ∷ cuts) r kr ke = by (ltb 0 a) refl
    where
      by : (t : Bool) → ltb 0 a ≡ t → (sweep_from rs es a cuts ≡ sweep_from rs es 0 (cond t (a ∷ cuts) (above 0 cuts))) × (bare_from rs es a cuts ≡ bare_from rs es 0 (cond t (a ∷ cuts) (above 0 cuts)))
      by true q =
          let pos : 0 < a = ltb-true 0 a q in
          (rw (nothing-before a cuts r kr ke pos a), rw (none_bare a cuts r kr ke pos))
      by false q =
          let z : a ≡ 0 = omega (arith, ltb-false 0 a q) in
          let same : above 0 cuts ≡ cuts = above-rising 0 cuts (rw z at r) in
          (rw (same, z), rw (same, z))

  pub start : (sweep rs es (all_cuts rs es) ≡ sweep_from rs es 0 (above 0 (all_cuts rs es))) × (bare_over rs es (all_cuts rs es) ≡ bare_from rs es 0 (above 0 (all_cuts rs es)))
  start =
      let c = all-cuts rs es in
      start-cuts (all_cuts rs es) c.0 c.1 c.2

-- ---- how many cuts
cut-length : (n : ℕ) (cuts : List ℕ) → length (cut_at n cuts) ≤ length cuts + 1
unfolding cut_at
cut-length n [] = omega arith
cut-length n (c ∷ cuts) = by (ltb n c) (eqb n c) (cut-length n cuts)
  where
    by : (s t : Bool) → length (cut_at n cuts) ≤ length cuts + 1 → length (cond s (n ∷ c ∷ cuts) (cond t (c ∷ cuts) (c ∷ cut_at n cuts))) ≤ length (c ∷ cuts) + 1
    by true t ih = omega arith
    by false true ih = omega arith
    by false false ih = omega (arith, ih)

range_length : (rs : List Range) → length (range_cuts rs) ≤ 2 * length rs
unfolding range_cuts
range_length [] = omega arith
range_length (r ∷ rs) = omega (arith, range_length rs, cut-length (r.offset + r.len) (range_cuts rs), cut-length r.offset (cut_at (r.offset + r.len) (range_cuts rs)))

pub cuts-length : (rs : List Range) (es : List Extent) → length (all_cuts rs es) ≤ 2 * length rs + 2 * length es
unfolding all_cuts
cuts-length rs [] = omega (arith, range_length rs)
cuts-length rs (e ∷ es) = omega (arith, cuts-length rs es, cut-length (e.offset + e.len) (all_cuts rs es), cut-length e.offset (cut_at (e.offset + e.len) (all_cuts rs es)))

pub above-length : (x : ℕ) (cuts : List ℕ) → length (above x cuts) ≤ length cuts
unfolding above
above-length x [] = omega arith
above-length x (c ∷ cuts) = by (ltb x c) (above-length x cuts)
  where
    by : (t : Bool) → length (above x cuts) ≤ length cuts → length (cond t (c ∷ cuts) (above x cuts)) ≤ length (c ∷ cuts)
    by true ih = omega arith
    by false ih = omega (arith, ih)

-- ---- the next cut of several: where there is one it is a cut after x, else it is 2^64 - 1
pub record Cand (cuts : List ℕ) (x e : ℕ) (there : Bool) : Type 0 where
  pub is-there : there ≡ true → Cut cuts e × (x < e)
  pub most : e ≤ 2 ^ 64 - 1
  pub absent : there ≡ false → e ≡ 2 ^ 64 - 1

pub cand-min : (cuts : List ℕ) (x a b : ℕ) (s t : Bool) → Cand cuts x a s → Cand cuts x b t → Cand cuts x (min a b) (s || t)
cand-min cuts x a b s t h g = record { is-there = λ q. by (dec_le a b) s t q h g; most = omega (arith, h.most); absent = λ q. none s t q h g }
  where
    none : (s t : Bool) → (s || t) ≡ false → Cand cuts x a s → Cand cuts x b t → min a b ≡ 2 ^ 64 - 1
    none true t q h g = absurd (true≢false q)
    none false t q h g = omega (arith, h.absent refl, g.absent q)

    by : Dec (a ≤ b) → (s t : Bool) → (s || t) ≡ true → Cand cuts x a s → Cand cuts x b t → Cut cuts (min a b) × (x < min a b)
    by (yes l) true t q h g = let z : min a b ≡ a = omega arith in rw z (h.is-there refl)
    by (yes l) false t q h g =
        let u : a ≡ 2 ^ 64 - 1 = h.absent refl in
        let z : min a b ≡ b = omega (arith, g.most) in
        rw z (g.is-there q)
    by (no l) s true q h g = let z : min a b ≡ b = omega arith in rw z (g.is-there refl)
    by (no l) true false q h g = absurd (omega (arith, h.most, g.absent refl))
    by (no l) false false q h g = absurd (false≢true q)
