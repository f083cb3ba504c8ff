-- The cuts of a sweep. In this order: rising cuts; one more cut; every begin and end is a cut; what lies between two cuts in a row.
use Prim.Native.Nat.{ℕ, ◌+◌, ◌<◌, ◌≤◌}
use mathlib.Core.Path.{◌≡◌, refl, sym}
use mathlib.Core.List.{List, [], ◌∷◌}
use mathlib.Core.Logic.{◌⊎◌, inl, inr}
use mathlib.Core.Bool.{Bool, true, false, cond}
use native.Mathlib.Omega.{arith}
use borrow.Author.Tests.{ltb-true, ltb-false, eqb-true, eqb-false}
use lib.Dec.{ltb, eqb}
use Rattle.extents.specs.declared.Extent.{Extent}
use Rattle.merging.specs.Meaning.{Some, All}
use Rattle.committing.specs.Ranges.{Range}
use Rattle.committing.specs.Commit.{cut_at, range_cuts, all_cuts}
use Rattle.merging.proofs.Rules.{all_map}

-- ---- rising cuts, all above a; n is one of them
abbrev pub Rising : ℕ → List ℕ → Type 0
Rising a [] = Unit {0}
Rising a (b ∷ cuts) = (a < b) × Rising b cuts

abbrev pub Cut : List ℕ → ℕ → Type 0
Cut cuts n = Some (λ c. c ≡ n) cuts

abbrev pub Sorted : List ℕ → Type 0
Sorted [] = Unit {0}
Sorted (a ∷ cuts) = Rising a cuts

-- ---- one more
rising-cut : (a n : ℕ) (cuts : List ℕ) → a < n → Rising a cuts → Rising a (cut_at n cuts)
unfolding cut_at
rising-cut a n [] h r = (h, tt)
rising-cut a n (c ∷ cuts) h r = by (ltb n c) refl (eqb n c) refl (λ g. rising-cut c n cuts g r.1)
  where
    by : (s : Bool) → ltb n c ≡ s → (t : Bool) → eqb n c ≡ t → (c < n → Rising c (cut_at n cuts)) → Rising a (cond s (n ∷ c ∷ cuts) (cond t (c ∷ cuts) (c ∷ cut_at n cuts)))
    by true p t q ih = (h, (ltb-true n c p, r.1))
    by false p true q ih = r
    by false p false q ih =
        let le : c ≤ n = ltb-false n c p in
        let ne : n ≡ c → ⊥ = eqb-false n c q in
        (r.0, ih (omega arith))

sorted-cut : (n : ℕ) (cuts : List ℕ) → Sorted cuts → Sorted (cut_at n cuts)
unfolding cut_at
sorted-cut n [] r = tt
sorted-cut n (c ∷ cuts) r = by (ltb n c) refl (eqb n c) refl
  where
    by : (s : Bool) → ltb n c ≡ s → (t : Bool) → eqb n c ≡ t → Sorted (cond s (n ∷ c ∷ cuts) (cond t (c ∷ cuts) (c ∷ cut_at n cuts)))
    by true p t q = (ltb-true n c p, r)
    by false p true q = r
    by false p false q =
        let le : c ≤ n = ltb-false n c p in
        let ne : n ≡ c → ⊥ = eqb-false n c q in
        rising-cut c n cuts (omega arith) r

is_cut : (n : ℕ) (cuts : List ℕ) → Cut (cut_at n cuts) n
unfolding cut_at
is_cut n [] = inl refl
is_cut n (c ∷ cuts) = by (ltb n c) (eqb n c) refl (is_cut n cuts)
  where
    by : (s t : Bool) → eqb n c ≡ t → Cut (cut_at n cuts) n → Cut (cond s (n ∷ c ∷ cuts) (cond t (c ∷ cuts) (c ∷ cut_at n cuts))) n
    by true t q ih = inl refl
    by false true q ih = inl (sym (eqb-true n c q))
    by false false q ih = inr ih

still-cut : (n k : ℕ) (cuts : List ℕ) → Cut cuts k → Cut (cut_at n cuts) k
unfolding cut_at
still-cut n k [] h = elim h [ ]
still-cut n k (c ∷ cuts) h = by (ltb n c) (eqb n c) h (still-cut n k cuts)
  where
    by : (s t : Bool) → Cut (c ∷ cuts) k → (Cut cuts k → Cut (cut_at n cuts) k) → Cut (cond s (n ∷ c ∷ cuts) (cond t (c ∷ cuts) (c ∷ cut_at n cuts))) k
    by true t g ih = inr g
    by false true g ih = g
    by false false (inl g) ih = inl g
    by false false (inr g) ih = inr (ih g)

-- ---- every begin and end is a cut
module _ (P : ℕ → Type 0) where
  abbrev pub Ends : (offset len : ℕ) → Type 0
  Ends offset len = P offset × P (offset + len)

two-cuts : (o l : ℕ) (cuts : List ℕ) → Ends (Cut (cut_at o (cut_at (o + l) cuts))) o l
two-cuts o l cuts = (is_cut o (cut_at (o + l) cuts), still-cut o (o + l) (cut_at (o + l) cuts) (is_cut (o + l) cuts))

two-more : (o l : ℕ) (cuts : List ℕ) (p q : ℕ) → Ends (Cut cuts) p q → Ends (Cut (cut_at o (cut_at (o + l) cuts))) p q
two-more o l cuts p q h = (keep p h.0, keep (p + q) h.1)
  where
    keep : (k : ℕ) → Cut cuts k → Cut (cut_at o (cut_at (o + l) cuts)) k
    keep k g = still-cut o k (cut_at (o + l) cuts) (still-cut (o + l) k cuts g)

abbrev pub ExtentEnds : (ℕ → Type 0) → List Extent → Type 0
ExtentEnds P es = All (λ e. Ends P e.offset e.len) es

abbrev pub RangeEnds : (ℕ → Type 0) → List Range → Type 0
RangeEnds P rs = All (λ r. Ends P r.offset r.len) rs

range-cuts : (rs : List Range) → Sorted (range_cuts rs) × RangeEnds (Cut (range_cuts rs)) rs
unfolding range_cuts
range-cuts [] = (tt, tt)
range-cuts (r ∷ rs) =
    let ih = range-cuts rs in (
      sorted-cut r.offset (cut_at (r.offset + r.len) (range_cuts rs)) (sorted-cut (r.offset + r.len) (range_cuts rs) ih.0),
      (two-cuts r.offset r.len (range_cuts rs), all_map (λ q h. two-more r.offset r.len (range_cuts rs) q.offset q.len h) rs ih.1),
    )

pub all-cuts : (rs : List Range) (es : List Extent) → Sorted (all_cuts rs es) × RangeEnds (Cut (all_cuts rs es)) rs × ExtentEnds (Cut (all_cuts rs es)) es
unfolding all_cuts
all-cuts rs [] = ((range-cuts rs).0, (range-cuts rs).1, tt)
all-cuts rs (e ∷ es) =
    let ih = all-cuts rs es in
    let cuts : List ℕ = all_cuts rs es in (
      sorted-cut e.offset (cut_at (e.offset + e.len) cuts) (sorted-cut (e.offset + e.len) cuts ih.0),
      all_map (λ q h. two-more e.offset e.len cuts q.offset q.len h) rs ih.1,
      (two-cuts e.offset e.len cuts, all_map (λ q h. two-more e.offset e.len cuts q.offset q.len h) es ih.2),
    )

-- ---- the sweep has come to a: every begin and end is passed or is one of the cuts to come
abbrev pub Known : ℕ → List ℕ → ℕ → Type 0
Known a cuts n = (n ≤ a) ⊎ Cut cuts n

-- none lies between a and b
abbrev pub Outside : ℕ → ℕ → ℕ → Type 0
Outside a b n = (n ≤ a) ⊎ (b ≤ n)

pub at-or-above : (b n : ℕ) (cuts : List ℕ) → Rising b cuts → Cut cuts n → b ≤ n
at-or-above b n [] r x = elim x [ ]
at-or-above b n (c ∷ cuts) r (inl q) = omega (arith, r.0)
at-or-above b n (c ∷ cuts) r (inr h) =
    let g : c ≤ n = at-or-above c n cuts r.1 h in
    omega (arith, r.0)

pub known-outside : (a b n : ℕ) (cuts : List ℕ) → Rising b cuts → Known a (b ∷ cuts) n → Outside a b n
known-outside a b n cuts r (inl h) = inl h
known-outside a b n cuts r (inr (inl q)) = inr (omega arith)
known-outside a b n cuts r (inr (inr h)) = inr (at-or-above b n cuts r h)

pub known_next : (a b n : ℕ) (cuts : List ℕ) → a < b → Known a (b ∷ cuts) n → Known b cuts n
known_next a b n cuts l (inl h) = inl (omega arith)
known_next a b n cuts l (inr (inl q)) = inl (omega arith)
known_next a b n cuts l (inr (inr h)) = inr h

pub ends-map : {P Q : ℕ → Type 0} → ((n : ℕ) → P n → Q n) → (o l : ℕ) → Ends P o l → Ends Q o l
ends-map f o l h = (f o h.0, f (o + l) h.1)
