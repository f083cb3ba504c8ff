-- The cuts to come. In this order: a cut begins or ends something; the next cut; no cut is left; what a test chooses, as one place.
use Prim.Native.Nat.{ℕ, zero, suc, ◌+◌, ◌<◌, ◌≤◌}
use mathlib.Core.Path.{◌≡◌, refl, sym, ap, ◌∙◌}
use mathlib.Core.List.{List, [], ◌∷◌}
use mathlib.Core.Logic.{◌⊎◌, inl, inr}
use mathlib.Core.Bool.{Bool, true, false, cond, not, ◌||◌, false≢true}
use native.Mathlib.Omega.{arith}
use native.Mathlib.Decide.{ℕ_discrete}
use borrow.Author.Tests.{lt-ltb, le-ltb, ltb-true, ltb-false}
use lib.Dec.{ltb, eqb}
use Rattle.extents.specs.Extents.{list_from, any_of}
use Rattle.extents.specs.declared.Extent.{Extent}
use Rattle.extents.proofs.Sentences.{by_cases}
use Rattle.committing.specs.Ranges.{Range}
use Rattle.committing.specs.Commit.{cut_at, range_cuts, all_cuts}
use Rattle.places.specs.Lists.{chosen, none}
use Rattle.committing.proofs.Cuts.{Rising, Sorted, Cut, Ends, ExtentEnds, RangeEnds, at-or-above}
use Rattle.committing.proofs.Places.{at_all}
use Rattle.committing.proofs.Sweep.{none-chosen}
use Rattle.committing.specs.Seek.{above}

-- ---- what holds of every begin and end holds of every cut
cut-from : (n k : ℕ) (cuts : List ℕ) → Cut (cut_at n cuts) k → (n ≡ k) ⊎ Cut cuts k
unfolding cut_at
cut-from n k [] (inr x) = elim x [ ]
cut-from n k [] (inl q) = inl q
cut-from n k (c ∷ cuts) h = by (ltb n c) (eqb n c) h (cut-from n k cuts)
  where
    by : (s t : Bool) → Cut (cond s (n ∷ c ∷ cuts) (cond t (c ∷ cuts) (c ∷ cut_at n cuts))) k → (Cut (cut_at n cuts) k → (n ≡ k) ⊎ Cut cuts k) → (n ≡ k) ⊎ Cut (c ∷ cuts) k
    by true t (inl q) ih = inl q
    by true t (inr q) ih = inr q
    by false true q ih = inr q
    by false false (inl q) ih = inr (inl q)
    by false false (inr q) ih = at (ih q)
      where
        at : (n ≡ k) ⊎ Cut cuts k → (n ≡ k) ⊎ Cut (c ∷ cuts) k
        at (inl g) = inl g
        at (inr g) = inr (inr g)

module _ (P : ℕ → Type 0) where
  two_from : (o l k : ℕ) (cuts : List ℕ) → Ends P o l → Cut (cut_at o (cut_at (o + l) cuts)) k → (Cut cuts k → P k) → P k
  two_from o l k cuts h c g = by (cut-from o k (cut_at (o + l) cuts) c)
    where
      by : (o ≡ k) ⊎ Cut (cut_at (o + l) cuts) k → P k
      by (inl q) = rw q at h.0
      by (inr q) = at (cut-from (o + l) k cuts q)
        where
          at : (o + l ≡ k) ⊎ Cut cuts k → P k
          at (inl r) = rw r at h.1
          at (inr r) = g r

  range-from : (rs : List Range) → RangeEnds P rs → (k : ℕ) → Cut (range_cuts rs) k → P k
  unfolding range_cuts
  range-from [] h k c = absurd c
  range-from (r ∷ rs) h k c = two_from r.offset r.len k (range_cuts rs) h.0 c (λ q. range-from rs h.1 k q)

  pub each-cut : (rs : List Range) (es : List Extent) → RangeEnds P rs → ExtentEnds P es → (k : ℕ) → Cut (all_cuts rs es) k → P k
  unfolding all_cuts
  each-cut rs [] hr he k c = range-from rs hr k c
  each-cut rs (e ∷ es) hr he k c = two_from e.offset e.len k (all_cuts rs es) he.0 c (λ q. each-cut rs es hr he.1 k q)

-- ---- the next one
pub above-rising : (y : ℕ) (cuts : List ℕ) → Rising y cuts → above y cuts ≡ cuts
unfolding above
above-rising y [] r = refl
above-rising y (c ∷ cuts) r = rw (lt-ltb y c r.0)

pub rising-sorted : (a : ℕ) (cuts : List ℕ) → Rising a cuts → Sorted cuts
rising-sorted a [] r = tt
rising-sorted a (c ∷ cuts) r = r.1

pub next-cut : (x y : ℕ) (cuts : List ℕ) → Sorted cuts → Cut cuts y → x < y → ((c : ℕ) → Cut cuts c → x < c → y ≤ c) → above x cuts ≡ y ∷ above y cuts
unfolding above
next-cut x y [] r k l least = elim k [ ]
next-cut x y (c ∷ cuts) r k l least = by (ltb x c) refl (ltb y c) refl k (λ g. next-cut x y cuts (rising-sorted c cuts r) g l (λ d h. least d (inr h)))
  where
    by : (s : Bool) → ltb x c ≡ s → (t : Bool) → ltb y c ≡ t → Cut (c ∷ cuts) y → (Cut cuts y → above x cuts ≡ y ∷ above y cuts) → cond s (c ∷ cuts) (above x cuts) ≡ y ∷ cond t (c ∷ cuts) (above y cuts)
    by s p true q (inl e) ih = absurd (omega (arith, ltb-true y c q))
    by s p true q (inr g) ih = absurd (omega (arith, ltb-true y c q, at-or-above c y cuts r g))
    by true p false q g ih =
        let e : c ≡ y = omega (arith, ltb-false y c q, least c (inl refl) (ltb-true x c p)) in
        rw (above-rising y cuts (rw e at r)) (ap (λ (z : ℕ). z ∷ cuts) e)
    by false p false q (inl e) ih = absurd (omega (arith, ltb-false x c p))
    by false p false q (inr g) ih = ih g

pub no_cut : (x : ℕ) (cuts : List ℕ) → ((c : ℕ) → Cut cuts c → c ≤ x) → above x cuts ≡ []
unfolding above
no_cut x [] h = refl
no_cut x (c ∷ cuts) h = rw (le-ltb x c (h c (inl refl))) (no_cut x cuts (λ d g. h d (inr g)))

-- ---- what a test chooses, if it chooses one place at most
none_from : (q : Extent → Bool) (f : ℕ → Extent) (n k : ℕ) → ((a : ℕ) → k ≤ a → a < k + n → q (f a) ≡ false) → chosen q (list_from f n k) ≡ []
none_from q f n k h = none-chosen q (list_from f n k) (at_all (λ e. q e ≡ false) f n k h)

chosen-from : (q : Extent → Bool) (f : ℕ → Extent) (n k p : ℕ) → k ≤ p → p < k + n → ((a : ℕ) → k ≤ a → a < k + n → q (f a) ≡ true → a ≡ p) → q (f p) ≡ true → chosen q (list_from f n k) ≡ f p ∷ []
unfolding chosen list_from
chosen-from q f zero k p l g one h = absurd (omega arith)
chosen-from q f (suc n) k p l g one h = by (ℕ_discrete k p) (λ u v. chosen-from q f n (k + 1) p u v (λ a w z t. one a (omega arith) (omega arith) t) h)
  where
    by : Dec (k ≡ p) → (k + 1 ≤ p → p < k + 1 + n → chosen q (list_from f n (k + 1)) ≡ f p ∷ []) → cond (q (f k)) (f k ∷ chosen q (list_from f n (k + 1))) (chosen q (list_from f n (k + 1))) ≡ f p ∷ []
    by (yes e) ih =
        rw (e, h, none_from q f n (p + 1) (λ a u v. by_cases (q (f a)) (λ t. absurd (omega (arith, one a (omega arith) (omega arith) t)))))
    by (no e) ih = rw (by_cases (q (f k)) (λ t. e (one k (omega arith) (omega arith) t))) (ih (omega arith) (omega arith))

pub chosen-one : (q : Extent → Bool) (f : ℕ → Extent) (n p : ℕ) (here : Bool) → ((a : ℕ) → a < n → q (f a) ≡ true → a ≡ p) → (here ≡ true → (p < n) × (q (f p) ≡ true)) → (here ≡ false → p < n → q (f p) ≡ false)
    → chosen q (list_from f n 0) ≡ cond here (f p ∷ []) []
chosen-one q f n p true one yes-here not-here = chosen-from q f n 0 p (omega arith) (omega (arith, (yes-here refl).0)) (λ a l g t. one a (omega (arith, g)) t) (yes-here refl).1
chosen-one q f n p false one yes-here not-here =
    none_from q f n 0 (λ a l g. by_cases (q (f a)) (λ t.
    let k : a < n = omega (arith, g) in
    let e : a ≡ p = one a k t in
    false≢true (sym (not-here refl (rw e at k)) ∙ rw e at t)))

any-chosen : (q : Extent → Bool) (es : List Extent) → any_of q es ≡ not (none (chosen q es))
unfolding chosen any_of none
any-chosen q [] = refl
any-chosen q (e ∷ es) = by (q e) (any-chosen q es)
  where
    by : (t : Bool) → any_of q es ≡ not (none (chosen q es)) → (t || any_of q es) ≡ not (none (cond t (e ∷ chosen q es) (chosen q es)))
    by true ih = refl
    by false ih = ih

pub any-one : (q : Extent → Bool) (es : List Extent) (here : Bool) (e : Extent) → chosen q es ≡ cond here (e ∷ []) [] → any_of q es ≡ here
unfolding none
any-one q es true e h = any-chosen q es ∙ ap (λ (l : List Extent). not (none l)) h
any-one q es false e h = any-chosen q es ∙ ap (λ (l : List Extent). not (none l)) h
