-- What lies over a byte, by the three places of a sweep. In this order: tests; rows of one kind; what is chosen of them at x; the ranges.
use Prim.Native.Nat.{ℕ, zero, suc, ◌+◌, ◌<◌, ◌≤◌}
use mathlib.Core.Path.{◌≡◌, refl, sym, ap, ◌∙◌}
use mathlib.Core.List.{List, [], ◌∷◌}
use mathlib.Core.Bool.{Bool, true, false, cond, not, ◌&&◌, ◌||◌, false≢true}
use native.Mathlib.Omega.{arith}
use native.Mathlib.Decide.{dec_le, ℕ_discrete}
use borrow.Author.Tests.{lt-ltb, le-leb, eq-eqb, ne_eqb, ltb-true, leb-true}
use lib.Dec.{leb, ltb, eqb}
use Rattle.extents.specs.Extents.{list_from, any_of}
use Rattle.extents.specs.declared.Extent.{Extent}
use Rattle.extents.proofs.Sentences.{and_both, by_cases}
use Rattle.merging.proofs.Rules.{Sound, Before, apart, read_first, invalid-first, Valid, sounds}
use Rattle.committing.specs.Ranges.{Range}
use Rattle.committing.specs.Commit.{in_range, is_committed, lies, invalid_at, other_at}
use Rattle.places.specs.Lists.{chosen}
use Rattle.committing.specs.Bare.{writable_at}
use Rattle.committing.specs.Seek.{Spread, Seeks}
use Rattle.committing.proofs.Sweep.{test-said, test-holds, or-true}
use Rattle.committing.proofs.Places.{all-at, valid-at}
use Rattle.committing.proofs.Seek.{only_one}
use Rattle.committing.proofs.Next.{chosen-one, any-one}
use Rattle.commits.specs.Spot.{range_begin, range_end, is_kind, always, over_at}

abbrev pub st_of : (ℕ → Extent) → ℕ → ℕ
st_of f a = (f a).state

abbrev pub lo_of : (ℕ → Extent) → ℕ → ℕ
lo_of f a = (f a).offset

abbrev pub hi_of : (ℕ → Extent) → ℕ → ℕ
hi_of f a = (f a).offset + (f a).len

-- ---- tests
kind-two : (st : ℕ) (inv : Bool) → st ≡ 2 → cond (eqb st 2) inv (not inv) ≡ inv
kind-two st inv q = rw (eq-eqb st 2 q)

kind-other : (st : ℕ) (inv : Bool) → (st ≡ 2 → ⊥) → cond (eqb st 2) inv (not inv) ≡ not inv
kind-other st inv q = rw (ne_eqb st 2 q)

not-both : (inv : Bool) → inv ≡ true → not inv ≡ true → ⊥
not-both true p q = false≢true q
not-both false p q = false≢true p

pub cond-true : (b : Bool) → cond b true false ≡ b
cond-true true = refl
cond-true false = refl

cond-false : (b : Bool) → cond b false true ≡ not b
cond-false true = refl
cond-false false = refl

chosen-same : (p q : Extent → Bool) → ((e : Extent) → p e ≡ q e) → (es : List Extent) → chosen p es ≡ chosen q es
unfolding chosen
chosen-same p q h [] = refl
chosen-same p q h (e ∷ es) = rw (h e, chosen-same p q h es)

any_same : (p q : Extent → Bool) → ((e : Extent) → p e ≡ q e) → (es : List Extent) → any_of p es ≡ any_of q es
unfolding any_of
any_same p q h [] = refl
any_same p q h (e ∷ es) = rw (h e, any_same p q h es)

or-four : (a b c d : Bool) → ((a || b) || (c || d)) ≡ ((a || c) || (b || d))
or-four true b c d = refl
or-four false true true d = refl
or-four false true false d = refl
or-four false false c d = refl

any-or : (p q : Extent → Bool) (es : List Extent) → any_of (λ e. p e || q e) es ≡ (any_of p es || any_of q es)
unfolding any_of
any-or p q [] = refl
any-or p q (e ∷ es) = rw (any-or p q es) (or-four (p e) (q e) (any_of p es) (any_of q es))

pub over-said : (p n lo x : ℕ) → over_at n p x lo ≡ true → (p < n) × (lo ≤ x)
over-said p n lo x h =
    let (s, t) = and_both (ltb p n) (leb lo x) h in
    (ltb-true p n s, leb-true lo x t)

over-not : (p n lo x : ℕ) → over_at n p x lo ≡ false → p < n → x < lo
over-not p n lo x h l = by (dec_le lo x)
  where
    by : Dec (lo ≤ x) → x < lo
    by (yes g) = absurd (false≢true (sym h ∙ rw (lt-ltb p n l, le-leb lo x g)))
    by (no g) = omega arith

and-false : (p q : Bool) → q ≡ false → (p && q) ≡ false
and-false true q h = h
and-false false q h = refl

-- ---- the list f gives, and rows of one kind
module _ (f : ℕ → Extent) (n : ℕ) (valid : Valid (list_from f n 0)) where
  pub sound-at : (a : ℕ) → a < n → Sound (f a)
  sound-at a l = all-at Sound f n 0 (sounds (list_from f n 0) valid) a (omega arith) (omega arith)

  pub spread-kind : (inv : Bool) → Spread (is_kind (st_of f) inv) (lo_of f) (hi_of f) n
  spread-kind inv =
      record {
        some = λ a l q. omega (arith, (sound-at a l).some);
        ordered = λ a b l h p q. by a b p q (valid-at f n 0 valid a b (omega arith) l (omega arith));
      }
    where
      by : (a b : ℕ) → is_kind (st_of f) inv a ≡ true → is_kind (st_of f) inv b ≡ true → Before (f a) (f b) → hi_of f a ≤ lo_of f b
      by a b p q (apart h) = h
      by a b p q (read_first s t h) = absurd (not-both inv (sym (kind-two (f b).state inv t) ∙ q) (sym (kind-other (f a).state inv (λ z. omega arith)) ∙ p))
      by a b p q (invalid-first s t h) = absurd (not-both inv (sym (kind-two (f a).state inv s) ∙ p) (sym (kind-other (f b).state inv (λ z. omega arith)) ∙ q))

  -- ---- what is chosen at x, where p is the place of that kind
  abbrev kind_at : Bool → ℕ → Extent → Bool
  kind_at inv x e = cond (eqb e.state 2) inv (not inv) && lies x e

  module _ (inv : Bool) (x p : ℕ) (s : Seeks (is_kind (st_of f) inv) (hi_of f) n x p) where
    kind-one : (a : ℕ) → a < n → kind_at inv x (f a) ≡ true → a ≡ p
    kind-one a l t =
        let (q, r) = and_both (is_kind (st_of f) inv a) (lies x (f a)) t in
        let (u, v) = test-said (f a).offset (f a).len x r in
        only_one (is_kind (st_of f) inv) (lo_of f) (hi_of f) n x p (spread-kind inv) s a l q u v

    kind-yes : over_at n p x (f p).offset ≡ true → (p < n) × (kind_at inv x (f p) ≡ true)
    kind-yes h =
        let (l, g) = over-said p n (f p).offset x h in
        let (q, r) = s.here l in
        (l, rw (q, test-holds (f p).offset (f p).len x g r))

    kind-not : over_at n p x (f p).offset ≡ false → p < n → kind_at inv x (f p) ≡ false
    kind-not h l = and-false (is_kind (st_of f) inv p) (lies x (f p)) (by_cases (lies x (f p)) (λ t. omega (arith, over-not p n (f p).offset x h l, (test-said (f p).offset (f p).len x t).0)))

    chosen-kind : chosen (kind_at inv x) (list_from f n 0) ≡ cond (over_at n p x (f p).offset) (f p ∷ []) []
    chosen-kind = chosen-one (kind_at inv x) f n p (over_at n p x (f p).offset) kind-one kind-yes kind-not

    -- among them one more test
    also : (w : Extent → Bool) → chosen (λ e. kind_at inv x e && w e) (list_from f n 0) ≡ cond (over_at n p x (f p).offset && w (f p)) (f p ∷ []) []
    also w =
        chosen-one (λ e. kind_at inv x e && w e) f n p (over_at n p x (f p).offset && w (f p)) (λ a l t. kind-one a l (and_both (kind_at inv x (f a)) (w (f a)) t).0)
        (λ h.
        let (u, v) = and_both (over_at n p x (f p).offset) (w (f p)) h in
        let (l, t) = kind-yes u in
        (l, rw (t, v)))
        (λ h l. by_cases (kind_at inv x (f p) && w (f p)) (λ t.
        let (u, v) = and_both (kind_at inv x (f p)) (w (f p)) t in
        false≢true (sym h ∙ rw (over-here u l, v))))
      where
        over-here : kind_at inv x (f p) ≡ true → p < n → over_at n p x (f p).offset ≡ true
        over-here t l =
            let (q, r) = and_both (is_kind (st_of f) inv p) (lies x (f p)) t in
            rw (lt-ltb p n l, le-leb (f p).offset x (test-said (f p).offset (f p).len x r).0)

  module _ (x : ℕ) where
    pub others-are : (i : ℕ) → Seeks (is_kind (st_of f) false) (hi_of f) n x i → chosen (other_at x) (list_from f n 0) ≡ cond (over_at n i x (f i).offset) (f i ∷ []) []
    others-are i s = chosen-same (other_at x) (kind_at false x) (λ e. ap (λ (t : Bool). t && lies x e) (sym (cond-false (eqb e.state 2)))) (list_from f n 0) ∙ chosen-kind false x i s

    pub invalids-are : (j : ℕ) → Seeks (is_kind (st_of f) true) (hi_of f) n x j → chosen (invalid_at x) (list_from f n 0) ≡ cond (over_at n j x (f j).offset) (f j ∷ []) []
    invalids-are j s = chosen-same (invalid_at x) (kind_at true x) (λ e. ap (λ (t : Bool). t && lies x e) (sym (cond-true (eqb e.state 2)))) (list_from f n 0) ∙ chosen-kind true x j s

    -- under read-write or invalid
    splits : (st : ℕ) (l : Bool) → ((eqb st 0 || eqb st 2) && l) ≡ ((eqb st 2 && l) || ((cond (eqb st 2) false true && l) && eqb st 0))
    splits st l = by (ℕ_discrete st 2) (eqb st 0) l
      where
        two : (st : ℕ) → st ≡ 2 → (l : Bool) → ((eqb st 0 || eqb st 2) && l) ≡ ((eqb st 2 && l) || ((cond (eqb st 2) false true && l) && eqb st 0))
        two st q true = rw q
        two st q false = rw q

        at : (z l : Bool) → ((z || false) && l) ≡ (l && z)
        at true true = refl
        at true false = refl
        at false true = refl
        at false false = refl

        by : Dec (st ≡ 2) → (z l : Bool) → ((eqb st 0 || eqb st 2) && l) ≡ ((eqb st 2 && l) || ((cond (eqb st 2) false true && l) && eqb st 0))
        by (yes q) z l = two st q l
        by (no q) z l = rw (ne_eqb st 2 q) (at (eqb st 0) l)

    pub writable-are : (i j : ℕ) → Seeks (is_kind (st_of f) false) (hi_of f) n x i → Seeks (is_kind (st_of f) true) (hi_of f) n x j
        → any_of (writable_at x) (list_from f n 0) ≡ (over_at n j x (f j).offset || over_at n i x (f i).offset && eqb (f i).state 0)
    writable-are i j s t =
        any_same (writable_at x) (λ e. invalid_at x e || (kind_at false x e && eqb e.state 0)) (λ e. splits e.state (lies x e)) (list_from f n 0)
        ∙ any-or (invalid_at x) (λ e. kind_at false x e && eqb e.state 0) (list_from f n 0)
        ∙ rw (
          any-one (invalid_at x) (list_from f n 0) (over_at n j x (f j).offset) (f j) (invalids-are j t),
          any-one (λ e. kind_at false x e && eqb e.state 0) (list_from f n 0) (over_at n i x (f i).offset && eqb (f i).state 0) (f i) (also false x i s (λ e. eqb e.state 0)),
        )

-- ---- the ranges that g gives
none_from : (g : ℕ → Range) (x m k : ℕ) → ((a : ℕ) → k ≤ a → a < k + m → in_range x (g a) ≡ false) → is_committed (list_from g m k) x ≡ false
unfolding is_committed list_from
none_from g x zero k h = refl
none_from g x (suc m) k h = rw (h k (omega arith) (omega arith)) (none_from g x m (k + 1) (λ a l r. h a (omega arith) (omega arith)))

some-from : (g : ℕ → Range) (x m k p : ℕ) → k ≤ p → p < k + m → in_range x (g p) ≡ true → is_committed (list_from g m k) x ≡ true
unfolding is_committed list_from
some-from g x zero k p l r h = absurd (omega arith)
some-from g x (suc m) k p l r h = by (ℕ_discrete k p) (λ u v. some-from g x m (k + 1) p u v h)
  where
    by : Dec (k ≡ p) → (k + 1 ≤ p → p < k + 1 + m → is_committed (list_from g m (k + 1)) x ≡ true) → (in_range x (g k) || is_committed (list_from g m (k + 1)) x) ≡ true
    by (yes e) ih = rw (e, h)
    by (no e) ih = rw (ih (omega arith) (omega arith)) (or-true (in_range x (g k)))

module _ (g : ℕ → Range) (m : ℕ) (spread : Spread always (range_begin g) (range_end g) m) where
  pub committed-is : (x k : ℕ) → Seeks always (range_end g) m x k → is_committed (list_from g m 0) x ≡ over_at m k x (g k).offset
  committed-is x k s = by (over_at m k x (g k).offset) refl
    where
      by : (t : Bool) → over_at m k x (g k).offset ≡ t → is_committed (list_from g m 0) x ≡ t
      by true q =
          let (l, h) = over-said k m (g k).offset x q in
          some-from g x m 0 k (omega arith) (omega arith) (test-holds (g k).offset (g k).len x h (s.here l).1)
      by false q =
          none_from g x m 0 (λ a l r. by_cases (in_range x (g a)) (λ t.
          let (u, v) = test-said (g a).offset (g a).len x t in
          let below : a < m = omega arith in
          let e : a ≡ k = only_one always (range_begin g) (range_end g) m x k spread s a below refl u v in
          omega (arith, over-not k m (g k).offset x q (rw e at below), rw e at u)))
