-- The tests of where a sweep stands, as its model says them. In this order: an interval that ends after a byte; an interval with its edges; the first that ends after a byte;
-- the same at a later byte; what lies over a byte, and the next edge; which piece comes next.
use Prim.Native.Nat.{ℕ, ◌+◌, ◌-◌, ◌^◌, ◌<◌, ◌≤◌, min}
use mathlib.Core.Path.{◌≡◌, refl, sym, ap, ◌∙◌}
use mathlib.Core.Bool.{Bool, true, false, cond, not, ◌&&◌, false≢true}
use native.Mathlib.Omega.{arith}
use native.Mathlib.Decide.{dec_lt, ℕ_discrete}
use borrow.Author.Tests.{lt-ltb, le-ltb, lt-leb, ltb-true, ltb-false, leb-true}
use lib.Dec.{ltb, leb, eqb}
use Rattle.std.specs.Prelude.{Some}
use Rattle.std.specs.Bool.{then_some}
use Rattle.extents.proofs.Sentences.{and_both}
use Rattle.committing.specs.Seek.{edge_of}
use Rattle.commits.specs.Spot.{span_of, Sought, Left, over_at, over_in, edge_in, cut_in, turn_by, turn_of}
use Rattle.commits.specs.declared.spot.Span.{Span}
use Rattle.commits.specs.declared.spot.Spot.{Spot}
use Rattle.commits.specs.declared.spot.Turn.{Turn}

-- ---- an interval that ends after x
pub ends-law : (off len x : ℕ) → off ≤ x → ltb (x - off) len ≡ ltb x (off + len)
ends-law off len x h = by (dec_lt x (off + len))
  where
    by : Dec (x < off + len) → ltb (x - off) len ≡ ltb x (off + len)
    by (yes q) = lt-ltb (x - off) len (omega arith) ∙ sym (lt-ltb x (off + len) q)
    by (no q) = le-ltb (x - off) len (omega arith) ∙ sym (le-ltb x (off + len) (omega arith))

-- ---- an interval with its edges
module _ (lo hi : ℕ → ℕ) (n i : ℕ) where
  pub span-there : i < n → span_of lo hi n i ≡ record { place = i; lo = lo i; hi = hi i }
  unfolding span_of
  span-there l = rw (lt-ltb i n l)

  pub span_none : n ≤ i → span_of lo hi n i ≡ record { place = n; lo = 2 ^ 64 - 1; hi = 2 ^ 64 - 1 }
  unfolding span_of
  span_none l = rw (le-ltb i n l)

module _ (lo hi : ℕ → ℕ) (n : ℕ) (p : Span) (e : p ≡ span_of lo hi n p.place) where
  pub its-edges : p.place < n → (p.lo ≡ lo p.place) × (p.hi ≡ hi p.place)
  its-edges l =
      let q = e ∙ span-there lo hi n p.place l in
      (ap (λ (s : Span). s.lo) q, ap (λ (s : Span). s.hi) q)

  pub no_edges : n ≤ p.place → (p.lo ≡ 2 ^ 64 - 1) × (p.hi ≡ 2 ^ 64 - 1)
  no_edges l =
      let q = e ∙ span_none lo hi n p.place l in
      (ap (λ (s : Span). s.lo) q, ap (λ (s : Span). s.hi) q)

-- ---- the first that ends after x
module _ (is : ℕ → Bool) (lo hi : ℕ → ℕ) (n x : ℕ) where
  -- all before i have ended
  abbrev pub Before : ℕ → Type 0
  Before i = (a : ℕ) → a < i → a < n → is a ≡ true → hi a ≤ x

  pub sought-at : (i : ℕ) → Before i → (i < n → (is i ≡ true) × (x < hi i)) → (r : Span) → r ≡ span_of lo hi n i → Sought is lo hi n x r
  sought-at i h g r e = by (dec_lt i n)
    where
      by : Dec (i < n) → Sought is lo hi n x r
      by (yes l) =
          let q : r ≡ record { place = i; lo = lo i; hi = hi i } = e ∙ span-there lo hi n i l in
          rw q (record { seeks = record { most = omega arith; passed = λ a k z. h a k (omega arith) z; here = λ z. g l }; edges = sym (span-there lo hi n i l) })
      by (no l) =
          let q : r ≡ record { place = n; lo = 2 ^ 64 - 1; hi = 2 ^ 64 - 1 } = e ∙ span_none lo hi n i (omega arith) in
          rw q (record { seeks = record { most = omega arith; passed = λ a k z. h a (omega arith) k z; here = λ z. absurd (omega arith) }; edges = sym (span_none lo hi n n (omega arith)) })

  pub found_here : (i : ℕ) → i < n → Before i → (is i && ltb x (hi i)) ≡ true → Sought is lo hi n x (record { place = i; lo = lo i; hi = hi i })
  found_here i l h t =
      let (q, g) = and_both (is i) (ltb x (hi i)) t in
      sought-at i h (λ z. (q, ltb-true x (hi i) g)) (record { place = i; lo = lo i; hi = hi i }) (sym (span-there lo hi n i l))

  pub none_here : (i : ℕ) → n ≤ i → Before i → Sought is lo hi n x (record { place = n; lo = 2 ^ 64 - 1; hi = 2 ^ 64 - 1 })
  none_here i l h = sought-at i h (λ z. absurd (omega arith)) (record { place = n; lo = 2 ^ 64 - 1; hi = 2 ^ 64 - 1 }) (sym (span_none lo hi n i l))

  before_more : (i : ℕ) → Before i → (i < n → is i ≡ true → hi i ≤ x) → Before (i + 1)
  before_more i h g a l b q = by (ℕ_discrete a i)
    where
      by : Dec (a ≡ i) → hi a ≤ x
      by (yes e) = rw e (g (rw e at b) (rw e at q))
      by (no e) = h a (omega arith) b q

  pub seek-on : (i : ℕ) → Before i → (is i && ltb x (hi i)) ≡ false → Before (i + 1)
  seek-on i h t = before_more i h (λ l q. ltb-false x (hi i) (rw q at t))

  -- ---- at a later byte
  module _ (p : Span) (h : Left is lo hi n x p) where
    pub still-there : x < p.hi → Sought is lo hi n x p
    still-there g =
        record { seeks = record { most = h.most; passed = h.passed; here = λ l. (h.meant l, omega (arith, (its-edges lo hi n p h.edges l).1)) }; edges = h.edges }

    pub passed-by : p.hi ≤ x → Before (p.place + 1)
    passed-by g = before_more p.place (λ a l b q. h.passed a l q) (λ l q. omega (arith, (its-edges lo hi n p h.edges l).1))

pub left_at : (is : ℕ → Bool) (lo hi : ℕ → ℕ) (n x y : ℕ) (p : Span) → Sought is lo hi n x p → x ≤ y → Left is lo hi n y p
left_at is lo hi n x y p h l =
    record { most = h.seeks.most; passed = λ a k q. omega (arith, h.seeks.passed a k q); meant = λ k. (h.seeks.here k).0; edges = h.edges }

-- ---- what lies over a byte, and the next edge
module _ (is : ℕ → Bool) (lo hi : ℕ → ℕ) (n x : ℕ) (p : Span) (h : Sought is lo hi n x p) where
  pub over-same : x < 2 ^ 64 - 1 → over_in p x ≡ over_at n p.place x (lo p.place)
  over-same t = by (dec_lt p.place n)
    where
      by : Dec (p.place < n) → leb p.lo x ≡ (ltb p.place n && leb (lo p.place) x)
      by (yes l) = rw (lt-ltb p.place n l, (its-edges lo hi n p h.edges l).0)
      by (no l) = rw (le-ltb p.place n (omega arith)) (lt-leb p.lo x (omega (arith, (no_edges lo hi n p h.edges (omega arith)).0)))

  pub edge_same : edge_in p x ≡ edge_of n p.place x (lo p.place) (hi p.place)
  unfolding edge_of
  edge_same = by (dec_lt p.place n)
    where
      same : (t : Bool) → cond t (2 ^ 64 - 1) (2 ^ 64 - 1) ≡ 2 ^ 64 - 1
      same true = refl
      same false = refl

      by : Dec (p.place < n) → cond (ltb x p.lo) p.lo p.hi ≡ cond (ltb p.place n) (cond (ltb x (lo p.place)) (lo p.place) (hi p.place)) (2 ^ 64 - 1)
      by (yes l) = let e = its-edges lo hi n p h.edges l in rw (lt-ltb p.place n l, e.0, e.1)
      by (no l) = let e = no_edges lo hi n p h.edges (omega arith) in rw (le-ltb p.place n (omega arith), e.0, e.1) (same (ltb x (2 ^ 64 - 1)))

pub edge-over : (p : Span) (x : ℕ) → leb p.lo x ≡ true → p.hi ≡ edge_in p x
edge-over p x h = rw (le-ltb x p.lo (leb-true p.lo x h))

-- ---- which piece comes next
module _ (i j st a b y : ℕ) where
  pub turn-committed : (o v r again : Bool) → (r && v) ≡ true → record { upto = y; part = Some (record { row = j; lo = b; state = 0 }); bare = false; again = false } ≡ turn_by i j st a b y o v r again
  unfolding turn_by
  turn-committed o true true again h = refl
  turn-committed o false true again h = absurd (false≢true h)
  turn-committed o v false again h = absurd (false≢true h)

  pub turn-other : (o v r again : Bool) → (r && v) ≡ false → (o && not again) ≡ true
      → record { upto = y; part = Some (record { row = i; lo = a; state = st }); bare = r && not (eqb st 0); again = v } ≡ turn_by i j st a b y o v r again
  unfolding turn_by
  turn-other true true true false h g = absurd (false≢true (sym h))
  turn-other true false true false h g = refl
  turn-other true true false false h g = refl
  turn-other true false false false h g = refl
  turn-other true v r true h g = absurd (false≢true g)
  turn-other false v r again h g = absurd (false≢true g)

  pub turn-invalid : (o v r again : Bool) → (r && v) ≡ false → (o && not again) ≡ false → (again ≡ true → r ≡ false)
      → record { upto = y; part = then_some v (record { row = j; lo = b; state = 2 }); bare = r; again = false } ≡ turn_by i j st a b y o v r again
  unfolding turn_by
  turn-invalid true v r false h g l = absurd (false≢true (sym g))
  turn-invalid true v true true h g l = absurd (false≢true (sym (l refl)))
  turn-invalid true true false true h g l = refl
  turn-invalid true false false true h g l = refl
  turn-invalid false true true again h g l = absurd (false≢true (sym h))
  turn-invalid false false true true h g l = absurd (false≢true (sym (l refl)))
  turn-invalid false false true false h g l = refl
  turn-invalid false true false again h g l = refl
  turn-invalid false false false again h g l = refl

module _ (states : ℕ → ℕ) (p : Spot) where
  abbrev x : ℕ
  x = p.at

  abbrev o : Bool
  o = over_in p.other x

  abbrev v : Bool
  v = over_in p.invalid x

  abbrev r : Bool
  r = over_in p.range x

  abbrev st : ℕ
  st = states p.other.place

  abbrev by : ℕ → Turn
  by y = turn_by p.other.place p.invalid.place st p.other.lo p.invalid.lo y o v r p.again

  pub committed-turn : (r && v) ≡ true
      → record { upto = min (edge_in p.other x) (min p.invalid.hi p.range.hi); part = Some (record { row = p.invalid.place; lo = p.invalid.lo; state = 0 }); bare = false; again = false } ≡ turn_of states p
  committed-turn h =
      let (e, f) = and_both r v h in
      turn-committed p.other.place p.invalid.place st p.other.lo p.invalid.lo (min (edge_in p.other x) (min p.invalid.hi p.range.hi)) o v r p.again h
      ∙ ap (λ (z : ℕ). by (min (edge_in p.other x) (min z p.range.hi))) (edge-over p.invalid x f)
      ∙ ap (λ (z : ℕ). by (min (edge_in p.other x) (min (edge_in p.invalid x) z))) (edge-over p.range x e)

  pub other-turn : (r && v) ≡ false → (o && not p.again) ≡ true
      → record { upto = cut_in p; part = Some (record { row = p.other.place; lo = p.other.lo; state = st }); bare = r && not (eqb st 0); again = v } ≡ turn_of states p
  other-turn h g = turn-other p.other.place p.invalid.place st p.other.lo p.invalid.lo (cut_in p) o v r p.again h g

  pub invalid-turn : (r && v) ≡ false → (o && not p.again) ≡ false → (p.again ≡ true → x < p.range.lo)
      → record { upto = cut_in p; part = then_some v (record { row = p.invalid.place; lo = p.invalid.lo; state = 2 }); bare = r; again = false } ≡ turn_of states p
  invalid-turn h g l =
      turn-invalid p.other.place p.invalid.place st p.other.lo p.invalid.lo (cut_in p) o v r p.again h g (λ q. lt-leb p.range.lo x (l q))
