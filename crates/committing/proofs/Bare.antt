-- 10034: the test at the cuts is true just where some byte is committed and under neither invalid nor read-write: `bare-told`.
use Prim.Native.Nat.{ℕ, ◌+◌, ◌<◌, ◌≤◌}
use mathlib.Core.Path.{◌≡◌, refl, sym, ◌∙◌}
use mathlib.Core.List.{List, [], ◌∷◌}
use mathlib.Core.Logic.{◌⊎◌, inl, inr}
use mathlib.Core.Bool.{Bool, true, false, not, ◌||◌, false≢true}
use native.Mathlib.Omega.{arith}
use native.Mathlib.Decide.{dec_le, dec_lt}
use borrow.Author.Tests.{eq-eqb, eqb-true, not-true}
use lib.Dec.{eqb}
use Rattle.extents.specs.Extents.{any_of}
use Rattle.extents.specs.declared.Extent.{Extent}
use Rattle.extents.proofs.Sentences.{and_both, by_cases}
use Rattle.committing.specs.Ranges.{Range, Within}
use Rattle.committing.specs.Commit.{is_committed, lies, all_cuts}
use Rattle.merging.proofs.Rules.{some-map, some-all, met}
use Rattle.committing.proofs.Cuts.{Sorted, Cut, Ends, ExtentEnds, RangeEnds, all-cuts, Known, Outside, at-or-above}
use Rattle.committing.proofs.Sweep.{or-true, Free, committed-said, committed-holds, lies-there, lies-here, any-said, any-holds, At, next, free-ranges, free-extents, begins}
use Rattle.committing.specs.Bare.{Writable, Bare, writable_at, bare_at, bare_from, bare_over, BareTold}

-- ---- at one byte nothing begins or ends
outside-one : (a n : ℕ) → Outside a (a + 1) n
outside-one a n = by (dec_le n a)
  where
    by : Dec (n ≤ a) → Outside a (a + 1) n
    by (yes h) = inl h
    by (no h) = inr (omega arith)

free-at : (a : ℕ) (rs : List Range) → RangeEnds (Outside a (a + 1)) rs
free-at a [] = tt
free-at a (r ∷ rs) = ((outside-one a r.offset, outside-one a (r.offset + r.len)), free-at a rs)

-- ---- the test of an extent
writable-state : (e : Extent) → (e.state ≡ 0) ⊎ (e.state ≡ 2) → (eqb e.state 0 || eqb e.state 2) ≡ true
writable-state e (inl q) = rw (eq-eqb e.state 0 q)
writable-state e (inr q) = rw (eq-eqb e.state 2 q) (or-true (eqb e.state 0))

state-writable : (e : Extent) → (eqb e.state 0 || eqb e.state 2) ≡ true → (e.state ≡ 0) ⊎ (e.state ≡ 2)
state-writable e h = by (eqb e.state 0) refl h
  where
    by : (t : Bool) → eqb e.state 0 ≡ t → (t || eqb e.state 2) ≡ true → (e.state ≡ 0) ⊎ (e.state ≡ 2)
    by true q g = inl (eqb-true e.state 0 q)
    by false q g = inr (eqb-true e.state 2 g)

module _ (a b x : ℕ) (at_a : a ≤ x) (below-b : x < b) where
  writable-there : (e : Extent) → Free a b e → Writable x e → writable_at a e ≡ true
  writable-there e f w = rw (writable-state e w.state-is) (lies-there a b x at_a below-b e f w.over)

  writable-here : (e : Extent) → Free a b e → writable_at a e ≡ true → Writable x e
  writable-here e f h =
      let (p, q) = and_both (eqb e.state 0 || eqb e.state 2) (lies a e) h in
      record { state-is = state-writable e p; over = lies-here a b x at_a below-b e f q }

-- ---- the test says it
module _ (rs : List Range) (es : List Extent) where
  bare-there : (a : ℕ) → bare_at rs es a ≡ true → Bare rs es
  bare-there a h =
      let (c, n) = and_both (is_committed rs a) (not (any_of (writable_at a) es)) h in
      let less : a < a + 1 = omega arith in
      let same : a ≤ a = omega arith in
      record {
        byte = a;
        in-range = committed-said a (a + 1) a same less rs (free-at a rs) c;
        neither = λ s. false≢true (sym (not-true (any_of (writable_at a) es) n) ∙ any-holds (writable_at a) es (some-map (λ e w. writable-there a (a + 1) a same less e (outside-one a e.offset, outside-one a (e.offset + e.len)) w) es s));
      }

  from-said : (a : ℕ) (cuts : List ℕ) → bare_from rs es a cuts ≡ true → Bare rs es
  unfolding bare_from
  from-said a [] h = absurd (false≢true h)
  from-said a (b ∷ cuts) h = by (bare_at rs es a) refl h (from-said b cuts)
    where
      by : (t : Bool) → bare_at rs es a ≡ t → (t || bare_from rs es b cuts) ≡ true → (bare_from rs es b cuts ≡ true → Bare rs es) → Bare rs es
      by true q g ih = bare-there a q
      by false q g ih = ih g

  said : (cuts : List ℕ) → bare_over rs es cuts ≡ true → Bare rs es
  unfolding bare_over
  said [] h = absurd (false≢true h)
  said (a ∷ cuts) h = from-said a cuts h

  -- ---- and is true where it holds
  module _ (b : Bare rs es) where
    from-holds : (a : ℕ) (cuts : List ℕ) → At rs es a cuts → a ≤ b.byte → bare_from rs es a cuts ≡ true
    unfolding bare_from
    from-holds a [] h l = absurd (met past rs h.ranges b.in-range)
      where
        ended : (n : ℕ) → Known a [] n → n ≤ a
        ended n (inr x3) = elim x3 [ ]
        ended n (inl k) = k

        past : (r : Range) → Ends (Known a []) r.offset r.len → Within b.byte r → ⊥
        past r k w = omega (arith, ended (r.offset + r.len) k.1, w.below)
    from-holds a (c ∷ cuts) h l = by (dec_lt b.byte c) (λ g. from-holds c cuts (next rs es a c cuts h) g)
      where
        by : Dec (b.byte < c) → (c ≤ b.byte → bare_from rs es c cuts ≡ true) → (bare_at rs es a || bare_from rs es c cuts) ≡ true
        by (no g) ih = rw (ih (omega arith)) (or-true (bare_at rs es a))
        by (yes g) ih =
            let nothing : any_of (writable_at a) es ≡ false = by_cases (any_of (writable_at a) es) (λ t. b.neither (some-all (λ e f w. writable-here a c b.byte l g e f w) es (free-extents rs es a c cuts h) (any-said (writable_at a) es t))) in
            rw (committed-holds a c b.byte l g rs (free-ranges rs es a c cuts h) b.in-range, nothing)

    holds : (cuts : List ℕ) → Sorted cuts → RangeEnds (Cut cuts) rs → ExtentEnds (Cut cuts) es → bare_over rs es cuts ≡ true
    unfolding bare_over
    holds [] r kr ke = absurd (met (λ q k w. k.0) rs kr b.in-range)
    holds (a ∷ cuts) r kr ke = by (dec_le a b.byte)
      where
        low : (n : ℕ) → Cut (a ∷ cuts) n → a ≤ n
        low n (inl q) = omega arith
        low n (inr k) = at-or-above a n cuts r k

        by : Dec (a ≤ b.byte) → bare_from rs es a cuts ≡ true
        by (yes h) = from-holds a cuts (begins rs es a cuts r kr ke) h
        by (no h) = absurd (met (λ q k w. omega (arith, low q.offset k.0, w.from)) rs kr b.in-range)

pub bare-told : BareTold
bare-told rs es =
    let c = all-cuts rs es in
    (λ h. said rs es (all_cuts rs es) h, λ b. holds rs es b (all_cuts rs es) c.0 c.1 c.2)
