-- 22: the test range by range lets pass just the ranges that are aligned and of which every pair is in order: `committable-told`. In this order: one range, test by
-- test; what a range that passes is, and that such a one passes; all ranges, both ways; range by range; the claim; 10036, test by test.
use Prim.Native.Nat.{ℕ, ◌+◌, ◌-◌, ◌*◌, ◌%◌, ◌^◌, ◌<◌, ◌≤◌}
use mathlib.Core.Path.{◌≡◌, refl}
use mathlib.Core.List.{List, [], ◌∷◌}
use mathlib.Core.Bool.{Bool, true, false, not, ◌||◌, true≢false}
use native.Mathlib.Omega.{arith}
use native.Mathlib.Decide.{dec_le}
use borrow.Author.Tests.{lt-ltb, le-ltb, eq-eqb, ne_eqb, ltb-false, eqb-true, eqb-false}
use lib.Dec.{ltb, eqb}
use lib.ListN.{length}
use Rattle.xdr.specs.Be.{be_nat}
use Rattle.extents.specs.Extents.{list_from}
use Rattle.extents.proofs.OnePass.{or_left}
use Rattle.merging.specs.Meaning.{All}
use Rattle.merging.proofs.Rules.{or-rest, all_map, all-map₂}
use Rattle.committing.proofs.Places.{from_next, from-done}
use Rattle.committing.specs.Ranges.{Range, malformed, Aligned, InOrder, AllPairs, Committable, unfit, any_unfit, CommittableTold}

-- ---- one range, test by test
module _ (block before : ℕ) (r : Range) where
  pub no_bytes : r.len ≡ 0 → true ≡ unfit block before r
  unfolding unfit
  no_bytes h = rw (eq-eqb r.len 0 h)

  module _ (h₁ : r.len ≡ 0 → ⊥) where
    pub too_far : 2 ^ 64 - 1 < r.offset + r.len → true ≡ unfit block before r
    unfolding unfit
    too_far h = rw (ne_eqb r.len 0 h₁, lt-ltb (2 ^ 64 - 1) (r.offset + r.len) h)

    module _ (h₂ : r.offset + r.len ≤ 2 ^ 64 - 1) where
      pub offset-cut : (r.offset % block ≡ 0 → ⊥) → true ≡ unfit block before r
      unfolding unfit
      offset-cut h = rw (ne_eqb r.len 0 h₁, le-ltb (2 ^ 64 - 1) (r.offset + r.len) h₂, ne_eqb (r.offset % block) 0 h)

      module _ (h₃ : r.offset % block ≡ 0) where
        pub length_cut : (r.len % block ≡ 0 → ⊥) → true ≡ unfit block before r
        unfolding unfit
        length_cut h = rw (ne_eqb r.len 0 h₁, le-ltb (2 ^ 64 - 1) (r.offset + r.len) h₂, eq-eqb (r.offset % block) 0 h₃, ne_eqb (r.len % block) 0 h)

        pub too-soon : r.len % block ≡ 0 → ltb r.offset before ≡ unfit block before r
        unfolding unfit
        too-soon h = rw (ne_eqb r.len 0 h₁, le-ltb (2 ^ 64 - 1) (r.offset + r.len) h₂, eq-eqb (r.offset % block) 0 h₃, eq-eqb (r.len % block) 0 h)

  -- ---- what one that passes is
  passed : unfit block before r ≡ false → Aligned block r × (before ≤ r.offset)
  unfolding unfit
  passed h =
      let h₁ = or-rest (eqb r.len 0) _ h in
      let h₂ = or-rest (ltb (2 ^ 64 - 1) (r.offset + r.len)) _ h₁ in
      let h₃ = or-rest (not (eqb (r.offset % block) 0)) _ h₂ in
      let h₄ = or-rest (not (eqb (r.len % block) 0)) _ h₃ in
      let some : r.len ≡ 0 → ⊥ = eqb-false r.len 0 (or_left (eqb r.len 0) _ h) in (
        record {
          some = omega arith;
          in-file = ltb-false (2 ^ 64 - 1) (r.offset + r.len) (or_left (ltb (2 ^ 64 - 1) (r.offset + r.len)) _ h₁);
          offset-whole = whole r.offset (eqb (r.offset % block) 0) refl (or_left (not (eqb (r.offset % block) 0)) _ h₂);
          length_whole = whole r.len (eqb (r.len % block) 0) refl (or_left (not (eqb (r.len % block) 0)) _ h₃);
        },
        ltb-false r.offset before h₄,
      )
    where
      whole : (n : ℕ) (t : Bool) → eqb (n % block) 0 ≡ t → not t ≡ false → n % block ≡ 0
      whole n true q g = eqb-true (n % block) 0 q
      whole n false q g = absurd (true≢false g)

  passes : Aligned block r → before ≤ r.offset → unfit block before r ≡ false
  unfolding unfit
  passes a l =
      rw (ne_eqb r.len 0 (λ z. omega (arith, a.some)), le-ltb (2 ^ 64 - 1) (r.offset + r.len) a.in-file, eq-eqb (r.offset % block) 0 a.offset-whole, eq-eqb (r.len % block) 0 a.length_whole)
      (le-ltb r.offset before l)

-- ---- all of them
abbrev From : ℕ → Range → Type 0
From before r = before ≤ r.offset

pub record Passed (block before : ℕ) (rs : List Range) : Type 0 where
  pub each : All (Aligned block) rs
  pub after : All (From before) rs
  pub pairs : AllPairs InOrder rs

-- where one ends before another begins the two are in order, and the other way round
apart-ordered : (a b : Range) → a.offset + a.len ≤ b.offset → InOrder a b
apart-ordered a b h = record { sorted = omega arith; disjoint = λ x u v. omega (arith, u.below, v.from) }

pub ordered-apart : (a b : Range) → 0 < a.len → 0 < b.len → InOrder a b → a.offset + a.len ≤ b.offset
ordered-apart a b p q o = by (dec_le (a.offset + a.len) b.offset)
  where
    by : Dec (a.offset + a.len ≤ b.offset) → a.offset + a.len ≤ b.offset
    by (yes h) = h
    by (no h) = absurd (o.disjoint b.offset (record { from = o.sorted; below = omega arith }) (record { from = omega arith; below = omega arith }))

pub all-passed : (block before : ℕ) (rs : List Range) → any_unfit block before rs ≡ false → Passed block before rs
unfolding any_unfit
all-passed block before [] h = record { each = tt; after = tt; pairs = tt }
all-passed block before (r ∷ rs) h =
    let (a, l) = passed block before r (or_left (unfit block before r) _ h) in
    let rest = all-passed block (r.offset + r.len) rs (or-rest (unfit block before r) _ h) in
    record {
      each = (a, rest.each);
      after = (l, all_map (λ q g. omega (arith, l, g)) rs rest.after);
      pairs = (all_map (λ q g. apart-ordered r q g) rs rest.after, rest.pairs);
    }

none-unfit : (block before : ℕ) (rs : List Range) → Passed block before rs → any_unfit block before rs ≡ false
unfolding any_unfit
none-unfit block before [] p = refl
none-unfit block before (r ∷ rs) p =
    rw (passes block before r p.each.0 p.after.0)
    (none-unfit block (r.offset + r.len) rs (record {
      each = p.each.1;
      after = all-map₂ (λ q a o. ordered-apart r q p.each.0.some a.some o) rs p.each.1 p.pairs.0;
      pairs = p.pairs.1;
    }))

-- ---- range by range, from place k on
module _ (block : ℕ) (g : ℕ → Range) (m k before : ℕ) where
  pub unfit-here : k < m → unfit block before (g k) ≡ true → true ≡ any_unfit block before (list_from g (m - k) k)
  unfolding any_unfit
  unfit-here h q = rw (from_next g m k h, q)

  pub fit-here : k < m → unfit block before (g k) ≡ false → any_unfit block ((g k).offset + (g k).len) (list_from g (m - (k + 1)) (k + 1)) ≡ any_unfit block before (list_from g (m - k) k)
  unfolding any_unfit
  fit-here h q = rw (from_next g m k h, q)

  pub all_fit : m ≤ k → false ≡ any_unfit block before (list_from g (m - k) k)
  unfolding any_unfit
  all_fit h = rw (from-done g m k h)

pub fit-ends : (block before : ℕ) (r : Range) → unfit block before r ≡ false → r.offset + r.len < 2 ^ 64
fit-ends block before r h = omega (arith, (passed block before r h).0.in-file)

-- ---- the claim
from_zero : (rs : List Range) → All (From 0) rs
from_zero [] = tt
from_zero (r ∷ rs) = (omega arith, from_zero rs)

pub committable-told : CommittableTold
committable-told block rs = (λ h. holds h, λ c. said c)
  where
    holds : (eqb block 0 || any_unfit block 0 rs) ≡ false → Committable block rs
    holds h =
        let z : block ≡ 0 → ⊥ = eqb-false block 0 (or_left (eqb block 0) _ h) in
        let p = all-passed block 0 rs (or-rest (eqb block 0) _ h) in
        record { block_size = omega arith; each = p.each; pairs = p.pairs }

    said : Committable block rs → (eqb block 0 || any_unfit block 0 rs) ≡ false
    said c = rw (ne_eqb block 0 (λ z. omega (arith, c.block_size))) (none-unfit block 0 rs (record { each = c.each; after = from_zero rs; pairs = c.pairs }))

-- ---- 10036, test by test
module _ (s : List ℕ) where
  pub short : length s < 4 → true ≡ malformed s
  unfolding malformed
  short h = rw (lt-ltb (length s) 4 h)

  module _ (h₁ : 4 ≤ length s) where
    pub many : 1024 < be_nat 4 s → true ≡ malformed s
    unfolding malformed
    many h = rw (le-ltb (length s) 4 h₁, lt-ltb 1024 (be_nat 4 s) h)

    pub inexact : be_nat 4 s ≤ 1024 → not (eqb (length s) (4 + 16 * be_nat 4 s)) ≡ malformed s
    unfolding malformed
    inexact h = rw (le-ltb (length s) 4 h₁, le-ltb 1024 (be_nat 4 s) h)

  pub well-formed : malformed s ≡ false → (be_nat 4 s ≤ 1024) × (length s ≡ 4 + 16 * be_nat 4 s)
  unfolding malformed
  well-formed h =
      let h₁ = or-rest (ltb (length s) 4) _ h in
      let h₂ = or-rest (ltb 1024 (be_nat 4 s)) _ h₁ in
      (ltb-false 1024 (be_nat 4 s) (or_left (ltb 1024 (be_nat 4 s)) _ h₁), exact (eqb (length s) (4 + 16 * be_nat 4 s)) refl h₂)
    where
      exact : (t : Bool) → eqb (length s) (4 + 16 * be_nat 4 s) ≡ t → not t ≡ false → length s ≡ 4 + 16 * be_nat 4 s
      exact true q g = eqb-true (length s) (4 + 16 * be_nat 4 s) q
      exact false q g = absurd (true≢false g)
