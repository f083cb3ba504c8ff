-- DEFINITION. The commit list of source document 001, section 2.4.2 (Rules 2.16), and the ranges that may be committed (Rules 2.20). In this order: a range, and
-- its bytes of the file; the ranges of a list's bytes; 10036; 22 as the sentence that it is, over all pairs of ranges; the same as a test, range by range;
-- the claim that the two are equal.
use Rattle.std.specs.Prelude.{ℕ, ◌+◌, ◌-◌, ◌*◌, ◌%◌, ◌^◌, ◌<◌, ◌≤◌, ◌≡◌, List, [], ◌∷◌, ◌↔◌, Bool, false, not, ◌||◌, ltb, eqb, length, drop}
use Rattle.xdr.specs.Be.{be_nat}
use Rattle.extents.specs.Extents.{list_from}
use Rattle.merging.specs.Meaning.{Some, All}

pub record Range : Type 0 where
  pub offset : ℕ
  pub len : ℕ

-- the byte x of the file lies in the range, and in one of them
pub record Within (x : ℕ) (r : Range) : Type 0 where
  pub from : r.offset ≤ x
  pub below : x < r.offset + r.len

abbrev pub Committed : List Range → ℕ → Type 0
Committed rs x = Some (Within x) rs

-- a 4-byte count n, then n ranges: offset and length, 8 bytes each
abbrev pub range_at : List ℕ → ℕ → Range
range_at s k = record { offset = be_nat 8 (drop (4 + 16 * k) s); len = be_nat 8 (drop (4 + 16 * k + 8) s) }

abbrev pub ranges_of : List ℕ → List Range
ranges_of s = list_from (range_at s) (be_nat 4 s) 0

-- 10036: short of 4 bytes, more than 1,024 ranges, or not just n ranges
unfoldable pub malformed : List ℕ → Bool
malformed s = ltb (length s) 4 || (ltb 1024 (be_nat 4 s) || not (eqb (length s) (4 + 16 * be_nat 4 s)))

-- a range by itself: it has bytes, ends at 2^64 - 1 or before, and its offset and length are multiples of the block size
pub record Aligned (block : ℕ) (r : Range) : Type 0 where
  pub some : 0 < r.len
  pub in-file : r.offset + r.len ≤ 2 ^ 64 - 1
  pub offset-whole : r.offset % block ≡ 0
  pub length_whole : r.len % block ≡ 0

-- an earlier and a later range: sorted by their offsets, and no byte lies in both, so ranges that touch are disjoint
pub record InOrder (a b : Range) : Type 0 where
  pub sorted : a.offset ≤ b.offset
  pub disjoint : (x : ℕ) → Within x a → Within x b → ⊥

-- of every pair of a list: the one that stands earlier, and the one that stands later
abbrev pub AllPairs : (Range → Range → Type 0) → List Range → Type 0
AllPairs P [] = Unit {0}
AllPairs P (r ∷ rs) = All (P r) rs × AllPairs P rs

-- what may be committed; anything else gets 22
pub record Committable (block : ℕ) (rs : List Range) : Type 0 where
  pub block_size : 0 < block
  pub each : All (Aligned block) rs
  pub pairs : AllPairs InOrder rs

-- the same as a test: one range, where those before it end
unfoldable pub unfit : ℕ → ℕ → Range → Bool
unfit block before r =
    eqb r.len 0
    || (ltb (2 ^ 64 - 1) (r.offset + r.len)
    || (not (eqb (r.offset % block) 0)
    || (not (eqb (r.len % block) 0)
    || ltb r.offset before)))

-- range by range
unfoldable pub any_unfit : ℕ → ℕ → List Range → Bool
any_unfit block before [] = false
any_unfit block before (r ∷ rs) = unfit block before r || any_unfit block (r.offset + r.len) rs

abbrev pub uncommittable : ℕ → List Range → Bool
uncommittable block rs = eqb block 0 || any_unfit block 0 rs

-- the test lets pass just what may be committed
abbrev pub CommittableTold : Type 0
CommittableTold = (block : ℕ) (rs : List Range) → (uncommittable block rs ≡ false) ↔ Committable block rs
