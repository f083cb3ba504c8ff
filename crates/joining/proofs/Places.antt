-- Lists of extents by their places. In this order: what holds at each place; the run that a piece lengthens, by its place; extents of one state; the run of a
-- state among the open ones.
use Rattle.std.proofs.Common.{◌≡◌, ℕ, zero, suc, ◌+◌, ◌<◌, ◌≤◌, true, false, List, [], ◌∷◌, length, get_or, set, Some, None, arith, get_or-set_other, get_or-set_same}
use Rattle.extents.specs.declared.Extent.{Extent}
use Rattle.layouts.specs.Layout.{no_extent}
use Rattle.merging.specs.Meaning.{All}
use Rattle.merging.specs.Merged.{follows, grown, place}
use Rattle.merging.proofs.Rules.{Before, apart, read_first, invalid-first, Valid}
use Rattle.joining.specs.Joiner.{latest_at, opening}
use Rattle.joining.specs.declared.joiner.Runs.{Runs}
use Rattle.joining.specs.declared.joiner.Run.{Run}

-- ---- lists by place
abbrev pub at : List Extent → ℕ → Extent
at runs j = get_or runs j no_extent

pub all-at : (P : Extent → Type 0) (runs : List Extent) → All P runs → (j : ℕ) → j < length runs → P (at runs j)
all-at P [] h j l = absurd (omega arith)
all-at P (a ∷ runs) h zero l = h.0
all-at P (a ∷ runs) h (suc j) l = all-at P runs h.1 j (omega arith)

pub at_all : (P : Extent → Type 0) (runs : List Extent) → ((j : ℕ) → j < length runs → P (at runs j)) → All P runs
at_all P [] h = tt
at_all P (a ∷ runs) h = (h 0 (omega arith), at_all P runs (λ j l. h (suc j) (omega arith)))

pub valid-at : (runs : List Extent) → Valid runs → (j k : ℕ) → j < k → k < length runs → Before (at runs j) (at runs k)
valid-at [] v j k l m = absurd (omega arith)
valid-at (a ∷ runs) v j zero l m = absurd (omega arith)
valid-at (a ∷ runs) v zero (suc k) l m = all-at (Before a) runs v.1 k (omega arith)
valid-at (a ∷ runs) v (suc j) (suc k) l m = valid-at runs v.2 j k (omega arith) (omega arith)

pub place_at : (e : Extent) (runs : List Extent) (s : ℕ) → s < length runs → ((j : ℕ) → j < s → follows (at runs j) e ≡ false) → follows (at runs s) e ≡ true
    → place e runs ≡ set runs s (grown (at runs s) e)
unfolding place
place_at e [] s l n f = absurd (omega arith)
place_at e (a ∷ runs) zero l n f = rw f
place_at e (a ∷ runs) (suc s) l n f = rw (n 0 (omega arith), place_at e runs s (omega arith) (λ j h. n (suc j) (omega arith)) f)

-- of one state: the earlier ends before the later begins
pub one_state : (a e : Extent) → a.state ≡ e.state → Before a e → a.offset + a.len ≤ e.offset
one_state a e k (apart h) = h
one_state a e k (read_first p q h) = absurd (omega arith)
one_state a e k (invalid-first p q h) = absurd (omega arith)

-- ---- the run of a state among the open ones
pub same-run : (r : Runs) (n k : ℕ) (o : Run) → length r.latest ≡ 4 → k < 4 → latest_at (opening r n k o) k ≡ Some o
same-run r n k o h l = get_or-set_same r.latest k (Some o) None (omega arith)

pub other-run : (r : Runs) (n k j : ℕ) (o : Run) → (j ≡ k → ⊥) → latest_at (opening r n k o) j ≡ latest_at r j
other-run r n k j o h = get_or-set_other r.latest k j (Some o) None h
