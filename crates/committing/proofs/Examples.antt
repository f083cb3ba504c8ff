-- Ticket 10 on small lists, computed. In this order: a committed part of a copy-on-write pair, whose read extent keeps its bytes on either side; a committed part that
-- follows a read-write extent; no range, which merges; 10034's test under read and under a hole; 22's test on ranges that touch, overlap or are not aligned.
use Prim.Native.Nat.{ℕ}
use mathlib.Core.Path.{◌≡◌, refl}
use mathlib.Core.List.{[], ◌∷◌}
use mathlib.Core.Bool.{true, false}
use lib.ListN.{replicate}
use Rattle.xdr.specs.Reader.{same_bytes}
use Rattle.extents.specs.Extents.{any_of}
use Rattle.extents.specs.declared.Extent.{Extent}
use Rattle.merging.specs.Merged.{plain, follows, place, joined}
use Rattle.committing.specs.Ranges.{Range, unfit, any_unfit, uncommittable}
use Rattle.committing.specs.Commit.{is_committed, between, sweep_from, sweep, cut_at, range_cuts, all_cuts, committed}
use Rattle.places.specs.Lists.{chosen}
use Rattle.committing.specs.Bare.{bare_from, bare_over, is_bare}

-- an extent of one device: its state, offset, length, storage offset; and a range
abbrev extent : ℕ → ℕ → ℕ → ℕ → Extent
extent st off len sto = record { device = replicate 16 7; offset = off; len = len; storage = sto; state = st }

abbrev range : ℕ → ℕ → Range
range off len = record { offset = off; len = len }

pub copy-on-write : committed (range 4 4 ∷ []) (extent 1 0 12 100 ∷ extent 2 0 12 500 ∷ []) ≡ extent 1 0 4 100 ∷ extent 2 0 4 500 ∷ extent 0 4 4 504 ∷ extent 1 8 4 108 ∷ extent 2 8 4 508 ∷ []
unfolding same_bytes plain follows place joined any_of is_committed chosen between sweep_from sweep cut_at range_cuts all_cuts
copy-on-write = refl

pub follows-written : committed (range 0 2 ∷ range 2 4 ∷ []) (extent 0 0 4 100 ∷ extent 2 4 4 104 ∷ []) ≡ extent 0 0 6 100 ∷ extent 2 6 2 106 ∷ []
unfolding same_bytes plain follows place joined any_of is_committed chosen between sweep_from sweep cut_at range_cuts all_cuts
follows-written = refl

pub no-range : committed [] (extent 1 0 4 100 ∷ extent 2 2 2 500 ∷ extent 1 4 4 104 ∷ []) ≡ extent 1 0 8 100 ∷ extent 2 2 2 500 ∷ []
unfolding same_bytes plain follows place joined any_of is_committed chosen between sweep_from sweep cut_at range_cuts all_cuts
no-range = refl

pub under-read : is_bare (range 0 4 ∷ []) (extent 1 0 4 100 ∷ extent 2 0 2 500 ∷ []) ≡ true
unfolding any_of is_committed cut_at range_cuts all_cuts bare_from bare_over
under-read = refl

pub under-hole : is_bare (range 0 4 ∷ []) (extent 2 0 2 500 ∷ extent 3 2 2 0 ∷ []) ≡ true
unfolding any_of is_committed cut_at range_cuts all_cuts bare_from bare_over
under-hole = refl

pub touching : uncommittable 4 (range 0 4 ∷ range 4 8 ∷ []) ≡ false
unfolding unfit any_unfit
touching = refl

pub overlapping : uncommittable 1 (range 0 4 ∷ range 3 4 ∷ []) ≡ true
unfolding unfit any_unfit
overlapping = refl

pub half-a-block : uncommittable 4 (range 0 6 ∷ []) ≡ true
unfolding unfit any_unfit
half-a-block = refl
