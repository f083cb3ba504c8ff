-- DEFINITION. The list after a LAYOUTCOMMIT (Rules 2.17, 2.18). In this order: tests of a byte; the part of an extent between two cuts; what is left of the list
-- between two cuts; every cut; the list after the commit, which is merged as in Ticket 9. That each byte has the meaning that the ticket asks for is
-- `Committing`.
use Rattle.std.specs.Prelude.{ℕ, ◌+◌, ◌-◌, List, [], ◌∷◌, ◌++◌, map, Bool, false, cond, not, ◌&&◌, ◌||◌, leb, ltb, eqb}
use Rattle.extents.specs.Extents.{any_of}
use Rattle.extents.specs.declared.Extent.{Extent}
use Rattle.merging.specs.Merged.{merged}
use Rattle.places.specs.Lists.{chosen}
use Rattle.committing.specs.Ranges.{Range}

-- the byte x lies in the range, and in one of them
abbrev pub in_range : ℕ → Range → Bool
in_range x r = leb r.offset x && ltb x (r.offset + r.len)

unfoldable pub is_committed : List Range → ℕ → Bool
is_committed [] x = false
is_committed (r ∷ rs) x = in_range x r || is_committed rs x

-- the extent lies over the byte x; it is invalid, or it is not
abbrev pub lies : ℕ → Extent → Bool
lies x e = leb e.offset x && ltb x (e.offset + e.len)

abbrev pub invalid_at : ℕ → Extent → Bool
invalid_at x e = eqb e.state 2 && lies x e

abbrev pub other_at : ℕ → Extent → Bool
other_at x e = not (eqb e.state 2) && lies x e

-- the part of an extent from a up to b, in this state, at its own storage
abbrev pub part_as : ℕ → ℕ → ℕ → Extent → Extent
part_as st a b e = record { device = e.device; offset = a; len = b - a; storage = e.storage + (a - e.offset); state = st }

abbrev pub part : ℕ → ℕ → Extent → Extent
part a b e = part_as e.state a b e

abbrev pub written_part : ℕ → ℕ → Extent → Extent
written_part a b e = part_as 0 a b e

-- from a up to b, between which nothing begins or ends: committed and invalid is read-write, and nothing else; all other bytes stay, read before invalid
unfoldable pub between : List Range → List Extent → ℕ → ℕ → List Extent
between rs es a b =
    cond (is_committed rs a && any_of (invalid_at a) es)
    (map (written_part a b) (chosen (invalid_at a) es))
    (map (part a b) (chosen (other_at a) es) ++ map (part a b) (chosen (invalid_at a) es))

unfoldable pub sweep_from : List Range → List Extent → ℕ → List ℕ → List Extent
sweep_from rs es a [] = []
sweep_from rs es a (b ∷ cuts) = between rs es a b ++ sweep_from rs es b cuts

unfoldable pub sweep : List Range → List Extent → List ℕ → List Extent
sweep rs es [] = []
sweep rs es (a ∷ cuts) = sweep_from rs es a cuts

-- where something begins or ends, in rising order, each place once
unfoldable pub cut_at : ℕ → List ℕ → List ℕ
cut_at n [] = n ∷ []
cut_at n (c ∷ cuts) = cond (ltb n c) (n ∷ c ∷ cuts) (cond (eqb n c) (c ∷ cuts) (c ∷ cut_at n cuts))

unfoldable pub range_cuts : List Range → List ℕ
range_cuts [] = []
range_cuts (r ∷ rs) = cut_at r.offset (cut_at (r.offset + r.len) (range_cuts rs))

unfoldable pub all_cuts : List Range → List Extent → List ℕ
all_cuts rs [] = range_cuts rs
all_cuts rs (e ∷ es) = cut_at e.offset (cut_at (e.offset + e.len) (all_cuts rs es))

abbrev pub committed : List Range → List Extent → List Extent
committed rs es = merged (sweep rs es (all_cuts rs es))
