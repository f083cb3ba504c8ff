-- TICKET 9 is proved here: `merging : Merging`. In this order: what the merged list says; that it is valid, unmerged and plain; that such a list stays as it is; the claim.
use mathlib.Core.Path.{◌≡◌}
use mathlib.Core.List.{List, [], map}
use mathlib.Core.Logic.{◌⊎◌, inl, inr}
use lib.ListN.{length}
use Rattle.extents.specs.declared.Extent.{Extent}
use Rattle.merging.specs.Meaning.{Says, SameMeaning}
use Rattle.merging.specs.Merged.{plain, merged}
use Rattle.merging.specs.Merging.{Merging}
use Rattle.merging.proofs.Rules.{all_map, Valid, sounds, passes-valid, valid-passes}
use Rattle.merging.proofs.Runs.{plain-valid, all_plain, plain-says, plain-all, joined_says, Canonical, joined-canonical, joined-settled}
use Rattle.merging.proofs.Shortest.{shortest}

pub merged-says : (es : List Extent) → SameMeaning es (merged es)
merged-says es x m = (λ s. (joined_says x m [] (map plain es)).1 (inl ((plain-says x m es).0 s)), λ s. (plain-says x m es).1 (only ((joined_says x m [] (map plain es)).0 s)))
  where
    only : Says (map plain es) x m ⊎ Says [] x m → Says (map plain es) x m
    only (inr x) = elim x [ ]
    only (inl s) = s

pub merged-canonical : (es : List Extent) → Valid es → Canonical (merged es)
merged-canonical es v =
    joined-canonical [] (map plain es) (record { valid = tt; unmerged = tt; plains = tt }) (plain-valid es v) (all_plain es) (all_map (λ e s. tt) (map plain es) (sounds (map plain es) (plain-valid es v)))

pub settled : (es : List Extent) → Canonical es → merged es ≡ es
settled es k = rw (plain-all es k.plains) (joined-settled [] es k.unmerged (all_map (λ e s. tt) es (sounds es k.valid)))

pub merging : Merging
merging es h =
    let k = merged-canonical es (passes-valid es (length es) h) in
    record {
      keeps = merged-says es;
      passes = valid-passes (merged es) k.valid;
      shortest = λ fs p same. shortest (merged es) fs k.valid k.unmerged same;
      settled = settled (merged es) k;
    }
