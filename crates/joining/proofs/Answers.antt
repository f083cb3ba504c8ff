-- The answers of merging a list that is lent as columns. In this order: rule 1; rule 2; what the first pass gives; 28 and 8; what an accepted list came to.
use Rattle.std.proofs.Common.{◌≡◌, ℕ, ◌+◌, ◌*◌, ◌<◌, ◌≤◌, true, false, List, [], length, refl, ap, ◌∙◌, arith, le-ltb, lt-ltb}
use Rattle.extents.specs.Extents.{list_from, verdict}
use Rattle.extents.specs.declared.Extent.{Extent}
use Rattle.extents.specs.Verdict.{Verdict, Accepted, Refused}
use Rattle.extents.proofs.Turns.{accepted-count}
use Rattle.layouts.specs.declared.kinds.Kind.TheVariants.{Scsi}
use Rattle.layouts.specs.Columns.{even, roomy}
use Rattle.layouts.proofs.Placed.{scsi-size}
use Rattle.merging.specs.Merged.{merged}
use Rattle.joining.specs.Merge.{columns_of, column_list, comes_to, few_enough, merge_columns}

module _ (devs offs lens stos sts : List ℕ) (room : ℕ) where
  pub uneven : even Scsi (columns_of devs offs lens stos sts) ≡ false → Refused 1 0 ≡ merge_columns devs offs lens stos sts room
  unfolding merge_columns
  uneven h = rw h

  module _ (h : even Scsi (columns_of devs offs lens stos sts) ≡ true) where
    pub too_many : 4096 < length offs → Refused 2 0 ≡ merge_columns devs offs lens stos sts room
    unfolding merge_columns
    too_many g = rw (h, lt-ltb 4096 (length offs) g)

    pub judged : length offs ≤ 4096 → (v : Verdict) → v ≡ comes_to (verdict [] 0 (column_list devs offs lens stos sts)) (length (merged (column_list devs offs lens stos sts)))
        → roomy Scsi (few_enough v) room ≡ merge_columns devs offs lens stos sts room
    unfolding merge_columns
    judged g v e = rw (h, le-ltb 4096 (length offs) g, e)

module _ (k room : ℕ) where
  pub too_long : 1024 < k → Refused 28 0 ≡ roomy Scsi (few_enough (Accepted k)) room
  too_long h = rw (lt-ltb 1024 k h)

  pub no_room : k ≤ 1024 → room < 4 + 44 * k → Refused 8 0 ≡ roomy Scsi (few_enough (Accepted k)) room
  no_room h g = rw (le-ltb 1024 k h, scsi-size k, lt-ltb room (4 + 44 * k) g)

  pub room_for : k ≤ 1024 → 4 + 44 * k ≤ room → Accepted k ≡ roomy Scsi (few_enough (Accepted k)) room
  room_for h g = rw (le-ltb 1024 k h, scsi-size k, le-ltb room (4 + 44 * k) g)

-- an accepted list has passed the rules, and has come to what the answer says
pub came-to : (f : ℕ → Extent) (n k m : ℕ) → Accepted k ≡ comes_to (verdict [] 0 (list_from f n 0)) m → (k ≡ m) × (verdict [] 0 (list_from f n 0) ≡ Accepted n)
came-to f n k m h = by (verdict [] 0 (list_from f n 0)) refl h
  where
    by : (v : Verdict) → verdict [] 0 (list_from f n 0) ≡ v → Accepted k ≡ comes_to v m → (k ≡ m) × (verdict [] 0 (list_from f n 0) ≡ Accepted n)
    by (Accepted j) q g =
        let e : k ≡ m = cc in
        (e, q ∙ ap Accepted (accepted-count f n j q))
    by (Refused a i) q g =
        let z : ◌≡◌ {A = ℕ} 0 1 = cc in
        absurd (omega arith)
