-- One extent in its place. In this order: a store before others; the bytes of a SCSI extent; what a store in a place gives.
use Prim.Native.Nat.{ℕ, suc, ◌+◌, ◌*◌, ◌/◌, ◌<◌, ◌≤◌}
use mathlib.Core.Path.{◌≡◌, refl, sym, ap, ◌∙◌}
use mathlib.Core.List.{[], ◌∷◌, ◌++◌}
use mathlib.Core.Bool.{Bool, true, false, cond, ◌&&◌}
use native.Mathlib.Omega.{arith}
use borrow.Author.Tests.{lt-ltb, le-ltb}
use lib.Dec.{ltb}
use lib.ListN.{length, take, drop, set}
use lib.Seq.{sets, set_comm, length-sets}
use Rattle.statuses.specs.Names.{Bytes}
use Rattle.xdr.specs.Be.{be_bytes}
use Rattle.extents.specs.declared.Extent.{Extent}
use Rattle.layouts.specs.declared.kinds.Kind.TheVariants.{Scsi}
use Rattle.extents.specs.declared.Numbers.{Numbers}
use Rattle.layouts.specs.Layout.{handle_size, body_size, held_in, row_bytes}
use Rattle.layouts.specs.Placing.{scsi, placed, extent_put, length_put}
use Rattle.layouts.proofs.Sizes.{held-there}

-- ---- a store before others
pub set_before : (l : Bytes) (p q : ℕ) (x : Bytes) (y : ℕ) → p < q → set (sets l q x) p y ≡ sets (set l p y) q x
set_before l p q [] y h = refl
set_before l p q (a ∷ x) y h = set_before (set l q a) p (suc q) x y (omega arith) ∙ ap (λ (m : Bytes). sets m (suc q) x) (set_comm l q p a y (λ e. omega arith))

-- ---- the bytes of a SCSI extent
pub scsi-bytes : (e : Extent) → row_bytes Scsi (scsi e) ≡ e.device ++ (be_bytes 8 e.offset ++ (be_bytes 8 e.len ++ (be_bytes 8 e.storage ++ be_bytes 4 e.state)))
unfolding row_bytes handle_size be_bytes
scsi-bytes e = refl

pub scsi-size : (n : ℕ) → body_size Scsi n ≡ 4 + 44 * n
unfolding body_size handle_size
scsi-size n = refl

-- ---- a store in a place
module _ (d : Bytes) (i : ℕ) (devices : Bytes) (row : ℕ) (n : Numbers) (bare : Bool) where
  pub no_place : held_in Scsi d ≤ i → d ≡ extent_put d i devices row n bare
  unfolding extent_put
  no_place h = rw (le-ltb i (held_in Scsi d) h)

  module _ (h : i < held_in Scsi d) where
    pub no_row : length devices / 16 ≤ row → d ≡ extent_put d i devices row n bare
    unfolding extent_put
    no_row g = rw (lt-ltb i (held_in Scsi d) h, le-ltb row (length devices / 16) g)

    pub extent-put : row < length devices / 16 → sets d (body_size Scsi i) (row_bytes Scsi (scsi (placed (take 16 (drop (16 * row) devices)) n bare))) ≡ extent_put d i devices row n bare
    unfolding extent_put
    extent-put g = rw (lt-ltb i (held_in Scsi d) h, lt-ltb row (length devices / 16) g)

module _ (d : Bytes) (i len : ℕ) where
  pub no_length : held_in Scsi d ≤ i → d ≡ length_put d i len
  unfolding length_put
  no_length h = rw (le-ltb i (held_in Scsi d) h)

  pub length-put : i < held_in Scsi d → sets d (body_size Scsi i + 24) (be_bytes 8 len) ≡ length_put d i len
  unfolding length_put
  length-put h = rw (lt-ltb i (held_in Scsi d) h)

-- where there is room
pub roomy-extent : (d : Bytes) (i : ℕ) (devices : Bytes) (row : ℕ) (n : Numbers) (bare : Bool) → 4 + 44 * i + 44 ≤ length d → 16 * row + 16 ≤ length devices
    → extent_put d i devices row n bare ≡ sets d (4 + 44 * i) (row_bytes Scsi (scsi (placed (take 16 (drop (16 * row) devices)) n bare)))
unfolding handle_size
roomy-extent d i devices row n bare h g =
    sym (extent-put d i devices row n bare (held-there Scsi d i (rw (scsi-size i) h)) (omega arith))
    ∙ ap (λ (at : ℕ). sets d at (row_bytes Scsi (scsi (placed (take 16 (drop (16 * row) devices)) n bare)))) (scsi-size i)

pub roomy-length : (d : Bytes) (i len : ℕ) → 4 + 44 * i + 44 ≤ length d → length_put d i len ≡ sets d (4 + 44 * i + 24) (be_bytes 8 len)
unfolding handle_size
roomy-length d i len h =
    sym (length-put d i len (held-there Scsi d i (rw (scsi-size i) h))) ∙ ap (λ (at : ℕ). sets d (at + 24) (be_bytes 8 len)) (scsi-size i)

-- the lent bytes stay as many
stored-length : (t : Bool) (d x : Bytes) (at : ℕ) → length (cond t (sets d at x) d) ≡ length d
stored-length true d x at = length-sets d at x
stored-length false d x at = refl

pub length-extent-put : (d : Bytes) (i : ℕ) (devices : Bytes) (row : ℕ) (n : Numbers) (bare : Bool) → length (extent_put d i devices row n bare) ≡ length d
unfolding extent_put
length-extent-put d i devices row n bare =
    stored-length (ltb i (held_in Scsi d) && ltb row (length devices / 16)) d (row_bytes Scsi (scsi (placed (take 16 (drop (16 * row) devices)) n bare))) (body_size Scsi i)

pub length-length-put : (d : Bytes) (i len : ℕ) → length (length_put d i len) ≡ length d
unfolding length_put
length-length-put d i len = stored-length (ltb i (held_in Scsi d)) d (be_bytes 8 len) (body_size Scsi i + 24)
