-- Stores into the bytes of a list of extents. In this order: a store inside a run of stores; a store inside a list; the length of an extent in its place;
-- one more extent.
use Rattle.std.proofs.Common.{◌≡◌, ℕ, zero, suc, ◌+◌, ◌*◌, ◌<◌, ◌≤◌, List, [], ◌∷◌, ◌++◌, map, length, set, sym, refl, ap, ◌∙◌, append_assoc, arith, length-append, drop_at, set-set}
use lib.Seq.{sets, sets-eq}
use Rattle.xdr.specs.Be.{be_bytes}
use Rattle.xdr.proofs.Be.{length-bytes}
use Rattle.extents.specs.declared.Extent.{Extent}
use Rattle.layouts.specs.declared.kinds.Kind.TheVariants.{Scsi}
use Rattle.layouts.specs.Layout.{Row, handle_size, row_bytes, rows_bytes}
use Rattle.layouts.specs.Placing.{scsi}
use Rattle.layouts.proofs.Stores.{sets_then, length-row, bytes-more}
use Rattle.layouts.proofs.Placed.{set_before, scsi-bytes}
use Rattle.joining.specs.Joiner.{bytes_of}
use Rattle.merging.specs.Meaning.{All}
use Rattle.joining.proofs.Places.{at}

-- ---- a store inside a run of stores
set-inside : (d : List ℕ) (p q : ℕ) (x : List ℕ) (y : ℕ) → q < length x → set (sets d p x) (p + q) y ≡ sets d p (set x q y)
set-inside d p q [] y h = absurd (omega arith)
set-inside d p zero (a ∷ x) y h =
    let z : p + 0 ≡ p = omega arith in
    rw z (set_before (set d p a) p (suc p) x y (omega arith) ∙ ap (λ (m : List ℕ). sets m (suc p) x) (set-set d p a y))
set-inside d p (suc q) (a ∷ x) y h =
    let z : p + suc q ≡ suc p + q = omega arith in
    rw z (set-inside (set d p a) (suc p) q x y (omega arith))

length-set-at : (x : List ℕ) (q y : ℕ) → length (set x q y) ≡ length x
length-set-at [] q y = refl
length-set-at (a ∷ x) zero y = refl
length-set-at (a ∷ x) (suc q) y = ap suc (length-set-at x q y)

sets-inside : (d : List ℕ) (p q : ℕ) (x y : List ℕ) → q + length y ≤ length x → sets (sets d p x) (p + q) y ≡ sets d p (sets x q y)
sets-inside d p q x [] h = refl
sets-inside d p q x (b ∷ y) h =
    let z : suc (p + q) ≡ p + suc q = omega arith in
    rw (set-inside d p q x b (omega arith), z) (sets-inside d p (suc q) (set x q b) y (omega (arith, length-set-at x q b)))

-- ---- a store inside a list
set_past : (p z : List ℕ) (q y : ℕ) → set (p ++ z) (length p + q) y ≡ p ++ set z q y
set_past [] z q y =
    let e : 0 + q ≡ q = omega arith in
    rw e
set_past (a ∷ p) z q y =
    let e : suc (length p) + q ≡ suc (length p + q) = omega arith in
    rw e (ap (λ (m : List ℕ). a ∷ m) (set_past p z q y))

sets-past : (p z : List ℕ) (q : ℕ) (y : List ℕ) → sets (p ++ z) (length p + q) y ≡ p ++ sets z q y
sets-past p z q [] = refl
sets-past p z q (b ∷ y) =
    let e : suc (length p + q) ≡ length p + suc q = omega arith in
    rw (set_past p z q b, e) (sets-past p (set z q b) (suc q) y)

sets-front : (x z y : List ℕ) → length x ≡ length y → sets (x ++ z) 0 y ≡ y ++ z
sets-front x z y h =
    let e : 0 + length y ≡ length x = omega arith in
    sets-eq y (x ++ z) 0 (omega (arith, length-append x z)) ∙ ap (λ (m : List ℕ). y ++ m) (rw e (drop_at x z (length x) refl))

-- ---- the length of an extent in its place
abbrev resized : Extent → ℕ → Extent
resized a l = record { device = a.device; offset = a.offset; len = l; storage = a.storage; state = a.state }

resize-one : (a : Extent) (z : List ℕ) (l : ℕ) → length a.device ≡ 16 → sets (row_bytes Scsi (scsi a) ++ z) 24 (be_bytes 8 l) ≡ row_bytes Scsi (scsi (resized a l)) ++ z
resize-one a z l h =
    let front : List ℕ = a.device ++ be_bytes 8 a.offset in
    let back : List ℕ = be_bytes 8 a.storage ++ be_bytes 4 a.state in
    let n : 24 ≡ length front + 0 = omega (arith, h, length-append a.device (be_bytes 8 a.offset), length-bytes 8 a.offset) in
    rw (scsi-bytes a, scsi-bytes (resized a l))
    (ap (λ (m : List ℕ). sets m 24 (be_bytes 8 l)) (apart (be_bytes 8 a.len))
    ∙ ap (λ (j : ℕ). sets (front ++ (be_bytes 8 a.len ++ (back ++ z))) j (be_bytes 8 l)) n
    ∙ sets-past front (be_bytes 8 a.len ++ (back ++ z)) 0 (be_bytes 8 l)
    ∙ ap (λ (m : List ℕ). front ++ m) (sets-front (be_bytes 8 a.len) (back ++ z) (be_bytes 8 l) (length-bytes 8 a.len ∙ sym (length-bytes 8 l)))
    ∙ sym (apart (be_bytes 8 l)))
  where
    apart : (mid : List ℕ)
        → (a.device ++ (be_bytes 8 a.offset ++ (mid ++ (be_bytes 8 a.storage ++ be_bytes 4 a.state)))) ++ z
        ≡ (a.device ++ be_bytes 8 a.offset) ++ (mid ++ ((be_bytes 8 a.storage ++ be_bytes 4 a.state) ++ z))
    apart mid = simp append_assoc

length-one : (a : Extent) → length a.device ≡ 16 → length (row_bytes Scsi (scsi a)) ≡ 44
unfolding handle_size
length-one a h = length-row Scsi (scsi a) h

resize : (runs : List Extent) (s l : ℕ) → s < length runs → All (λ a. length a.device ≡ 16) runs
    → sets (bytes_of runs) (44 * s + 24) (be_bytes 8 l) ≡ bytes_of (set runs s (resized (at runs s) l))
unfolding rows_bytes
resize [] s l h d = absurd (omega arith)
resize (a ∷ runs) zero l h d = resize-one a (bytes_of runs) l d.0
resize (a ∷ runs) (suc s) l h d =
    let n : 44 * suc s + 24 ≡ length (row_bytes Scsi (scsi a)) + (44 * s + 24) = omega (arith, length-one a d.0) in
    rw n (sets-past (row_bytes Scsi (scsi a)) (bytes_of runs) (44 * s + 24) (be_bytes 8 l) ∙ ap (λ (m : List ℕ). row_bytes Scsi (scsi a) ++ m) (resize runs s l (omega arith) d.1))

length_runs : (runs : List Extent) → All (λ a. length a.device ≡ 16) runs → length (bytes_of runs) ≡ 44 * length runs
unfolding rows_bytes
length_runs [] d = refl
length_runs (a ∷ runs) d = omega (arith, length-append (row_bytes Scsi (scsi a)) (bytes_of runs), length-one a d.0, length_runs runs d.1)

pub store_length : (d : List ℕ) (runs : List Extent) (s l : ℕ) → s < length runs → All (λ a. length a.device ≡ 16) runs
    → sets (sets d 4 (bytes_of runs)) (4 + (44 * s + 24)) (be_bytes 8 l) ≡ sets d 4 (bytes_of (set runs s (resized (at runs s) l)))
store_length d runs s l h v =
    sets-inside d 4 (44 * s + 24) (bytes_of runs) (be_bytes 8 l) (omega (arith, length-bytes 8 l, length_runs runs v)) ∙ ap (sets d 4) (resize runs s l h v)

map_more : (runs : List Extent) (e : Extent) → map scsi (runs ++ (e ∷ [])) ≡ map scsi runs ++ (scsi e ∷ [])
map_more [] e = refl
map_more (a ∷ runs) e = ap (λ (l : List Row). scsi a ∷ l) (map_more runs e)

pub store-run : (d : List ℕ) (runs : List Extent) (e : Extent) → All (λ a. length a.device ≡ 16) runs
    → sets (sets d 4 (bytes_of runs)) (4 + 44 * length runs) (row_bytes Scsi (scsi e)) ≡ sets d 4 (bytes_of (runs ++ (e ∷ [])))
store-run d runs e v =
    sets_then d 4 (44 * length runs) (4 + 44 * length runs) (bytes_of runs) (row_bytes Scsi (scsi e)) (length_runs runs v) refl
    ∙ ap (sets d 4) (sym (ap (rows_bytes Scsi) (map_more runs e) ∙ bytes-more Scsi (map scsi runs) (scsi e)))
