-- The stores of one extent, and of all.
use Prim.Native.Nat.{ℕ, zero, suc, ◌+◌, ◌*◌, ◌<◌, ◌≤◌}
use mathlib.Core.Path.{◌≡◌, refl, sym, ◌∙◌}
use mathlib.Core.List.{List, [], ◌∷◌, ◌++◌, append_assoc, append-nil}
use native.Mathlib.Omega.{arith}
use native.Mathlib.Numerals.{add-one}
use lib.ListN.{length, take, drop, length-append, length-drop}
use lib.Seq.{sets, length-take-le}
use Rattle.xdr.specs.Be.{be_bytes}
use Rattle.xdr.proofs.Be.{sets-append, length-bytes}
use Rattle.extents.specs.Extents.{list_from}
use Rattle.extents.proofs.Turns.{one_more}
use Rattle.layouts.specs.declared.kinds.Kind.{Kind}
use Rattle.extents.specs.declared.Numbers.{Numbers}
use Rattle.statuses.specs.Names.{Bytes}
use Rattle.layouts.specs.Layout.{Row, handle_size, extent_size, body_size, numbers_of, numbers_bytes, row_bytes, rows_bytes}
use Rattle.layouts.proofs.Sizes.{span, size-span, span_none, span_more}

-- a run of stores, and then another right after it
pub sets_then : (l : Bytes) (i n j : ℕ) (a b : Bytes) → length a ≡ n → i + n ≡ j → sets (sets l i a) j b ≡ sets l i (a ++ b)
sets_then l i n j a b h e =
    let p : i + length a ≡ j = omega arith in
    rw (sets-append l i a b, p)

-- five numbers, the handle in as many bytes as its kind gives it
pub five-numbers : (k : Kind) (d : Bytes) (at rest : ℕ) → rest ≡ at + handle_size k → (n : Numbers) (handle : ℕ)
    → sets (sets (sets (sets (sets d at (be_bytes 8 n.offset)) (at + 8) (be_bytes (handle_size k) handle)) (rest + 8) (be_bytes 8 n.len)) (rest + 16) (be_bytes 8 n.storage)) (rest + 24) (be_bytes 4 n.state)
    ≡ sets d at (numbers_bytes k n handle)
five-numbers k d at rest e n handle =
    let d1 : Bytes = sets d at (be_bytes 8 n.offset) in
    let d2 : Bytes = sets d1 (at + 8) (be_bytes (handle_size k) handle) in
    let d3 : Bytes = sets d2 (rest + 8) (be_bytes 8 n.len) in
    let t2 : Bytes = be_bytes 8 n.storage ++ be_bytes 4 n.state in
    let t3 : Bytes = be_bytes 8 n.len ++ t2 in
    sets_then d3 (rest + 16) 8 (rest + 24) (be_bytes 8 n.storage) (be_bytes 4 n.state) (length-bytes 8 n.storage) (omega arith)
    ∙ sets_then d2 (rest + 8) 8 (rest + 16) (be_bytes 8 n.len) t2 (length-bytes 8 n.len) (omega arith)
    ∙ sets_then d1 (at + 8) (handle_size k) (rest + 8) (be_bytes (handle_size k) handle) t3 (length-bytes (handle_size k) handle) (omega arith)
    ∙ sets_then d at 8 (at + 8) (be_bytes 8 n.offset) (be_bytes (handle_size k) handle ++ t3) (length-bytes 8 n.offset) refl

-- an extent is its device and then its numbers
pub device-numbers : (k : Kind) (d : Bytes) (at : ℕ) (r : Row) → length r.extent.device ≡ 16
    → sets (sets d at r.extent.device) (at + 16) (numbers_bytes k (numbers_of r.extent) r.handle) ≡ sets d at (row_bytes k r)
unfolding row_bytes
device-numbers k d at r h = sets_then d at 16 (at + 16) r.extent.device _ h refl

-- ---- the stores of a list

pub length-row : (k : Kind) (r : Row) → length r.extent.device ≡ 16 → length (row_bytes k r) ≡ extent_size k
unfolding row_bytes
length-row k r h = simp (length-append, length-bytes, h) (omega arith)

pub bytes-more : (k : Kind) (l : List Row) (r : Row) → rows_bytes k (l ++ (r ∷ [])) ≡ rows_bytes k l ++ row_bytes k r
unfolding rows_bytes
bytes-more k [] r = append-nil (row_bytes k r)
bytes-more k (a ∷ l) r = rw (bytes-more k l r, append_assoc)

pub length-list : (k : Kind) (f : ℕ → Row) (n i : ℕ) → ((j : ℕ) → j < i + n → length (f j).extent.device ≡ 16) → length (rows_bytes k (list_from f n i)) ≡ span k n
unfolding list_from rows_bytes
length-list k f zero i h = sym (span_none k)
length-list k f (suc n) i h =
    let one : length (row_bytes k (f i)) ≡ extent_size k = length-row k (f i) (h i (omega arith)) in
    let more : length (rows_bytes k (list_from f n (i + 1))) ≡ span k n = length-list k f n (i + 1) (λ j g. h j (omega arith)) in
    rw length-append (omega (arith, span_more k n))

-- one more extent stored
pub next_row : (k : Kind) (f : ℕ → Row) (i n at : ℕ) → at ≡ body_size k i → i < n → ((j : ℕ) → j < n → length (f j).extent.device ≡ 16) → (d : Bytes)
    → sets (sets d 4 (rows_bytes k (list_from f i 0))) at (row_bytes k (f i)) ≡ sets d 4 (rows_bytes k (list_from f (i + 1) 0))
next_row k f i n at e below h d =
    let len : length (rows_bytes k (list_from f i 0)) ≡ span k i = length-list k f i 0 (λ j g. h j (omega arith)) in
    let z : 0 + i ≡ i = omega arith in
    sets_then d 4 (span k i) at (rows_bytes k (list_from f i 0)) (row_bytes k (f i)) len (sym (e ∙ size-span k i))
    ∙ rw (add-one, one_more f i 0, z, bytes-more k (list_from f i 0) (f i))

-- the device of a place has 16 bytes
pub row-device : (devices : Bytes) (n : ℕ) → length devices ≡ 16 * n → (j : ℕ) → j < n → length (take 16 (drop (16 * j) devices)) ≡ 16
row-device devices n h j g = length-take-le 16 (drop (16 * j) devices) (rw length-drop (omega arith))

pub device-length : (s : Bytes) (from : ℕ) → from + 16 ≤ length s → length (take 16 (drop from s)) ≡ 16
device-length s from h = length-take-le 16 (drop from s) (rw length-drop (omega arith))
