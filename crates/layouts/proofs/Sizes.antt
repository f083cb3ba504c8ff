-- The sizes of bodies: each law by the two kinds. In this order: a body of no, one more and fewer extents; what a body has room for; the bytes of the extents.
use Prim.Native.Nat.{ℕ, suc, ◌+◌, ◌*◌, ◌^◌, ◌<◌, ◌≤◌}
use mathlib.Core.Path.{◌≡◌}
use native.Mathlib.Omega.{arith}
use lib.ListN.{length}
use Rattle.layouts.specs.declared.kinds.Kind.{Kind}
use Rattle.layouts.specs.declared.kinds.Kind.TheVariants.{Scsi, Rdma}
use Rattle.statuses.specs.Names.{Bytes}
use Rattle.layouts.specs.Layout.{handle_size, extent_size, body_size, held_in}
use Rattle.layouts.specs.Columns.{handle_count}

pub handle-small : (k : Kind) → handle_size k ≤ 4
unfolding handle_size
handle-small Scsi = omega arith
handle-small Rdma = omega arith

pub size_none : (k : Kind) → body_size k 0 ≡ 4
unfolding handle_size body_size
size_none Scsi = omega arith
size_none Rdma = omega arith

pub size-more : (k : Kind) (n : ℕ) → body_size k (n + 1) ≡ body_size k n + extent_size k
unfolding handle_size body_size
size-more Scsi n = omega arith
size-more Rdma n = omega arith

pub size-least : (k : Kind) (n : ℕ) → 4 ≤ body_size k n
unfolding handle_size body_size
size-least Scsi n = omega arith
size-least Rdma n = omega arith

-- an extent before the end of a body lies in it
pub inside : (k : Kind) (i n : ℕ) → i < n → body_size k i + extent_size k ≤ body_size k n
unfolding handle_size body_size
inside Scsi i n h = omega arith
inside Rdma i n h = omega arith

pub size_fits : (k : Kind) (n : ℕ) → n ≤ 1024 → body_size k n < 2 ^ 64
unfolding handle_size body_size
size_fits Scsi n h = omega arith
size_fits Rdma n h = omega arith

-- ---- what a body has room for
pub held_whole : (k : Kind) (s : Bytes) (n : ℕ) → length s ≡ body_size k n → held_in k s ≡ n
unfolding handle_size body_size held_in
held_whole Scsi s n h = omega arith
held_whole Rdma s n h = omega arith

pub held_none : (k : Kind) (s : Bytes) → length s < 4 → 0 ≡ held_in k s
unfolding handle_size held_in
held_none Scsi s h = omega arith
held_none Rdma s h = omega arith

pub held-inside : (k : Kind) (s : Bytes) (i : ℕ) → i < held_in k s → body_size k i + extent_size k ≤ length s
unfolding handle_size body_size held_in
held-inside Scsi s i h = omega arith
held-inside Rdma s i h = omega arith

pub held-there : (k : Kind) (s : Bytes) (i : ℕ) → body_size k i + extent_size k ≤ length s → i < held_in k s
unfolding handle_size body_size held_in
held-there Scsi s i h = omega arith
held-there Rdma s i h = omega arith

-- a handle for the extent at a place below n
pub handle-there : (k : Kind) (i n : ℕ) → i < n → handle_count k (i + 1) ≤ handle_count k n
unfolding handle_count
handle-there Scsi i n h = omega arith
handle-there Rdma i n h = omega arith

-- ---- the bytes of n extents, without the count
unfoldable pub span : Kind → ℕ → ℕ
span k n = extent_size k * n

pub size-span : (k : Kind) (n : ℕ) → body_size k n ≡ 4 + span k n
unfolding body_size span
size-span k n = omega arith

pub span_none : (k : Kind) → span k 0 ≡ 0
unfolding handle_size span
span_none Scsi = omega arith
span_none Rdma = omega arith

pub span_more : (k : Kind) (n : ℕ) → span k (suc n) ≡ extent_size k + span k n
unfolding handle_size span
span_more Scsi n = omega arith
span_more Rdma n = omega arith
