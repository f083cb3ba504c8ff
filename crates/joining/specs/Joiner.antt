-- MODEL of the code: the joiner, which is fed extents one after the other and holds the latest run of each state. In this order: an extent whose device lies
-- in a column; a run; the open runs; one more extent, what it comes to, and the bytes that it stores; all of a list; the extents of columns; what one more asks.
-- proofs/Fed.antt proves that a list that is valid gives `merged` of it.
use Rattle.std.specs.Prelude.{ℕ, zero, suc, ◌+◌, ◌-◌, ◌*◌, ◌%◌, ◌^◌, ◌<◌, ◌≤◌, Bool, false, cond, ◌&&◌, ◌||◌, List, [], ◌∷◌, map, length, take, drop, replicate, ◌==◌, slice_index, slice_index_or, slice_set, Option, Some, None}
use Rattle.xdr.specs.Reader.{same_bytes}
use Rattle.extents.specs.declared.Extent.{Extent}
use Rattle.layouts.specs.declared.kinds.Kind.TheVariants.{Scsi}
use Rattle.extents.specs.declared.Numbers.{Numbers}
use Rattle.layouts.specs.Layout.{rows_bytes}
use Rattle.layouts.specs.Placing.{scsi, extent_put, length_put}
use Rattle.joining.specs.declared.joiner.Piece.{Piece}
use Rattle.joining.specs.declared.joiner.Run.{Run}
use Rattle.joining.specs.declared.joiner.Runs.{Runs}
use Rattle.joining.specs.declared.joiner.Step.{Step}
use Rattle.joining.specs.declared.joiner.Step.TheVariants.{Longer, Started}

-- the 16 bytes of its row are the device of a piece
abbrev pub device_in : List ℕ → ℕ → List ℕ
device_in devs row = take 16 (drop (16 * row) devs)

abbrev pub piece_in : List ℕ → Piece → Extent
piece_in devs p = record { device = device_in devs p.row; offset = p.offset; len = p.len; storage = p.storage; state = p.state }

abbrev pub numbers_in : Piece → Numbers
numbers_in p = record { offset = p.offset; len = p.len; storage = p.storage; state = p.state }

-- the extents of a SCSI body, without the count
abbrev pub bytes_of : List Extent → List ℕ
bytes_of es = rows_bytes Scsi (map scsi es)

-- the run that a piece starts at a place, and the run and the piece that follows it, as one; both ends as numbers of 64 bits
abbrev pub started_run : ℕ → Piece → Run
started_run n p = record { slot = n; row = p.row; offset = p.offset; end = (p.offset + p.len) % 2 ^ 64; until = (p.storage + p.len) % 2 ^ 64 }

abbrev pub longer_run : Run → Piece → Run
longer_run o p = record { slot = o.slot; row = o.row; offset = o.offset; end = (p.offset + p.len) % 2 ^ 64; until = (p.storage + p.len) % 2 ^ 64 }

abbrev pub no_runs : Runs
no_runs = record { count = 0; latest = replicate 4 None }

abbrev pub place_of : ℕ → ℕ
place_of st = st % 4

-- where there is no run, its numbers are not looked at
abbrev pub zero_run : Run
zero_run = record { slot = 0; row = 0; offset = 0; end = 0; until = 0 }

abbrev pub run_in : Option Run → Run
run_in None = zero_run
run_in (Some o) = o

abbrev pub latest_at : Runs → ℕ → Option Run
latest_at r k = slice_index_or r.latest k None

abbrev pub open_of : Runs → ℕ → Run
open_of r k = run_in (latest_at r k)

abbrev pub opening : Runs → ℕ → ℕ → Run → Runs
opening r n k o = record { count = n; latest = slice_set r.latest k (Some o) }

abbrev pub run_of : Runs → ℕ → Run
run_of r st = open_of r (place_of st)

-- p begins just where the latest run of its state ends, and has its device; of holes only the file counts
unfoldable pub joins_run : List ℕ → Run → Piece → Bool
joins_run devs o p =
    (o.end == p.offset) && (p.state == 3 || o.until == p.storage && same_bytes (device_in devs o.row) (device_in devs p.row))

abbrev pub joins_in : List ℕ → Option Run → Piece → Bool
joins_in devs None p = false
joins_in devs (Some o) p = joins_run devs o p

abbrev pub joins : List ℕ → Runs → Piece → Bool
joins devs r p = joins_in devs (latest_at r (place_of p.state)) p

-- one more: it lengthens the latest run of its state, or starts one
abbrev pub next_run : Run → Piece → ℕ → Bool → Run
next_run o p n more = cond more (longer_run o p) (started_run n p)

abbrev pub next_count : ℕ → Bool → ℕ
next_count n more = cond more n (n + 1)

unfoldable pub fed : List ℕ → Runs → Piece → Runs
fed devs r p = opening r (next_count r.count (joins devs r p)) (place_of p.state) (next_run (run_of r p.state) p r.count (joins devs r p))

-- what it comes to: the length of the run that it lengthens, or the place of the run that it starts
abbrev pub step_of : List ℕ → Runs → Piece → Step
step_of devs r p = cond (joins devs r p) (Longer (run_of r p.state).slot ((p.offset + p.len) % 2 ^ 64 - (run_of r p.state).offset)) (Started r.count)

-- the bytes that it stores: the length of the run that it lengthens, or the run that it starts, a hole without device and storage
abbrev pub stored_longer : Run → List ℕ → List ℕ
stored_longer o d = length_put d o.slot (o.end - o.offset)

abbrev pub stored_start : List ℕ → ℕ → Piece → List ℕ → List ℕ
stored_start devs n p d = extent_put d n devs p.row (numbers_in p) (p.state == 3)

abbrev pub stored : List ℕ → Step → Piece → List ℕ → List ℕ
stored devs (Longer slot len) p d = length_put d slot len
stored devs (Started slot) p d = stored_start devs slot p d

unfoldable pub wrote : List ℕ → Runs → List ℕ → Piece → List ℕ
wrote devs r d p = cond (joins devs r p) (stored_longer (longer_run (run_of r p.state) p) d) (stored_start devs r.count p d)

-- all of a list
unfoldable pub fed_all : List ℕ → Runs → List Piece → Runs
fed_all devs r [] = r
fed_all devs r (p ∷ ps) = fed_all devs (fed devs r p) ps

unfoldable pub wrote_all : List ℕ → Runs → List ℕ → List Piece → List ℕ
wrote_all devs r d [] = d
wrote_all devs r d (p ∷ ps) = wrote_all devs (fed devs r p) (wrote devs r d p) ps

-- the extent of row k of columns, and the n of them from row k on
abbrev pub row_piece : List ℕ → List ℕ → List ℕ → List ℕ → ℕ → Piece
row_piece offs lens stos sts k = record { row = k; offset = slice_index offs k; len = slice_index lens k; storage = slice_index stos k; state = slice_index sts k }

unfoldable pub pieces_from : (ℕ → Piece) → ℕ → ℕ → List Piece
pieces_from g zero k = []
pieces_from g (suc n) k = g k ∷ pieces_from g n (k + 1)

-- the open runs have a row with a device, if any row has one, and do not end before they begin
pub record HeldRun (devs : List ℕ) (o : Run) : Type 0 where
  pub row-there : 16 * o.row ≤ length devs - 16
  pub forward : o.offset ≤ o.end

abbrev pub Held : List ℕ → Runs → Type 0
Held devs r = (k : ℕ) → HeldRun devs (open_of r k)

-- what one more asks of itself and of the runs
pub record Ready (devs : List ℕ) (r : Runs) (p : Piece) : Type 0 where
  pub device-there : 16 * p.row + 16 ≤ length devs
  pub in-file : p.offset + p.len < 2 ^ 64
  pub few : r.count < 2 ^ 32
  pub held : Held devs r

abbrev pub ReadyAll : List ℕ → Runs → List Piece → Type 0
ReadyAll devs r [] = Unit {0}
ReadyAll devs r (p ∷ ps) = Ready devs r p × ReadyAll devs (fed devs r p) ps
