-- MODEL of the code: the pieces of a sweep. In this order: what a sweep takes; what it finds; a part of a row; the pieces from x up to y, from what lies over x; the three places at x; the pieces over all cuts.
use Rattle.std.specs.Prelude.{ℕ, ◌+◌, ◌-◌, ◌*◌, ◌^◌, ◌<◌, ◌≤◌, ◌≡◌, List, [], ◌∷◌, ◌++◌, Bool, true, false, cond, ◌&&◌, eqb, length, Result, Ok, Err}
use Rattle.std.proofs.lemmas.List.Edits.{sets}
use Rattle.extents.specs.Extents.{list_from, verdict}
use Rattle.extents.specs.declared.Extent.{Extent}
use Rattle.extents.specs.declared.Refusal.{Refusal}
use Rattle.extents.specs.declared.Rule.TheVariants.{ReclaimBad}
use Rattle.extents.specs.Verdict.{Accepted}
use Rattle.layouts.specs.declared.kinds.Kind.TheVariants.{Scsi}
use Rattle.layouts.specs.Columns.{Even}
use Rattle.merging.specs.Meaning.{All}
use Rattle.committing.specs.Ranges.{Range, range_at, InOrder, AllPairs}
use Rattle.committing.specs.Commit.{committed}
use Rattle.committing.specs.Bare.{is_bare}
use Rattle.committing.specs.Seek.{seek_at}
use Rattle.joining.specs.Joiner.{bytes_of}
use Rattle.joining.specs.Merge.{columns_of, column_list}
use Rattle.joining.specs.declared.joiner.Piece.{Piece}
use Rattle.commits.specs.Spot.{Marks, range_begin, range_end, is_kind, always, over_at}

-- the ranges that a sweep takes: each has bytes and ends in 64 bits, and every pair is in order
pub record Orderly (rs : List Range) : Type 0 where
  pub each : All (λ r. (0 < r.len) × (r.offset + r.len < 2 ^ 64)) rs
  pub pairs : AllPairs InOrder rs

-- what a sweep asks of the commit list's bytes, of m ranges, and of the columns: a list that passes
pub record Asked (s : List ℕ) (m : ℕ) (devs offs lens stos sts : List ℕ) : Type 0 where
  pub list-whole : length s ≡ 4 + 16 * m
  pub few-ranges : m ≤ 1024
  pub few-rows : length offs ≤ 1024
  pub columns-even : Even Scsi (columns_of devs offs lens stos sts)
  pub list-passes : verdict [] 0 (column_list devs offs lens stos sts) ≡ Accepted (length offs)
  pub ranges-orderly : Orderly (list_from (range_at s) m 0)

-- what a sweep finds: how many extents there are after the commit, and whether a committed byte is under neither invalid nor read-write; and as the code says it
pub record Found : Type 0 where
  pub count : ℕ
  pub bare : Bool

abbrev pub found_said : Found → Result ℕ Refusal
found_said r = cond r.bare (Err (record { rule = ReclaimBad; place = 0 })) (Ok r.count)

-- what a sweep over ranges and a list finds, and the lent bytes d before it and d' after it: those of the list after the commit, behind the count, if it is asked to write
pub record Finds (rs : List Range) (es : List Extent) (write : Bool) (d : List ℕ) (r : Found) (d' : List ℕ) : Type 0 where
  pub counted : r.count ≡ length (committed rs es)
  pub bared : r.bare ≡ is_bare rs es
  pub stored : d' ≡ cond write (sets d 4 (bytes_of (committed rs es))) d

-- where the part from byte x on of a row that begins at lo, at this storage, lies; a hole lies nowhere
unfoldable pub storage_of : (lo storage st x : ℕ) → ℕ
storage_of lo storage st x = cond (eqb st 3) 0 (storage + (x - lo))

abbrev pub piece_of : (i lo storage st x y : ℕ) → Piece
piece_of i lo storage st x y = record { row = i; offset = x; len = y - x; storage = storage_of lo storage st x; state = st }

-- f gives the extent of each row
abbrev pub part_of : (ℕ → Extent) → ℕ → ℕ → ℕ → ℕ → Piece
part_of f i st x y = piece_of i (f i).offset (f i).storage st x y

-- what a sweep reads of n rows and m ranges
abbrev pub marks_of : (ℕ → Extent) → ℕ → (ℕ → Range) → ℕ → Marks
marks_of f n g m =
    record { states = λ a. (f a).state; begins = λ a. (f a).offset; ends = λ a. (f a).offset + (f a).len; rows = n; range-begins = range_begin g; range-ends = range_end g; ranges = m }

abbrev pub only_if : Bool → Piece → List Piece
only_if t p = cond t (p ∷ []) []

-- of row i, which is not invalid, and of row j, which is, by whether they and a range lie over x: committed and invalid is read-write, and nothing else
unfoldable pub pieces_at : (ℕ → Extent) → ℕ → ℕ → (other invalid range : Bool) → ℕ → ℕ → List Piece
pieces_at f i j other invalid range x y =
    cond (range && invalid) (part_of f j 0 x y ∷ []) (only_if other (part_of f i (f i).state x y) ++ only_if invalid (part_of f j 2 x y))

module _ (k : Marks) where
  abbrev pub other_row : ℕ → ℕ
  other_row x = seek_at (is_kind k.states false) k.ends k.rows x

  abbrev pub invalid_row : ℕ → ℕ
  invalid_row x = seek_at (is_kind k.states true) k.ends k.rows x

  abbrev pub range_row : ℕ → ℕ
  range_row x = seek_at always k.range-ends k.ranges x

  abbrev pub other_over : ℕ → Bool
  other_over x = over_at k.rows (other_row x) x (k.begins (other_row x))

  abbrev pub invalid_over : ℕ → Bool
  invalid_over x = over_at k.rows (invalid_row x) x (k.begins (invalid_row x))

  abbrev pub range_over : ℕ → Bool
  range_over x = over_at k.ranges (range_row x) x (k.range-begins (range_row x))

abbrev pub pieces_between : (ℕ → Extent) → ℕ → (ℕ → Range) → ℕ → ℕ → ℕ → List Piece
pieces_between f n g m x y =
    pieces_at f (other_row (marks_of f n g m) x) (invalid_row (marks_of f n g m) x) (other_over (marks_of f n g m) x) (invalid_over (marks_of f n g m) x) (range_over (marks_of f n g m) x) x y

unfoldable pub pieces_over : (ℕ → Extent) → ℕ → (ℕ → Range) → ℕ → ℕ → List ℕ → List Piece
pieces_over f n g m x [] = []
pieces_over f n g m x (y ∷ cuts) = pieces_between f n g m x y ++ pieces_over f n g m y cuts
