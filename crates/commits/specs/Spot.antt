-- MODEL of the code: where the sweep stands. In this order: what it reads of rows and ranges; an interval with its edges; the three at a byte; what lies over the byte, and
-- the next cut, by rows and ranges; the same by the three intervals; which piece comes next; the next spot. proofs/Pieces.antt proves that the pieces are those of the definition's sweep.
use Rattle.std.specs.Prelude.{ℕ, ◌+◌, ◌-◌, ◌^◌, ◌<◌, ◌≤◌, min, ◌≡◌, List, Bool, true, false, cond, not, ◌&&◌, ◌||◌, ltb, leb, eqb, length, get_or, Option, Some, None}
use Rattle.std.specs.Bool.{then_some}
use Rattle.committing.specs.Ranges.{Range, range_at}
use Rattle.committing.specs.Seek.{Seeks, edge_of}
use Rattle.commits.specs.declared.spot.Spot.{Spot}
use Rattle.commits.specs.declared.spot.Span.{Span}
use Rattle.commits.specs.declared.spot.Part.{Part}
use Rattle.commits.specs.declared.spot.Turn.{Turn}

-- the states, begins and ends of `rows` rows, and the begins and ends of `ranges` ranges
pub record Marks : Type 0 where
  pub states : ℕ → ℕ
  pub begins : ℕ → ℕ
  pub ends : ℕ → ℕ
  pub rows : ℕ
  pub range-begins : ℕ → ℕ
  pub range-ends : ℕ → ℕ
  pub ranges : ℕ

abbrev pub number_in : List ℕ → ℕ → ℕ
number_in l a = get_or l a 0

abbrev pub end_in : List ℕ → List ℕ → ℕ → ℕ
end_in offs lens a = get_or offs a 0 + get_or lens a 0

abbrev pub range_begin : (ℕ → Range) → ℕ → ℕ
range_begin g a = (g a).offset

abbrev pub range_end : (ℕ → Range) → ℕ → ℕ
range_end g a = (g a).offset + (g a).len

-- those of columns and of a commit list of m ranges
abbrev pub marks_in : List ℕ → List ℕ → List ℕ → List ℕ → ℕ → Marks
marks_in offs lens sts s m =
    record { states = number_in sts; begins = number_in offs; ends = end_in offs lens; rows = length offs; range-begins = range_begin (range_at s); range-ends = range_end (range_at s); ranges = m }

-- every end fits in 64 bits
pub record Tops (k : Marks) : Type 0 where
  pub of-rows : (a : ℕ) → a < k.rows → k.ends a < 2 ^ 64
  pub of-ranges : (a : ℕ) → a < k.ranges → k.range-ends a < 2 ^ 64

-- a row is of a kind: invalid, or not; every range is meant
abbrev pub is_kind : (ℕ → ℕ) → Bool → ℕ → Bool
is_kind states inv a = cond (eqb (states a) 2) inv (not inv)

abbrev pub always : ℕ → Bool
always a = true

-- past the last, where no byte is; the interval at place i of n
abbrev pub no_span : ℕ → Span
no_span n = record { place = n; lo = 2 ^ 64 - 1; hi = 2 ^ 64 - 1 }

unfoldable pub span_of : (lo hi : ℕ → ℕ) → ℕ → ℕ → Span
span_of lo hi n i = cond (ltb i n) (record { place = i; lo = lo i; hi = hi i }) (no_span n)

-- p is the first that is meant and ends after x
pub record Sought (is : ℕ → Bool) (lo hi : ℕ → ℕ) (n x : ℕ) (p : Span) : Type 0 where
  pub seeks : Seeks is hi n x p.place
  pub edges : p ≡ span_of lo hi n p.place

-- p was that at x or sooner
pub record Left (is : ℕ → Bool) (lo hi : ℕ → ℕ) (n x : ℕ) (p : Span) : Type 0 where
  pub most : p.place ≤ n
  pub passed : (a : ℕ) → a < p.place → is a ≡ true → hi a ≤ x
  pub meant : p.place < n → is p.place ≡ true
  pub edges : p ≡ span_of lo hi n p.place

-- each is the first that ends after the byte
pub record Spotted (k : Marks) (p : Spot) : Type 0 where
  pub others : Sought (is_kind k.states false) k.begins k.ends k.rows p.at p.other
  pub invalids : Sought (is_kind k.states true) k.begins k.ends k.rows p.at p.invalid
  pub ranges : Sought always k.range-begins k.range-ends k.ranges p.at p.range

pub record Settled (k : Marks) (p r : Spot) : Type 0 where
  pub spotted : Spotted k r
  pub same_byte : r.at ≡ p.at
  pub same_turn : r.again ≡ p.again

-- the interval at place p of n lies over x
abbrev pub over_at : ℕ → ℕ → ℕ → ℕ → Bool
over_at n p x lo = ltb p n && leb lo x

module _ (k : Marks) (p : Spot) where
  abbrev pub other_here : Bool
  other_here = over_at k.rows p.other.place p.at (k.begins p.other.place)

  abbrev pub invalid_here : Bool
  invalid_here = over_at k.rows p.invalid.place p.at (k.begins p.invalid.place)

  abbrev pub range_here : Bool
  range_here = over_at k.ranges p.range.place p.at (k.range-begins p.range.place)

  abbrev pub next_cut : ℕ
  next_cut =
      min (edge_of k.rows p.other.place p.at (k.begins p.other.place) (k.ends p.other.place))
      (min (edge_of k.rows p.invalid.place p.at (k.begins p.invalid.place) (k.ends p.invalid.place))
      (edge_of k.ranges p.range.place p.at (k.range-begins p.range.place) (k.range-ends p.range.place)))

-- the same by an interval's edges: it lies over x, and it begins or ends next
abbrev pub over_in : Span → ℕ → Bool
over_in p x = leb p.lo x

abbrev pub edge_in : Span → ℕ → ℕ
edge_in p x = cond (ltb x p.lo) p.lo p.hi

abbrev pub cut_in : Spot → ℕ
cut_in p = min (edge_in p.other p.at) (min (edge_in p.invalid p.at) (edge_in p.range p.at))

-- 10034 at a byte: what is not invalid is in state st
abbrev pub bare_by : (st : ℕ) (other invalid range : Bool) → Bool
bare_by st other invalid range = range && not (invalid || other && eqb st 0)

-- of row i, which is not invalid, is in state st and begins at a, and of row j, which is invalid and begins at b, up to y: committed and invalid; else what is not
-- invalid, with the invalid piece after it, unless that alone is still to come; else the invalid piece
unfoldable pub turn_by : (i j st a b y : ℕ) (other invalid range again : Bool) → Turn
turn_by i j st a b y other invalid range again =
    cond (range && invalid) (record { upto = y; part = Some (record { row = j; lo = b; state = 0 }); bare = bare_by st other invalid range; again = false })
    (cond (other && not again) (record { upto = y; part = Some (record { row = i; lo = a; state = st }); bare = bare_by st other invalid range; again = invalid })
    (record { upto = y; part = then_some invalid (record { row = j; lo = b; state = 2 }); bare = bare_by st other invalid range; again = false }))

-- whether it has a piece, and of what; without one, its numbers are not looked at
abbrev pub is_part : Option Part → Bool
is_part None = false
is_part (Some q) = true

abbrev pub part_in : Option Part → Part
part_in None = record { row = 0; lo = 0; state = 0 }
part_in (Some q) = q

abbrev pub live : Turn → Bool
live t = is_part t.part

abbrev pub its : Turn → Part
its t = part_in t.part

-- `states` gives the state of each row
abbrev pub turn_of : (ℕ → ℕ) → Spot → Turn
turn_of states p =
    turn_by p.other.place p.invalid.place (states p.other.place) p.other.lo p.invalid.lo (cut_in p) (over_in p.other p.at) (over_in p.invalid p.at) (over_in p.range p.at) p.again

abbrev pub moved_to : Spot → ℕ → Bool → Spot
moved_to p y again = record { at = cond again p.at y; other = p.other; invalid = p.invalid; range = p.range; again = again }

abbrev pub going_on : ℕ → ℕ → Spot → Bool
going_on n m p = ltb p.other.place n || (ltb p.invalid.place n || ltb p.range.place m)
