-- The sweep's turns. In this order: lists of pieces; which piece a turn takes; the pieces to come; what holds at each turn; that it begins; that it ends; a turn: what it takes,
-- its piece, and what holds after it; a turn after the last cut.
use Prim.Native.Nat.{ℕ, ◌+◌, ◌-◌, ◌*◌, ◌^◌, ◌<◌, ◌≤◌}
use mathlib.Core.Path.{◌≡◌, refl, sym, ap, ◌∙◌}
use mathlib.Core.List.{List, [], ◌∷◌, ◌++◌, map}
use mathlib.Core.Logic.{◌⊎◌, inl, inr}
use mathlib.Core.Bool.{Bool, true, false, cond, ◌||◌, false≢true}
use native.Mathlib.Omega.{arith}
use native.Mathlib.Decide.{dec_lt}
use borrow.Author.Tests.{le-ltb, ltb-false, leb-false}
use lib.Dec.{ltb}
use lib.ListN.{length, take, drop}
use lib.Seq.{sets}
use Rattle.extents.specs.Extents.{list_from}
use Rattle.extents.specs.declared.Extent.{Extent}
use Rattle.layouts.specs.Layout.{rows_bytes}
use Rattle.merging.specs.Meaning.{All}
use Rattle.merging.specs.Merged.{plain, joined}
use Rattle.merging.proofs.Rules.{all_map, Valid, sounds}
use Rattle.merging.proofs.Runs.{plain-valid}
use Rattle.committing.specs.Ranges.{Range}
use Rattle.committing.specs.Commit.{sweep, all_cuts, committed}
use Rattle.committing.specs.Bare.{bare_at, bare_from, is_bare}
use Rattle.committing.specs.Seek.{Spread, Seeks, edge_of, above}
use Rattle.committing.proofs.Sweep.{swept-valid}
use Rattle.committing.proofs.Places.{length_from}
use Rattle.committing.proofs.Seek.{seeks-one, edge-is}
use Rattle.committing.proofs.Start.{Cand, at_above, start, cuts-length, above-length}
use Rattle.joining.specs.Joiner.{bytes_of, no_runs, fed, wrote, fed_all, wrote_all, Ready, ReadyAll}
use Rattle.joining.specs.declared.joiner.Runs.{Runs}
use Rattle.joining.specs.declared.joiner.Piece.{Piece}
use Rattle.joining.proofs.Tracks.{none-tracked}
use Rattle.joining.proofs.Fed.{extents_of, Going, fed-count, wrote-all, feeds-all, none-held}
use Rattle.commits.specs.Spot.{Marks, range_begin, range_end, is_kind, always, Spotted, Settled, over_at, other_here, invalid_here, range_here, next_cut, over_in, cut_in, bare_by, turn_by, live, its, turn_of, moved_to, going_on}
use Rattle.commits.specs.Pieces.{part_of, marks_of, only_if, pieces_at, other_row, invalid_row, range_row, other_over, invalid_over, range_over, pieces_between, pieces_over}
use Rattle.commits.specs.declared.spot.Spot.{Spot}
use Rattle.commits.specs.declared.spot.Turn.{Turn}
use Rattle.commits.proofs.Chosen.{st_of, lo_of, hi_of, over-said, sound-at}
use Rattle.commits.proofs.Spots.{its-edges, no_edges, over-same, edge_same}
use Rattle.commits.proofs.Edges.{cand, goes_on, ends-here}
use Rattle.commits.proofs.Pieces.{Fit, over-is, bare-is, fits-over, pieces-length, others-sought, invalids-sought, ranges-sought}

-- ---- lists of pieces
fed-append : (devs : List ℕ) (r : Runs) (ps qs : List Piece) → fed_all devs r (ps ++ qs) ≡ fed_all devs (fed_all devs r ps) qs
unfolding fed_all
fed-append devs r [] qs = refl
fed-append devs r (p ∷ ps) qs = fed-append devs (fed devs r p) ps qs

wrote-append : (devs : List ℕ) (r : Runs) (d : List ℕ) (ps qs : List Piece) → wrote_all devs r d (ps ++ qs) ≡ wrote_all devs (fed_all devs r ps) (wrote_all devs r d ps) qs
unfolding wrote_all fed_all
wrote-append devs r d [] qs = refl
wrote-append devs r d (p ∷ ps) qs = wrote-append devs (fed devs r p) (wrote devs r d p) ps qs

feeds-append : (devs : List ℕ) (r : Runs) (ps qs : List Piece) → ReadyAll devs r (ps ++ qs) → ReadyAll devs r ps × ReadyAll devs (fed_all devs r ps) qs
unfolding fed_all
feeds-append devs r [] qs h = (tt, h)
feeds-append devs r (p ∷ ps) qs h =
    let t = feeds-append devs (fed devs r p) ps qs h.1 in
    ((h.0, t.0), t.1)

all_apart : (P : Piece → Type 0) (ps qs : List Piece) → All P (ps ++ qs) → All P ps × All P qs
all_apart P [] qs h = (tt, h)
all_apart P (p ∷ ps) qs h =
    let t = all_apart P ps qs h.1 in
    ((h.0, t.0), t.1)

-- ---- which piece a turn takes: those of the byte are it and what is still to come there
module _ (f : ℕ → Extent) (i j a b x y : ℕ) (rest : List Piece) where
  abbrev second : List Piece
  second = part_of f j 2 x y ∷ rest

  abbrev taken : (o v r again : Bool) → Turn
  taken o v r again = turn_by i j (f i).state a b y o v r again

  splits : (o v r again : Bool) → (again ≡ true → (v ≡ true) × (r ≡ false))
      → cond again second (pieces_at f i j o v r x y ++ rest)
      ≡ only_if (live (taken o v r again)) (part_of f (its (taken o v r again)).row (its (taken o v r again)).state x y) ++ cond (taken o v r again).again second rest
  unfolding pieces_at turn_by
  splits o true true true h = absurd (false≢true (sym (h refl).1))
  splits o true true false h = refl
  splits o false r true h = absurd (false≢true (h refl).0)
  splits true true false true h = refl
  splits false true false true h = refl
  splits true true false false h = refl
  splits false true false false h = refl
  splits true false true false h = refl
  splits true false false false h = refl
  splits false false true false h = refl
  splits false false false false h = refl

  -- one more comes only after the first, where the invalid row stays
  again-first : (o v r again : Bool) → (taken o v r again).again ≡ true → (v ≡ true) × (r ≡ false) × (again ≡ false)
  unfolding turn_by
  again-first o true true again h = absurd (false≢true h)
  again-first true true false false h = (refl, refl, refl)
  again-first true true false true h = absurd (false≢true h)
  again-first false true false again h = absurd (false≢true h)
  again-first true false true false h = absurd (false≢true h)
  again-first true false true true h = absurd (false≢true h)
  again-first false false true again h = absurd (false≢true h)
  again-first true false false false h = absurd (false≢true h)
  again-first true false false true h = absurd (false≢true h)
  again-first false false false again h = absurd (false≢true h)

  -- its end, and 10034
  upto-bare : (o v r again : Bool) → ((taken o v r again).upto ≡ y) × ((taken o v r again).bare ≡ bare_by (f i).state o v r)
  unfolding turn_by
  upto-bare o true true again = (refl, refl)
  upto-bare true true false true = (refl, refl)
  upto-bare true true false false = (refl, refl)
  upto-bare false true false again = (refl, refl)
  upto-bare true false true true = (refl, refl)
  upto-bare true false true false = (refl, refl)
  upto-bare false false true again = (refl, refl)
  upto-bare true false false true = (refl, refl)
  upto-bare true false false false = (refl, refl)
  upto-bare false false false again = (refl, refl)

  -- where its row begins
  begins-at : (o v r again : Bool) → (o ≡ true → a ≡ (f i).offset) → (v ≡ true → b ≡ (f j).offset) → live (taken o v r again) ≡ true → (its (taken o v r again)).lo ≡ (f (its (taken o v r again)).row).offset
  unfolding turn_by
  begins-at o true true again h g l = g refl
  begins-at true true false false h g l = h refl
  begins-at true true false true h g l = g refl
  begins-at false true false again h g l = g refl
  begins-at true false true false h g l = h refl
  begins-at true false true true h g l = absurd (false≢true l)
  begins-at true false false false h g l = h refl
  begins-at true false false true h g l = absurd (false≢true l)
  begins-at false false true again h g l = absurd (false≢true l)
  begins-at false false false again h g l = absurd (false≢true l)

  -- no piece where nothing lies
  none-live : (o v r again : Bool) → o ≡ false → v ≡ false → live (taken o v r again) ≡ false
  unfolding turn_by
  none-live true v r again p q = absurd (false≢true (sym p))
  none-live false true r again p q = absurd (false≢true (sym q))
  none-live false false true again p q = refl
  none-live false false false again p q = refl

bare_twice : (a b c : Bool) → ((a || b) || (b || c)) ≡ (a || (b || c))
bare_twice true b c = refl
bare_twice false true c = refl
bare_twice false false c = refl

or_assoc : (a b c : Bool) → ((a || b) || c) ≡ (a || (b || c))
or_assoc true b c = refl
or_assoc false b c = refl

or-false : (a : Bool) → (a || false) ≡ a
or-false true = refl
or-false false = refl

all_three : (a b c : Bool) → (a || (b || c)) ≡ false → (a ≡ false) × (b ≡ false) × (c ≡ false)
all_three true b c h = absurd (false≢true (sym h))
all_three false true c h = absurd (false≢true (sym h))
all_three false false c h = (refl, refl, h)

-- a turn ends sooner: at a later byte, or with the first piece of the byte taken
abbrev pub turns_left : Spot → ℕ
turns_left p = cond p.again 0 1 + 2 * (2 ^ 64 - p.at)

above-none : (x y : ℕ) (cuts : List ℕ) → x ≤ y → above x cuts ≡ [] → above y cuts ≡ []
unfolding above
above-none x y [] l e = refl
above-none x y (c ∷ cuts) l e = by (ltb x c) refl e (λ h. above-none x y cuts l h)
  where
    by : (t : Bool) → ltb x c ≡ t → cond t (c ∷ cuts) (above x cuts) ≡ [] → (above x cuts ≡ [] → above y cuts ≡ []) → cond (ltb y c) (c ∷ cuts) (above y cuts) ≡ []
    by true q h ih = absurd (omega (arith, ap length h))
    by false q h ih = rw (le-ltb y c (omega (arith, ltb-false x c q))) (ih h)

-- ---- the pieces to come
module _ (devs : List ℕ) (f : ℕ → Extent) (n : ℕ) (g : ℕ → Range) (m : ℕ) where
  abbrev es : List Extent
  es = list_from f n 0

  abbrev rs : List Range
  rs = list_from g m 0

  abbrev cuts : List ℕ
  cuts = all_cuts rs es

  abbrev k : Marks
  k = marks_of f n g m

  abbrev rest : ℕ → List Piece
  rest x = pieces_over f n g m x (above x cuts)

  -- the invalid piece of x alone, and those after it
  unfoldable pub after_first : ℕ → List ℕ → List Piece
  after_first x [] = []
  after_first x (y ∷ c) = part_of f (invalid_row k x) 2 x y ∷ pieces_over f n g m y c

  abbrev pub to_come : ℕ → Bool → List Piece
  to_come x again = cond again (after_first x (above x cuts)) (rest x)

  none-come : (x : ℕ) → above x cuts ≡ [] → (again : Bool) → to_come x again ≡ []
  unfolding after_first pieces_over
  none-come x e true = rw e
  none-come x e false = rw e

  -- ---- what holds at each turn
  pub record Swept (write : Bool) (d₀ : List ℕ) (x : ℕ) (again : Bool) (r : Runs) (d : List ℕ) (bare : Bool) : Type 0 where
    pub inside : x < 2 ^ 64
    pub second-left : again ≡ true → (invalid_over k x ≡ true) × (range_over k x ≡ false)
    pub fits : All (Fit f n) (to_come x again)
    pub feeds : ReadyAll devs r (to_come x again)
    pub runs : fed_all devs r (to_come x again) ≡ fed_all devs no_runs (rest 0)
    pub same : length d ≡ length d₀
    pub bytes : cond write (wrote_all devs r d (to_come x again)) d ≡ cond write (wrote_all devs no_runs d₀ (rest 0)) d₀
    pub bares : (bare || bare_from rs es x (above x cuts)) ≡ bare_from rs es 0 (above 0 cuts)

  pub record Stands (write : Bool) (d₀ : List ℕ) (p : Spot) (r : Runs) (d : List ℕ) (bare : Bool) : Type 0 where
    pub spotted : Spotted k p
    pub swept : Swept write d₀ p.at p.again r d bare

  module _ (its-device : (i : ℕ) → (f i).device ≡ take 16 (drop (16 * i) devs)) (valid : Valid (list_from f n 0)) (spread : Spread always (range_begin g) (range_end g) m)
      (whole : 16 * n ≤ length devs) (few-rows : n ≤ 1024) (few-ranges : m ≤ 1024) where
    is-sweep : extents_of devs (rest 0) ≡ map plain (sweep rs es cuts)
    is-sweep = over-is f n g m valid spread devs its-device 0 (above 0 cuts) ∙ ap (map plain) (sym (start rs es).0)

    all_fit : All (Fit f n) (rest 0)
    all_fit = fits-over f n g m valid spread 0 (above 0 cuts) (at_above rs es 0)

    going : Going devs no_runs [] (rest 0)
    going =
        let v : Valid (extents_of devs (rest 0)) = rw is-sweep (plain-valid (sweep rs es cuts) (swept-valid rs es valid)) in
        record {
          valid = tt;
          tracks = none-tracked devs;
          whole = tt;
          there = all_map (λ p h. omega (arith, h.row-there, whole)) (rest 0) all_fit;
          to-come = v;
          later = all_map (λ e s. tt) (extents_of devs (rest 0)) (sounds (extents_of devs (rest 0)) v);
        }

    few : length (rest 0) < 2 ^ 32
    few =
        omega (arith, pieces-length f n g m valid spread 0 (above 0 cuts), above-length 0 cuts, cuts-length rs es, length_from g m 0, length_from f n 0, few-rows, few-ranges)

    -- ---- it begins
    pub begins : (write : Bool) (d : List ℕ) (p : Spot) → Spotted k p × (p.at ≡ 0) × (p.again ≡ false) → Stands write d p no_runs d false
    begins write d p (s, z, u) = record { spotted = s; swept = rw (z, u) first }
      where
        first : Swept write d 0 false no_runs d false
        first =
            record {
              inside = omega arith;
              second-left = λ z. absurd (false≢true z);
              fits = all_fit;
              feeds = feeds-all devs no_runs [] (rest 0) going (none-held devs) (omega (arith, few));
              runs = refl;
              same = refl;
              bytes = refl;
              bares = refl;
            }

    -- ---- a turn
    module _ (top : (a : ℕ) → a < m → range_end g a < 2 ^ 64) {write : Bool} {d₀ : List ℕ} {p : Spot} {r : Runs} {d : List ℕ} {bare : Bool} (st : Stands write d₀ p r d bare) where
      abbrev w : Swept write d₀ p.at p.again r d bare
      w = st.swept

      abbrev s : Spotted k p
      s = st.spotted

      abbrev x : ℕ
      x = p.at

      is-other : p.other.place ≡ other_row k x
      is-other = seeks-one (is_kind (st_of f) false) (hi_of f) x n p.other.place (other_row k x) s.others.seeks (others-sought f n g m valid spread x)

      is-invalid : p.invalid.place ≡ invalid_row k x
      is-invalid = seeks-one (is_kind (st_of f) true) (hi_of f) x n p.invalid.place (invalid_row k x) s.invalids.seeks (invalids-sought f n g m valid spread x)

      is-range : p.range.place ≡ range_row k x
      is-range = seeks-one always (range_end g) x m p.range.place (range_row k x) s.ranges.seeks (ranges-sought f n g m valid spread x)

      other-is : other_here k p ≡ other_over k x
      other-is = ap (λ (i : ℕ). over_at n i x (f i).offset) is-other

      invalid-is : invalid_here k p ≡ invalid_over k x
      invalid-is = ap (λ (j : ℕ). over_at n j x (f j).offset) is-invalid

      range-is : range_here k p ≡ range_over k x
      range-is = ap (λ (j : ℕ). over_at m j x (g j).offset) is-range

      gone : going_on n m p ≡ false → above x cuts ≡ []
      gone h = ends-here f n g m valid spread top x p.other.place p.invalid.place p.range.place s.others.seeks s.invalids.seeks s.ranges.seeks h

      least : Cand cuts x (next_cut k p) (going_on n m p)
      least = cand f n g m valid spread top x p.other.place p.invalid.place p.range.place s.others.seeks s.invalids.seeks s.ranges.seeks

      -- nothing ends after the last byte
      all-gone : x ≡ 2 ^ 64 - 1 → going_on n m p ≡ false
      all-gone e = rw (row-gone false p.other.place s.others.seeks, row-gone true p.invalid.place s.invalids.seeks) (le-ltb p.range.place m (by (dec_lt p.range.place m)))
        where
          row-gone : (inv : Bool) (i : ℕ) → Seeks (is_kind (st_of f) inv) (hi_of f) n x i → ltb i n ≡ false
          row-gone inv i h = le-ltb i n (at (dec_lt i n))
            where
              at : Dec (i < n) → n ≤ i
              at (yes l) = absurd (omega (arith, (h.here l).1, (sound-at f n valid i l).in-file))
              at (no l) = omega arith

          by : Dec (p.range.place < m) → m ≤ p.range.place
          by (yes l) = absurd (omega (arith, (s.ranges.seeks.here l).1, top p.range.place l))
          by (no l) = omega arith

      -- it ends
      pub ended : (write ≡ true → 4 + 44 * length (committed rs es) ≤ length d₀) → x ≡ 2 ^ 64 - 1 → (r.count ≡ length (committed rs es)) × (bare ≡ is_bare rs es) × (d ≡ cond write (sets d₀ 4 (bytes_of (committed rs es))) d₀)
      unfolding fed_all wrote_all bare_from rows_bytes
      ended room e =
          let none : above x cuts ≡ [] = gone (all-gone e) in
          let come : to_come x p.again ≡ [] = none-come x none p.again in (
            ap (λ (o : Runs). o.count) (rw come at w.runs) ∙ fed-count devs no_runs [] (rest 0) going ∙ ap (λ (l : List Extent). length (joined [] l)) is-sweep,
            sym (or-false bare) ∙ rw none at w.bares ∙ sym (start rs es).1,
            by write room (rw come at w.bytes),
          )
        where
          by : (v : Bool) → (v ≡ true → 4 + 44 * length (committed rs es) ≤ length d₀) → cond v d d ≡ cond v (wrote_all devs no_runs d₀ (rest 0)) d₀ → d ≡ cond v (sets d₀ 4 (bytes_of (committed rs es))) d₀
          by true l u = u ∙ wrote-all devs no_runs [] (rest 0) going d₀ (rw is-sweep (l refl)) ∙ ap (λ (l : List Extent). sets d₀ 4 (bytes_of (joined [] l))) is-sweep
          by false l u = u

      -- it goes on: what the turn asks
      module _ (below : x < 2 ^ 64 - 1) where
        o_is : over_in p.other x ≡ other_over k x
        o_is = over-same (is_kind (st_of f) false) (lo_of f) (hi_of f) n x p.other s.others below ∙ other-is

        v-is : over_in p.invalid x ≡ invalid_over k x
        v-is = over-same (is_kind (st_of f) true) (lo_of f) (hi_of f) n x p.invalid s.invalids below ∙ invalid-is

        r-is : over_in p.range x ≡ range_over k x
        r-is = over-same always (range_begin g) (range_end g) m x p.range s.ranges below ∙ range-is

        pub turn-asks : (p.other.lo ≤ x → p.other.place < n) × (p.again ≡ true → x < p.range.lo)
        turn-asks = (λ l. by l (dec_lt p.other.place n), λ z. leb-false p.range.lo x (r-is ∙ (w.second-left z).1))
          where
            by : p.other.lo ≤ x → Dec (p.other.place < n) → p.other.place < n
            by l (yes h) = h
            by l (no h) = absurd (omega (arith, (no_edges (lo_of f) (hi_of f) n p.other s.others.edges (omega arith)).0))

        module _ (t : Turn) (et : t ≡ turn_of k.states p) where
          abbrev a : ℕ
          a = p.other.lo

          abbrev b : ℕ
          b = p.invalid.lo

          cut-is : cut_in p ≡ next_cut k p
          cut-is =
              rw (
                edge_same (is_kind (st_of f) false) (lo_of f) (hi_of f) n x p.other s.others,
                edge_same (is_kind (st_of f) true) (lo_of f) (hi_of f) n x p.invalid s.invalids,
                edge_same always (range_begin g) (range_end g) m x p.range s.ranges,
              )

          abbrev here : ℕ → Turn
          here y = taken f (other_row k x) (invalid_row k x) a b x y (rest y) (other_over k x) (invalid_over k x) (range_over k x) p.again

          turn_by_lem : t ≡ here (next_cut k p)
          turn_by_lem =
              et ∙ ap (λ (z : ℕ). turn_by p.other.place p.invalid.place (f p.other.place).state a b z (over_in p.other x) (over_in p.invalid x) (over_in p.range x) p.again) cut-is
              ∙ ap (λ (z : Bool). turn_by p.other.place p.invalid.place (f p.other.place).state a b (next_cut k p) z (over_in p.invalid x) (over_in p.range x) p.again) o_is
              ∙ ap (λ (z : Bool). turn_by p.other.place p.invalid.place (f p.other.place).state a b (next_cut k p) (other_over k x) z (over_in p.range x) p.again) v-is
              ∙ ap (λ (z : Bool). turn_by p.other.place p.invalid.place (f p.other.place).state a b (next_cut k p) (other_over k x) (invalid_over k x) z p.again) r-is
              ∙ ap (λ (i : ℕ). turn_by i p.invalid.place (f i).state a b (next_cut k p) (other_over k x) (invalid_over k x) (range_over k x) p.again) is-other
              ∙ ap (λ (j : ℕ). turn_by (other_row k x) j (f (other_row k x)).state a b (next_cut k p) (other_over k x) (invalid_over k x) (range_over k x) p.again) is-invalid

          upto_is : t.upto ≡ next_cut k p
          upto_is = ap (λ (u : Turn). u.upto) turn_by_lem ∙ (upto-bare f (other_row k x) (invalid_row k x) a b x (next_cut k p) [] (other_over k x) (invalid_over k x) (range_over k x) p.again).0

          turn_is : t ≡ here t.upto
          turn_is = turn_by_lem ∙ ap here (sym upto_is)

          bare-here : t.bare ≡ bare_at rs es x
          bare-here =
              ap (λ (u : Turn). u.bare) turn_by_lem ∙ (upto-bare f (other_row k x) (invalid_row k x) a b x (next_cut k p) [] (other_over k x) (invalid_over k x) (range_over k x) p.again).1
              ∙ sym (bare-is f n g m valid spread x)

          pub later : (x < t.upto) × (t.upto < 2 ^ 64)
          later = rw upto_is (by (going_on n m p) least, omega (arith, least.most))
            where
              by : (go : Bool) → Cand cuts x (next_cut k p) go → x < next_cut k p
              by true c = (c.is-there refl).1
              by false c = omega (arith, c.absent refl)

          -- the range after this one is not passed
          pub range-left : p.range.place + 1 < m → t.upto < range_end g (p.range.place + 1)
          range-left l =
              let i = p.range.place in
              let apart : range_end g i ≤ range_begin g (i + 1) = spread.ordered i (i + 1) (omega arith) l refl refl in
              let own : range_begin g i < range_end g i = spread.some i (omega arith) refl in
              let next : range_begin g (i + 1) < range_end g (i + 1) = spread.some (i + 1) l refl in
              omega (arith, upto_is, by (edge-is always (range_begin g) (range_end g) m x i spread s.ranges.seeks (omega arith)))
            where
              by : (edge_of m p.range.place x (range_begin g p.range.place) (range_end g p.range.place) ≡ range_begin g p.range.place)
                  ⊎ (edge_of m p.range.place x (range_begin g p.range.place) (range_end g p.range.place) ≡ range_end g p.range.place)
                  → edge_of m p.range.place x (range_begin g p.range.place) (range_end g p.range.place) ≤ range_end g p.range.place
              by (inl q) = omega (arith, spread.some p.range.place (omega arith) refl)
              by (inr q) = omega arith

          again-left : t.again ≡ true → (invalid_over k x ≡ true) × (range_over k x ≡ false) × (p.again ≡ false)
          again-left z =
              again-first f (other_row k x) (invalid_row k x) a b x (next_cut k p) [] (other_over k x) (invalid_over k x) (range_over k x) p.again (ap (λ (u : Turn). u.again) (sym turn_by_lem) ∙ z)

          second-then : t.again ≡ true → (invalid_over k (cond t.again x t.upto) ≡ true) × (range_over k (cond t.again x t.upto) ≡ false)
          second-then z =
              let l = again-left z in
              rw z (l.0, l.1)

          inside-then : (v : Bool) → cond v x t.upto < 2 ^ 64
          inside-then true = w.inside
          inside-then false = later.1

          -- a piece is there only before the last cut
          live-goes : live t ≡ true → going_on n m p ≡ true
          live-goes z = by (going_on n m p) refl
            where
              by : (u : Bool) → going_on n m p ≡ u → u ≡ true
              by true e = refl
              by false e =
                  let (i, j, c) = all_three (ltb p.other.place n) (ltb p.invalid.place n) (ltb p.range.place m) e in
                  absurd (false≢true (sym (none-live f (other_row k x) (invalid_row k x) a b x (next_cut k p) [] (other_over k x) (invalid_over k x) (range_over k x) p.again (sym other-is ∙ rw i) (sym invalid-is ∙ rw j)) ∙ ap live (sym turn_by_lem) ∙ z))

          pub row-begins : live t ≡ true → (its t).lo ≡ (f (its t).row).offset
          row-begins z =
              rw turn_by_lem
              (begins-at f (other_row k x) (invalid_row k x) a b x (next_cut k p) [] (other_over k x) (invalid_over k x) (range_over k x) p.again
              (λ q. (its-edges (lo_of f) (hi_of f) n p.other s.others.edges (over-said p.other.place n (f p.other.place).offset x (other-is ∙ q)).0).0 ∙ ap (lo_of f) is-other)
              (λ q. (its-edges (lo_of f) (hi_of f) n p.invalid s.invalids.edges (over-said p.invalid.place n (f p.invalid.place).offset x (invalid-is ∙ q)).0).0 ∙ ap (lo_of f) is-invalid)
              (ap live (sym turn_by_lem) ∙ z))

          abbrev piece : Piece
          piece = part_of f (its t).row (its t).state x t.upto

          abbrev come : List Piece
          come = to_come (cond t.again x t.upto) t.again

          module _ (go : going_on n m p ≡ true) where
            next-is : above x cuts ≡ t.upto ∷ above t.upto cuts
            next-is = rw upto_is (goes_on f n g m valid spread top x p.other.place p.invalid.place p.range.place s.others.seeks s.invalids.seeks s.ranges.seeks go).2

            come-is : (again : Bool) → to_come x again ≡ cond again (second f (other_row k x) (invalid_row k x) a b x t.upto (rest t.upto)) (pieces_between f n g m x t.upto ++ rest t.upto)
            unfolding after_first pieces_over
            come-is again = rw next-is

            after_is : (again : Bool) → to_come (cond again x t.upto) again ≡ cond again (second f (other_row k x) (invalid_row k x) a b x t.upto (rest t.upto)) (rest t.upto)
            after_is true = come-is true
            after_is false = refl

            splits-here : to_come x p.again ≡ only_if (live t) piece ++ come
            splits-here =
                come-is p.again
                ∙ splits f (other_row k x) (invalid_row k x) a b x t.upto (rest t.upto) (other_over k x) (invalid_over k x) (range_over k x) p.again w.second-left
                ∙ rw (← turn_is) (ap (λ (l : List Piece). only_if (live t) piece ++ l) (sym (after_is t.again)))

            -- what its piece asks
            piece-fit : live t ≡ true → Fit f n piece
            piece-fit z = (rw z at (all_apart (Fit f n) (only_if (live t) piece) come (rw splits-here at w.fits)).0).0

            piece-feed : live t ≡ true → Ready devs r piece
            piece-feed z = (rw z at (feeds-append devs r (only_if (live t) piece) come (rw splits-here at w.feeds)).0).0

            moved-bares : (again : Bool) → ((bare || t.bare) || bare_from rs es (cond again x t.upto) (above (cond again x t.upto) cuts)) ≡ bare_from rs es 0 (above 0 cuts)
            unfolding bare_from
            moved-bares again =
                let now-is : bare_from rs es x (above x cuts) ≡ (bare_at rs es x || bare_from rs es t.upto (above t.upto cuts)) = ap (bare_from rs es x) next-is in
                let before : (bare || (bare_at rs es x || bare_from rs es t.upto (above t.upto cuts))) ≡ bare_from rs es 0 (above 0 cuts) = ap (λ (z : Bool). bare || z) (sym now-is) ∙ w.bares in
                rw bare-here (by again now-is ∙ before)
              where
                by : (v : Bool) → bare_from rs es x (above x cuts) ≡ (bare_at rs es x || bare_from rs es t.upto (above t.upto cuts))
                    → ((bare || bare_at rs es x) || bare_from rs es (cond v x t.upto) (above (cond v x t.upto) cuts)) ≡ (bare || (bare_at rs es x || bare_from rs es t.upto (above t.upto cuts)))
                by true e = ap (λ (z : Bool). (bare || bare_at rs es x) || z) e ∙ bare_twice bare (bare_at rs es x) (bare_from rs es t.upto (above t.upto cuts))
                by false e = or_assoc bare (bare_at rs es x) (bare_from rs es t.upto (above t.upto cuts))

            after : (r' : Runs) → r' ≡ fed_all devs r (only_if (live t) piece) → (d' : List ℕ) → d' ≡ cond write (wrote_all devs r d (only_if (live t) piece)) d → length d' ≡ length d
                → Swept write d₀ (cond t.again x t.upto) t.again r' d' (bare || t.bare)
            after r' er d' ed el =
                record {
                  inside = inside-then t.again;
                  second-left = second-then;
                  fits = (all_apart (Fit f n) (only_if (live t) piece) come (rw splits-here at w.fits)).1;
                  feeds = rw er (feeds-append devs r (only_if (live t) piece) come (rw splits-here at w.feeds)).1;
                  runs = rw er (sym (fed-append devs r (only_if (live t) piece) come) ∙ ap (fed_all devs r) (sym splits-here) ∙ w.runs);
                  same = el ∙ w.same;
                  bytes = rw er (by write ed w.bytes);
                  bares = moved-bares t.again;
                }
              where
                by : (v : Bool) → d' ≡ cond v (wrote_all devs r d (only_if (live t) piece)) d
                    → cond v (wrote_all devs r d (to_come x p.again)) d ≡ cond v (wrote_all devs no_runs d₀ (rest 0)) d₀
                    → cond v (wrote_all devs (fed_all devs r (only_if (live t) piece)) d' come) d' ≡ cond v (wrote_all devs no_runs d₀ (rest 0)) d₀
                by true u b =
                    ap (λ (z : List ℕ). wrote_all devs (fed_all devs r (only_if (live t) piece)) z come) u
                    ∙ sym (wrote-append devs r d (only_if (live t) piece) come) ∙ ap (wrote_all devs r d) (sym splits-here) ∙ b
                by false u b = u ∙ b

          -- what its piece asks
          pub piece-fits : live t ≡ true → Fit f n piece
          piece-fits z = piece-fit (live-goes z) z

          pub piece-feeds : live t ≡ true → Ready devs r piece
          piece-feeds z = piece-feed (live-goes z) z

          same_bytes : (v : Bool) → d ≡ cond v d d
          same_bytes true = refl
          same_bytes false = refl

          -- ---- a turn after the last cut
          after_last : going_on n m p ≡ false → Swept write d₀ (cond t.again x t.upto) t.again r d (bare || t.bare)
          unfolding bare_from
          after_last h =
              let none : above x cuts ≡ [] = gone h in
              let was : to_come x p.again ≡ [] = none-come x none p.again in
              let then : above (cond t.again x t.upto) cuts ≡ [] = above-none x (cond t.again x t.upto) cuts (by t.again) none in
              let is : come ≡ [] = none-come (cond t.again x t.upto) then t.again in
              let bare-not : t.bare ≡ false = ap (λ (u : Turn). u.bare) turn_by_lem ∙ (upto-bare f (other_row k x) (invalid_row k x) a b x (next_cut k p) [] (other_over k x) (invalid_over k x) (range_over k x) p.again).1 ∙ no-range in
              record {
                inside = inside-then t.again;
                second-left = second-then;
                fits = rw is tt;
                feeds = rw is tt;
                runs = ap (fed_all devs r) (is ∙ sym was) ∙ w.runs;
                same = w.same;
                bytes = ap (λ (l : List Piece). cond write (wrote_all devs r d l) d) (is ∙ sym was) ∙ w.bytes;
                bares = rw (then, bare-not) (or-false (bare || false) ∙ or-false bare ∙ sym (or-false bare) ∙ rw none at w.bares);
              }
            where
              by : (v : Bool) → x ≤ cond v x t.upto
              by true = omega arith
              by false = omega (arith, later.0)

              no-range : bare_by (f (other_row k x)).state (other_over k x) (invalid_over k x) (range_over k x) ≡ false
              no-range =
                  let (i, j, c) = all_three (ltb p.other.place n) (ltb p.invalid.place n) (ltb p.range.place m) h in
                  let z : range_over k x ≡ false = sym range-is ∙ rw c in
                  rw z

          module _ (p' : Spot) (ep : Settled k (moved_to p t.upto t.again) p') where
            stands : {r' : Runs} {d' : List ℕ} {bare' : Bool} → bare' ≡ (bare || t.bare) → Swept write d₀ (cond t.again x t.upto) t.again r' d' (bare || t.bare) → Stands write d₀ p' r' d' bare'
            stands eb h = record { spotted = ep.spotted; swept = rw (ep.same_byte, ep.same_turn, eb) h }

            pub after-piece : (bare' : Bool) → bare' ≡ (bare || t.bare) → live t ≡ true → (r' : Runs) → r' ≡ fed devs r piece → (d' : List ℕ) → d' ≡ cond write (wrote devs r d piece) d → length d' ≡ length d → Stands write d₀ p' r' d' bare'
            unfolding fed_all wrote_all
            after-piece bare' eb z r' er d' ed el = stands eb (after (live-goes z) r' (rw z er) d' (rw z ed) el)

            pub after_none : (bare' : Bool) → bare' ≡ (bare || t.bare) → live t ≡ false → Stands write d₀ p' r d bare'
            unfolding fed_all wrote_all
            after_none bare' eb z = stands eb (by (going_on n m p) refl)
              where
                by : (u : Bool) → going_on n m p ≡ u → Swept write d₀ (cond t.again x t.upto) t.again r d (bare || t.bare)
                by true go = after go r (rw z refl) d (rw z (same_bytes write)) refl
                by false go = after_last go

            pub fewer : turns_left p' < turns_left p
            fewer = rw (ep.same_byte, ep.same_turn) (by t.again again-left p.again)
              where
                by : (v : Bool) → (v ≡ true → (invalid_over k x ≡ true) × (range_over k x ≡ false) × (p.again ≡ false)) → (u : Bool)
                    → cond v 0 1 + 2 * (2 ^ 64 - cond v x t.upto) < cond p.again 0 1 + 2 * (2 ^ 64 - x)
                by true l u = rw (l refl).2 (omega arith)
                by false l u = omega (arith, later.0, later.1)
