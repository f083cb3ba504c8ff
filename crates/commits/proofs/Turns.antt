-- The sweep's turns over columns and a commit list. In this order: the ranges; that the sweep begins; that it ends; what its calls ask; a turn with a piece, and without.
use Prim.Native.Nat.{ℕ, ◌+◌, ◌-◌, ◌*◌, ◌^◌, ◌<◌, ◌≤◌}
use mathlib.Core.Path.{◌≡◌, refl, ap, ◌∙◌}
use mathlib.Core.List.{List}
use mathlib.Core.Logic.{◌⊎◌, inl, inr}
use mathlib.Core.Bool.{Bool, true, false, cond, ◌||◌}
use native.Mathlib.Omega.{arith}
use native.Mathlib.Decide.{dec_lt}
use lib.ListN.{length}
use Rattle.std.specs.Prelude.{Some, None}
use lib.Seq.{sets}
use Rattle.extents.specs.Extents.{list_from}
use Rattle.extents.specs.declared.Extent.{Extent}
use Rattle.merging.proofs.Rules.{all_map, Valid, passes-valid}
use Rattle.committing.specs.Ranges.{Range, range_at, InOrder, any_unfit}
use Rattle.committing.specs.Commit.{committed}
use Rattle.committing.specs.Bare.{is_bare}
use Rattle.committing.specs.Seek.{Spread}
use Rattle.committing.proofs.Places.{all-at, pair-at}
use Rattle.committing.proofs.Ranges.{all-passed, ordered-apart}
use Rattle.joining.specs.Joiner.{bytes_of, no_runs, fed, wrote, Ready}
use Rattle.joining.specs.declared.joiner.Runs.{Runs}
use Rattle.joining.specs.Merge.{row_of, column_list}
use Rattle.joining.specs.declared.joiner.Piece.{Piece}
use Rattle.joining.proofs.Loops.{length-wrote}
use Rattle.commits.specs.Spot.{range_begin, range_end, always, number_in, marks_in, Tops, Spotted, Settled, is_part, live, its, turn_of, moved_to}
use Rattle.commits.specs.Pieces.{Orderly, Asked, piece_of}
use Rattle.commits.specs.declared.spot.Spot.{Spot}
use Rattle.commits.specs.declared.spot.Part.{Part}
use Rattle.commits.specs.declared.spot.Turn.{Turn}
use Rattle.commits.proofs.Chosen.{sound-at}
use Rattle.commits.proofs.Pieces.{Fit}
use Rattle.commits.proofs.Swept as swept

-- ---- the ranges
pub orderly : (block : ℕ) (rs : List Range) → any_unfit block 0 rs ≡ false → Orderly rs
orderly block rs h =
    let p = all-passed block 0 rs h in
    record { each = all_map (λ r a. (a.some, omega (arith, a.in-file))) rs p.each; pairs = p.pairs }

module _ (g : ℕ → Range) (m : ℕ) (o : Orderly (list_from g m 0)) where
  each_at : (a : ℕ) → a < m → (0 < (g a).len) × ((g a).offset + (g a).len < 2 ^ 64)
  each_at a l = all-at (λ r. (0 < r.len) × (r.offset + r.len < 2 ^ 64)) g m 0 o.each a (omega arith) (omega arith)

  spread-of : Spread always (range_begin g) (range_end g) m
  spread-of =
      record {
        some = λ a l q. omega (arith, (each_at a l).0);
        ordered = λ a b l h p q. ordered-apart (g a) (g b) (each_at a (omega arith)).0 (each_at b h).0 (pair-at InOrder g m 0 o.pairs a b (omega arith) l (omega arith));
      }

-- what holds at each turn
abbrev pub Turning : List ℕ → ℕ → List ℕ → List ℕ → List ℕ → List ℕ → List ℕ → Bool → List ℕ → Spot → Runs → List ℕ → Bool → Type 0
Turning s m devs offs lens stos sts write d₀ p r d bare =
    swept.Stands devs (row_of devs offs lens stos sts) (length offs) (range_at s) m write d₀ p r d bare

kept-length : (devs offs lens stos sts : List ℕ) (n : ℕ) (r : Runs) (u : Piece) (d d' : List ℕ) (write : Bool) → d' ≡ cond write (wrote devs r d u) d → length d' ≡ length d
kept-length devs offs lens stos sts n r u d d' true e = ap length e ∙ length-wrote devs offs lens stos sts n r d u
kept-length devs offs lens stos sts n r u d d' false e = ap length e

module _ (s : List ℕ) (m : ℕ) (devs offs lens stos sts : List ℕ) (h : Asked s m devs offs lens stos sts) where
  abbrev f : ℕ → Extent
  f = row_of devs offs lens stos sts

  abbrev n : ℕ
  n = length offs

  abbrev g : ℕ → Range
  g = range_at s

  abbrev rs : List Range
  rs = list_from g m 0

  abbrev es : List Extent
  es = column_list devs offs lens stos sts

  valid : Valid es
  valid = passes-valid es n h.list-passes

  spread : Spread always (range_begin g) (range_end g) m
  spread = spread-of g m h.ranges-orderly

  top : (a : ℕ) → a < m → range_end g a < 2 ^ 64
  top a l = (each_at g m h.ranges-orderly a l).1

  whole : 16 * n ≤ length devs
  whole = omega (arith, h.columns-even.all-devices)

  first_ends : 0 < m → 0 < range_end g 0
  first_ends l = omega (arith, spread.some 0 l refl)

  pub tops : Tops (marks_in offs lens sts s m)
  tops = record { of-rows = λ a l. (sound-at f n valid a l).in-file; of-ranges = top }

  -- ---- it begins
  pub begin-asks : ((length lens ≡ length offs) × (length sts ≡ length offs) × (length s ≡ 4 + 16 * m) × (m ≤ 1024)) × (Tops (marks_in offs lens sts s m) × (0 < m → 0 < range_end g 0))
  begin-asks = ((h.columns-even.all-lengths, h.columns-even.all-states, h.list-whole, h.few-ranges), (tops, first_ends))

  pub turns-begin : (write : Bool) (d : List ℕ) (p : Spot) → Spotted (marks_in offs lens sts s m) p × (p.at ≡ 0) × (p.again ≡ false) → Turning s m devs offs lens stos sts write d p no_runs d false
  turns-begin write d p e = swept.begins devs f n g m (λ i. refl) valid spread whole h.few-rows h.few-ranges write d p e

  module _ {write : Bool} {d₀ : List ℕ} {p : Spot} {r : Runs} {d : List ℕ} {bare : Bool} (w : Turning s m devs offs lens stos sts write d₀ p r d bare) where
    -- ---- it ends
    pub turns-end : (write ≡ true → 4 + 44 * length (committed rs es) ≤ length d₀) → p.at ≡ 2 ^ 64 - 1 → (r.count ≡ length (committed rs es)) × (bare ≡ is_bare rs es) × (d ≡ cond write (sets d₀ 4 (bytes_of (committed rs es))) d₀)
    turns-end = swept.ended devs f n g m (λ i. refl) valid spread whole h.few-rows h.few-ranges top w

    -- ---- a turn
    module _ (other : p.at ≡ 2 ^ 64 - 1 → ⊥) where
      below : p.at < 2 ^ 64 - 1
      below = by (dec_lt p.at (2 ^ 64 - 1))
        where
          by : Dec (p.at < 2 ^ 64 - 1) → p.at < 2 ^ 64 - 1
          by (yes l) = l
          by (no l) = absurd (other (omega (arith, w.swept.inside)))

      pub turn-asks : (p.other.lo ≤ p.at → p.other.place < length sts) × (p.again ≡ true → p.at < p.range.lo)
      turn-asks =
          let u = swept.turn-asks devs f n g m (λ i. refl) valid spread whole h.few-rows h.few-ranges top w below in
          (λ l. omega (arith, u.0 l, h.columns-even.all-states), u.1)

      module _ (t : Turn) (et : t ≡ turn_of (number_in sts) p) where
        abbrev part : Piece
        part = piece_of (its t).row (number_in offs (its t).row) (number_in stos (its t).row) (its t).state p.at t.upto

        later : (p.at < t.upto) × (t.upto < 2 ^ 64)
        later = swept.later devs f n g m (λ i. refl) valid spread whole h.few-rows h.few-ranges top w below t et

        pub move_asks : ((length lens ≡ length offs) × (length sts ≡ length offs) × (length offs ≤ 1024) × (length s ≡ 4 + 16 * m) × (m ≤ 1024))
            × (Tops (marks_in offs lens sts s m) × (Spotted (marks_in offs lens sts s m) p × ((p.at ≤ t.upto) × (p.range.place + 1 < m → t.upto < range_end g (p.range.place + 1)))))
        move_asks = (
          (h.columns-even.all-lengths, h.columns-even.all-states, h.few-rows, h.list-whole, h.few-ranges),
          (tops, (w.spotted, (omega (arith, later.0), swept.range-left devs f n g m (λ i. refl) valid spread whole h.few-rows h.few-ranges top w below t et))),
        )

        begins-there : live t ≡ true → (its t).lo ≡ number_in offs (its t).row
        begins-there = swept.row-begins devs f n g m (λ i. refl) valid spread whole h.few-rows h.few-ranges top w below t et

        part-fits : live t ≡ true → Fit f n part
        part-fits = swept.piece-fits devs f n g m (λ i. refl) valid spread whole h.few-rows h.few-ranges top w below t et

        its-asks : live t ≡ true → (((its t).row < length stos) × ((its t).lo ≤ p.at) × (p.at ≤ t.upto)) × (((its t).state ≡ 3 → ⊥) → number_in stos (its t).row + (p.at - (its t).lo) < 2 ^ 64)
        its-asks z =
            let u = part-fits z in
            ((omega (arith, u.row-there, h.columns-even.all-storages), omega (arith, u.starts, begins-there z), omega (arith, later.0)), λ o. rw (begins-there z) (by u.starts u.ends u.in-storage o))
          where
            by : (f (its t).row).offset ≤ p.at → p.at + (t.upto - p.at) ≤ (f (its t).row).offset + (f (its t).row).len → ((its t).state ≡ 3) ⊎ ((f (its t).row).storage + (f (its t).row).len < 2 ^ 64) → ((its t).state ≡ 3 → ⊥)
                → (f (its t).row).storage + (p.at - (f (its t).row).offset) < 2 ^ 64
            by a b (inl c) o = absurd (o c)
            by a b (inr c) o = omega (arith, later.0)

        -- the piece that the code makes of the turn
        abbrev Made : Piece → Type 0
        Made u = u ≡ piece_of (its t).row (its t).lo (number_in stos (its t).row) (its t).state p.at t.upto

        made-is : live t ≡ true → (u : Piece) → Made u → u ≡ part
        made-is z u eu = eu ∙ ap (λ (l : ℕ). piece_of (its t).row l (number_in stos (its t).row) (its t).state p.at t.upto) (begins-there z)

        -- a turn with a piece
        module _ (q : Part) (eq : t.part ≡ Some q) where
          is-live : live t ≡ true
          is-live = ap is_part eq

          pub piece-asks : ((q.row < length stos) × (q.lo ≤ p.at) × (p.at ≤ t.upto)) × ((q.state ≡ 3 → ⊥) → number_in stos q.row + (p.at - q.lo) < 2 ^ 64)
          piece-asks = rw eq at (its-asks is-live)

          module _ (u : Piece) (eu : u ≡ piece_of q.row q.lo (number_in stos q.row) q.state p.at t.upto) where
            u-is : u ≡ part
            u-is = made-is is-live u (rw eq eu)

            pub piece-feeds : Ready devs r u
            piece-feeds = rw u-is (swept.piece-feeds devs f n g m (λ i. refl) valid spread whole h.few-rows h.few-ranges top w below t et is-live)

            pub turns-on : (p' : Spot) → Settled (marks_in offs lens sts s m) (moved_to p t.upto t.again) p' → (r' : Runs) → r' ≡ fed devs r u → (d' : List ℕ) → d' ≡ cond write (wrote devs r d u) d
                → Turning s m devs offs lens stos sts write d₀ p' r' d' (bare || t.bare)
            turns-on p' ep r' er d' ed =
                swept.after-piece devs f n g m (λ i. refl) valid spread whole h.few-rows h.few-ranges top w below t et p' ep (bare || t.bare) refl is-live r' (er ∙ ap (fed devs r) u-is) d' (ed ∙ ap (λ (v : Piece). cond write (wrote devs r d v) d) u-is)
                (kept-length devs offs lens stos sts n r u d d' write ed)

        module _ (p' : Spot) (ep : Settled (marks_in offs lens sts s m) (moved_to p t.upto t.again) p') where
          pub turns-over : t.part ≡ None → Turning s m devs offs lens stos sts write d₀ p' r d (bare || t.bare)
          turns-over z = swept.after_none devs f n g m (λ i. refl) valid spread whole h.few-rows h.few-ranges top w below t et p' ep (bare || t.bare) refl (ap is_part z)

          pub turns-fewer : swept.turns_left p' < swept.turns_left p
          turns-fewer = swept.fewer devs f n g m (λ i. refl) valid spread whole h.few-rows h.few-ranges top w below t et p' ep
