-- All of a list that is valid: the joiner's runs are those of `merged`. In this order: devices of 16 bytes; the runs never get fewer; where the joiner stands;
-- one more piece, and its bytes; all pieces: how many runs, their bytes, what each piece asks; the extents of columns.
use Rattle.std.proofs.Common.{◌≡◌, ℕ, zero, suc, ◌+◌, ◌-◌, ◌*◌, ◌%◌, ◌^◌, ◌<◌, ◌≤◌, Bool, true, false, cond, eqb, ◌⊎◌, List, [], ◌∷◌, map, length, get_or, set, Option, Some, None, sym, refl, ap, ◌∙◌, inl, inr, arith, length-append, length-set}
use lib.Seq.{sets, length-sets}
use Rattle.std.proofs.lemmas.Bool.{true≢false}
use Rattle.extents.specs.Extents.{list_from}
use Rattle.extents.specs.declared.Extent.{Extent}
use Rattle.layouts.proofs.Stores.{device-length}
use Rattle.layouts.proofs.Placed.{roomy-extent, roomy-length}
use Rattle.merging.specs.Meaning.{All}
use Rattle.merging.specs.Merged.{plain, follows, grown, place, joined}
use Rattle.merging.proofs.Rules.{all_map, all-map₂, Valid, sounds}
use Rattle.merging.proofs.Runs.{plain-keeps, plain-shape, plain-valid, all-place, Later, place-valid, place-later}
use Rattle.joining.specs.Joiner.{bytes_of, piece_in, numbers_in, no_runs, place_of, run_in, open_of, run_of, joins, joins_in, latest_at, next_run, next_count, fed, wrote, fed_all, wrote_all, row_piece, pieces_from, HeldRun, Held, ReadyAll}
use Rattle.joining.specs.Merge.{row_of}
use Rattle.joining.specs.declared.joiner.Piece.{Piece}
use Rattle.joining.specs.declared.joiner.Run.{Run}
use Rattle.joining.specs.declared.joiner.Runs.{Runs}
use Rattle.joining.proofs.Places.{at}
use Rattle.joining.proofs.Tracks.{Tracks, Stepped, longer-run, fresh-run, which, step-tracks, none-tracked, joined_end}
use Rattle.joining.proofs.Bytes.{store_length, store-run}

-- ---- devices of 16 bytes
abbrev Whole : Extent → Type 0
Whole e = length e.device ≡ 16

plain-device : (e : Extent) → Whole e → Whole (plain e)
plain-device e h = by (plain-keeps e)
  where
    by : (e.state ≡ 3) ⊎ (plain e ≡ e) → Whole (plain e)
    by (inl q) = rw ((plain-shape e).plainly (((plain-shape e).alikes 0).states ∙ q)).0 refl
    by (inr q) = rw q h

-- ---- the runs never get fewer
place-length : (e : Extent) (runs : List Extent) → length runs ≤ length (place e runs)
unfolding place
place-length e [] = omega arith
place-length e (a ∷ runs) = by (follows a e) (place-length e runs)
  where
    by : (t : Bool) → length runs ≤ length (place e runs) → suc (length runs) ≤ length (cond t (grown a e ∷ runs) (a ∷ place e runs))
    by true h = omega arith
    by false h = omega arith

joined_length : (runs es : List Extent) → length runs ≤ length (joined runs es)
unfolding joined
joined_length runs [] = omega arith
joined_length runs (e ∷ es) = omega (arith, place-length e runs, joined_length (place e runs) es)

-- ---- where the joiner stands: the runs so far, and the pieces to come
abbrev pub extents_of : List ℕ → List Piece → List Extent
extents_of devs ps = map plain (map (piece_in devs) ps)

abbrev pub There : List ℕ → Piece → Type 0
There devs p = 16 * p.row + 16 ≤ length devs

pub record Going (devs : List ℕ) (r : Runs) (runs : List Extent) (ps : List Piece) : Type 0 where
  pub valid : Valid runs
  pub tracks : Tracks devs r runs
  pub whole : All Whole runs
  pub there : All (There devs) ps
  pub to-come : Valid (extents_of devs ps)
  pub later : All (Later runs) (extents_of devs ps)

pub begins : (devs : List ℕ) (ps : List Piece) → Valid (map (piece_in devs) ps) → All (There devs) ps → Going devs no_runs [] ps
begins devs ps v h =
    let w : Valid (extents_of devs ps) = plain-valid (map (piece_in devs) ps) v in
    record { valid = tt; tracks = none-tracked devs; whole = tt; there = h; to-come = w; later = all_map (λ e s. tt) (extents_of devs ps) (sounds (extents_of devs ps) w) }

-- ---- one more
module _ (devs : List ℕ) (r : Runs) (runs : List Extent) (p : Piece) (ps : List Piece) (g : Going devs r runs (p ∷ ps)) where
  abbrev e : Extent
  e = plain (piece_in devs p)

  abbrev o : Run
  o = open_of r (place_of p.state)

  pub goes_on : Going devs (fed devs r p) (place e runs) ps
  goes_on =
      record {
        valid = place-valid e runs g.valid g.to-come.0 g.later.0;
        tracks = step-tracks devs r runs p g.valid g.to-come.0 g.later.0 g.tracks;
        whole = all-place {P = Whole} e (λ a f x. x) (plain-device (piece_in devs p) (device-length devs (16 * p.row) g.there.0)) runs g.whole;
        there = g.there.1;
        to-come = g.to-come.2;
        later = all-map₂ (λ c b l. place-later e c runs l b) (extents_of devs ps) g.to-come.1 g.later.1;
      }

  cases : Stepped devs r runs p g.valid g.to-come.0 g.later.0 g.tracks
  cases = which devs r runs p g.valid g.to-come.0 g.later.0 g.tracks

  -- its store gives the bytes of the runs with it, where there is room for them
  pub run-stored : (d : List ℕ) → 4 + 44 * length (place e runs) ≤ length d → wrote devs r (sets d 4 (bytes_of runs)) p ≡ sets d 4 (bytes_of (place e runs))
  unfolding wrote plain
  run-stored d room = by cases
    where
      had : List ℕ
      had = sets d 4 (bytes_of runs)

      by : Stepped devs r runs p g.valid g.to-come.0 g.later.0 g.tracks → wrote devs r had p ≡ sets d 4 (bytes_of (place e runs))
      by (longer-run b h f q) =
          let x = plain-shape (piece_in devs p) in
          let l : (p.offset + p.len) % 2 ^ 64 - o.offset ≡ (at runs o.slot).len + e.len = omega (arith, h.begins, h.ends, f.in-file, x.offsets, x.lens) in
          let z : 4 + 44 * o.slot + 24 ≡ 4 + (44 * o.slot + 24) = omega arith in
          let inside : 4 + 44 * o.slot + 44 ≤ length had = omega (arith, room, h.inside, ap length q, length-set runs o.slot (grown (at runs o.slot) e), length-sets d 4 (bytes_of runs)) in
          rw (b, q)
          (roomy-length had o.slot ((p.offset + p.len) % 2 ^ 64 - o.offset) inside
          ∙ rw (l, z) (store_length d runs o.slot ((at runs o.slot).len + e.len) h.inside g.whole))
      by (fresh-run b q) =
          let inside : 4 + 44 * r.count + 44 ≤ length had = omega (arith, room, g.tracks.counted, ap length q, length-append runs (e ∷ []), length-sets d 4 (bytes_of runs)) in
          rw (b, q)
          (roomy-extent had r.count devs p.row (numbers_in p) (eqb p.state 3) inside g.there.0
          ∙ rw g.tracks.counted (store-run d runs e g.whole))

-- ---- all pieces
pub fed-count : (devs : List ℕ) (r : Runs) (runs : List Extent) (ps : List Piece) → Going devs r runs ps → (fed_all devs r ps).count ≡ length (joined runs (extents_of devs ps))
unfolding fed_all joined
fed-count devs r runs [] g = g.tracks.counted
fed-count devs r runs (p ∷ ps) g = fed-count devs (fed devs r p) (place (plain (piece_in devs p)) runs) ps (goes_on devs r runs p ps g)

pub wrote-all : (devs : List ℕ) (r : Runs) (runs : List Extent) (ps : List Piece) → Going devs r runs ps → (d : List ℕ) → 4 + 44 * length (joined runs (extents_of devs ps)) ≤ length d
    → wrote_all devs r (sets d 4 (bytes_of runs)) ps ≡ sets d 4 (bytes_of (joined runs (extents_of devs ps)))
unfolding wrote_all joined
wrote-all devs r runs [] g d room = refl
wrote-all devs r runs (p ∷ ps) g d room =
    ap (λ (x : List ℕ). wrote_all devs (fed devs r p) x ps) (run-stored devs r runs p ps g d (omega (arith, joined_length (place (plain (piece_in devs p)) runs) (extents_of devs ps))))
    ∙ wrote-all devs (fed devs r p) (place (plain (piece_in devs p)) runs) ps (goes_on devs r runs p ps g) d room

-- the open runs still have their devices, and there is at most one more
set-either : (P : Option Run → Type 0) (l : List (Option Run)) (i j : ℕ) (x d : Option Run) → P x → P (get_or l j d) → P (get_or (set l i x) j d)
set-either P [] i j x d p q = q
set-either P (a ∷ l) zero zero x d p q = p
set-either P (a ∷ l) zero (suc j) x d p q = q
set-either P (a ∷ l) (suc i) zero x d p q = q
set-either P (a ∷ l) (suc i) (suc j) x d p q = set-either P l i j x d p q

module _ (devs : List ℕ) (r : Runs) (p : Piece) where
  pub next-held : There devs p → p.offset + p.len < 2 ^ 64 → Held devs r → HeldRun devs (next_run (run_of r p.state) p r.count (joins devs r p))
  next-held t f h = by (joins devs r p) refl
    where
      ended : (u : Option Run) → joins_in devs u p ≡ true → (run_in u).end ≡ p.offset
      ended None q = absurd (true≢false (sym q))
      ended (Some o) q = joined_end devs o p q

      by : (b : Bool) → joins devs r p ≡ b → HeldRun devs (next_run (run_of r p.state) p r.count b)
      by true q =
          let had = h (place_of p.state) in
          record { row-there = had.row-there; forward = omega (arith, had.forward, ended (latest_at r (place_of p.state)) q) }
      by false q = record { row-there = omega arith; forward = omega arith }

  pub fed-held : There devs p → p.offset + p.len < 2 ^ 64 → Held devs r → Held devs (fed devs r p)
  unfolding fed
  fed-held t f h k =
      set-either (λ u. HeldRun devs (run_in u)) r.latest (place_of p.state) k (Some (next_run (run_of r p.state) p r.count (joins devs r p))) None (next-held t f h) (h k)

  pub fed-few : (fed devs r p).count ≤ r.count + 1
  unfolding fed
  fed-few = by (joins devs r p)
    where
      by : (b : Bool) → next_count r.count b ≤ r.count + 1
      by true = omega arith
      by false = omega arith

pub none-held : (devs : List ℕ) → Held devs no_runs
none-held devs zero = record { row-there = omega arith; forward = omega arith }
none-held devs (suc zero) = record { row-there = omega arith; forward = omega arith }
none-held devs (suc (suc zero)) = record { row-there = omega arith; forward = omega arith }
none-held devs (suc (suc (suc zero))) = record { row-there = omega arith; forward = omega arith }
none-held devs (suc (suc (suc (suc k)))) = record { row-there = omega arith; forward = omega arith }

pub feeds-all : (devs : List ℕ) (r : Runs) (runs : List Extent) (ps : List Piece) → Going devs r runs ps → Held devs r → r.count + length ps < 2 ^ 32 → ReadyAll devs r ps
feeds-all devs r runs [] g h n = tt
feeds-all devs r runs (p ∷ ps) g h n = (
  record { device-there = g.there.0; in-file = in-file; few = omega arith; held = h },
  feeds-all devs (fed devs r p) (place (plain (piece_in devs p)) runs) ps (goes_on devs r runs p ps g) (fed-held devs r p g.there.0 in-file h) (omega (arith, fed-few devs r p)),
)
  where
    in-file : p.offset + p.len < 2 ^ 64
    in-file =
        let s = plain-shape (piece_in devs p) in
        omega (arith, g.to-come.0.in-file, s.offsets, s.lens)

-- ---- the extents of columns
module _ (devs offs lens stos sts : List ℕ) where
  pub row_list : (n k : ℕ) → map (piece_in devs) (pieces_from (row_piece offs lens stos sts) n k) ≡ list_from (row_of devs offs lens stos sts) n k
  unfolding pieces_from list_from
  row_list zero k = refl
  row_list (suc n) k = ap (λ (l : List Extent). row_of devs offs lens stos sts k ∷ l) (row_list n (k + 1))

  pub rows-there : (n k m : ℕ) → k + n ≤ m → 16 * m ≤ length devs → All (There devs) (pieces_from (row_piece offs lens stos sts) n k)
  unfolding pieces_from
  rows-there zero k m l h = tt
  rows-there (suc n) k m l h = (omega arith, rows-there n (k + 1) m (omega arith) h)

pub length-pieces : (g : ℕ → Piece) (n k : ℕ) → length (pieces_from g n k) ≡ n
unfolding pieces_from
length-pieces g zero k = refl
length-pieces g (suc n) k = ap suc (length-pieces g n (k + 1))
