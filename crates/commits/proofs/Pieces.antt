-- The pieces of the three places are the sweep's. In this order: a part as an extent; the pieces between two cuts; over all cuts; 10034 at a byte; that each piece fits
-- in its row; how many.
use Prim.Native.Nat.{ℕ, ◌+◌, ◌-◌, ◌*◌, ◌^◌, ◌<◌, ◌≤◌}
use mathlib.Core.Path.{◌≡◌, refl, sym, ap, ◌∙◌}
use mathlib.Core.List.{List, [], ◌∷◌, ◌++◌, map}
use mathlib.Core.Logic.{◌⊎◌, inl, inr}
use mathlib.Core.Bool.{Bool, true, false, cond, not, ◌&&◌, ◌||◌}
use native.Mathlib.Omega.{arith}
use borrow.Author.Tests.{eqb-true}
use lib.Dec.{eqb}
use lib.ListN.{length, take, drop, replicate, length-append}
use Rattle.extents.specs.Extents.{list_from}
use Rattle.extents.specs.declared.Extent.{Extent}
use Rattle.merging.specs.Meaning.{All}
use Rattle.merging.specs.Merged.{plain}
use Rattle.merging.proofs.Rules.{all_append, Valid}
use Rattle.committing.specs.Ranges.{Range}
use Rattle.committing.specs.Commit.{invalid_at, part_as, part, written_part, between, sweep_from}
use Rattle.committing.specs.Bare.{bare_at}
use Rattle.committing.specs.Seek.{Spread, Seeks}
use Rattle.committing.proofs.Sweep.{At, next, free-extents, over-x, Free}
use Rattle.committing.proofs.Places.{all-at}
use Rattle.committing.proofs.Seek.{seeks}
use Rattle.committing.proofs.Next.{any-one}
use Rattle.joining.specs.Joiner.{piece_in}
use Rattle.joining.specs.declared.joiner.Piece.{Piece}
use Rattle.joining.proofs.Fed.{extents_of}
use Rattle.commits.specs.Spot.{Marks, range_begin, range_end, is_kind, always, over_at}
use Rattle.commits.specs.Pieces.{storage_of, part_of, marks_of, only_if, pieces_at, other_row, invalid_row, range_row, other_over, invalid_over, range_over, pieces_between, pieces_over}
use Rattle.commits.proofs.Chosen.{st_of, hi_of, cond-true, over-said, sound-at, others-are, invalids-are, writable-are, committed-is}

-- ---- a part of a row, whose device lies in a column, as an extent
module _ (devs : List ℕ) (f : ℕ → Extent) (its-device : (i : ℕ) → (f i).device ≡ take 16 (drop (16 * i) devs)) where
  part-is : (i st x y : ℕ) → plain (piece_in devs (part_of f i st x y)) ≡ plain (part_as st x y (f i))
  unfolding plain storage_of
  part-is i st x y = by (eqb st 3)
    where
      hole : Extent
      hole = record { device = replicate 16 0; offset = x; len = y - x; storage = 0; state = st }

      by : (t : Bool)
          → cond t hole (record { device = take 16 (drop (16 * i) devs); offset = x; len = y - x; storage = cond t 0 ((f i).storage + (x - (f i).offset)); state = st })
          ≡ cond t hole (part_as st x y (f i))
      by true = refl
      by false = λ z. record { device = sym (its-device i) z; offset = x; len = y - x; storage = (f i).storage + (x - (f i).offset); state = st }

  pieces-say : (i j x y : ℕ) (o v r : Bool) → (v ≡ true → (f j).state ≡ 2)
      → extents_of devs (pieces_at f i j o v r x y)
      ≡ map plain (cond (r && v) (map (written_part x y) (cond v (f j ∷ []) [])) (map (part x y) (cond o (f i ∷ []) []) ++ map (part x y) (cond v (f j ∷ []) [])))
  unfolding pieces_at
  pieces-say i j x y o v r q = by o v r q
    where
      first : plain (piece_in devs (part_of f i (f i).state x y)) ≡ plain (part x y (f i))
      first = part-is i (f i).state x y

      second : (f j).state ≡ 2 → plain (piece_in devs (part_of f j 2 x y)) ≡ plain (part x y (f j))
      second e = part-is j 2 x y ∙ ap (λ (s : ℕ). plain (part_as s x y (f j))) (sym e)

      by : (o v r : Bool) → (v ≡ true → (f j).state ≡ 2)
          → extents_of devs (cond (r && v) (part_of f j 0 x y ∷ []) (only_if o (part_of f i (f i).state x y) ++ only_if v (part_of f j 2 x y)))
          ≡ map plain (cond (r && v) (map (written_part x y) (cond v (f j ∷ []) [])) (map (part x y) (cond o (f i ∷ []) []) ++ map (part x y) (cond v (f j ∷ []) [])))
      by o true true h = λ z. part-is j 0 x y z ∷ []
      by true true false h = λ z. first z ∷ second (h refl) z ∷ []
      by false true false h = λ z. second (h refl) z ∷ []
      by true false true h = λ z. first z ∷ []
      by true false false h = λ z. first z ∷ []
      by false false true h = refl
      by false false false h = refl

  extents-append : (ps qs : List Piece) → extents_of devs (ps ++ qs) ≡ extents_of devs ps ++ extents_of devs qs
  extents-append [] qs = refl
  extents-append (p ∷ ps) qs = ap (λ (l : List Extent). plain (piece_in devs p) ∷ l) (extents-append ps qs)

plain-append : (es fs : List Extent) → map plain (es ++ fs) ≡ map plain es ++ map plain fs
plain-append [] fs = refl
plain-append (e ∷ es) fs = ap (λ (l : List Extent). plain e ∷ l) (plain-append es fs)

-- ---- a piece lies in its row, and so does its storage
pub record Fit (f : ℕ → Extent) (n : ℕ) (p : Piece) : Type 0 where
  pub row-there : p.row < n
  pub starts : (f p.row).offset ≤ p.offset
  pub ends : p.offset + p.len ≤ (f p.row).offset + (f p.row).len
  pub in-storage : (p.state ≡ 3) ⊎ ((f p.row).storage + (f p.row).len < 2 ^ 64)

module _ (f : ℕ → Extent) (n : ℕ) (g : ℕ → Range) (m : ℕ) (valid : Valid (list_from f n 0)) (spread : Spread always (range_begin g) (range_end g) m) where
  abbrev es : List Extent
  es = list_from f n 0

  abbrev rs : List Range
  rs = list_from g m 0

  abbrev k : Marks
  k = marks_of f n g m

  pub others-sought : (x : ℕ) → Seeks (is_kind (st_of f) false) (hi_of f) n x (other_row k x)
  others-sought x = seeks (is_kind (st_of f) false) (hi_of f) x n

  pub invalids-sought : (x : ℕ) → Seeks (is_kind (st_of f) true) (hi_of f) n x (invalid_row k x)
  invalids-sought x = seeks (is_kind (st_of f) true) (hi_of f) x n

  pub ranges-sought : (x : ℕ) → Seeks always (range_end g) m x (range_row k x)
  ranges-sought x = seeks always (range_end g) x m

  -- the state of the invalid row
  invalid-state : (x : ℕ) → invalid_over k x ≡ true → (f (invalid_row k x)).state ≡ 2
  invalid-state x h =
      let (l, u) = over-said (invalid_row k x) n (f (invalid_row k x)).offset x h in
      eqb-true (f (invalid_row k x)).state 2 (sym (cond-true (eqb (f (invalid_row k x)).state 2)) ∙ ((invalids-sought x).here l).0)

  module _ (devs : List ℕ) (its-device : (i : ℕ) → (f i).device ≡ take 16 (drop (16 * i) devs)) where
    between_is : (x y : ℕ) → extents_of devs (pieces_between f n g m x y) ≡ map plain (between rs es x y)
    unfolding between
    between_is x y =
        pieces-say devs f its-device (other_row k x) (invalid_row k x) x y (other_over k x) (invalid_over k x) (range_over k x) (invalid-state x)
        ∙ rw (
          committed-is g m spread x (range_row k x) (ranges-sought x),
          others-are f n valid x (other_row k x) (others-sought x),
          any-one (invalid_at x) es (invalid_over k x) (f (invalid_row k x)) (invalids-are f n valid x (invalid_row k x) (invalids-sought x)),
          invalids-are f n valid x (invalid_row k x) (invalids-sought x),
        )

    pub over-is : (x : ℕ) (cuts : List ℕ) → extents_of devs (pieces_over f n g m x cuts) ≡ map plain (sweep_from rs es x cuts)
    unfolding pieces_over sweep_from
    over-is x [] = refl
    over-is x (y ∷ cuts) =
        extents-append devs f its-device (pieces_between f n g m x y) (pieces_over f n g m y cuts)
        ∙ rw (between_is x y, over-is y cuts) (sym (plain-append (between rs es x y) (sweep_from rs es y cuts)))

  -- ---- 10034
  pub bare-is : (x : ℕ) → bare_at rs es x ≡ (range_over k x && not (invalid_over k x || other_over k x && eqb (f (other_row k x)).state 0))
  bare-is x = rw (committed-is g m spread x (range_row k x) (ranges-sought x), writable-are f n valid x (other_row k x) (invalid_row k x) (others-sought x) (invalids-sought x))

  -- ---- each piece fits
  fit_row : (x b p st : ℕ) → x < (f p).offset + (f p).len → over_at n p x (f p).offset ≡ true → ((f p).state ≡ 3 → st ≡ 3) → x < b → (p < n → Free x b (f p)) → Fit f n (part_of f p st x b)
  fit_row x b p st below h keeps less free =
      let (l, u) = over-said p n (f p).offset x h in
      let end : b ≤ (f p).offset + (f p).len = (over-x x b x (omega arith) less (f p).offset (f p).len (free l) u below).1 in
      record { row-there = l; starts = u; ends = omega arith; in-storage = by (sound-at f n valid p l).in-storage }
    where
      by : ((f p).state ≡ 3) ⊎ ((f p).storage + (f p).len < 2 ^ 64) → (st ≡ 3) ⊎ ((f p).storage + (f p).len < 2 ^ 64)
      by (inl q) = inl (keeps q)
      by (inr q) = inr q

  fits-between : (x b : ℕ) → x < b → ((p : ℕ) → p < n → Free x b (f p)) → All (Fit f n) (pieces_between f n g m x b)
  unfolding pieces_at
  fits-between x b less free = by (other_over k x) refl (invalid_over k x) refl (range_over k x)
    where
      i : ℕ
      i = other_row k x

      j : ℕ
      j = invalid_row k x

      other-fit : other_over k x ≡ true → Fit f n (part_of f i (f i).state x b)
      other-fit h = fit_row x b i (f i).state ((others-sought x).here (over-said i n (f i).offset x h).0).1 h (λ q. q) less (free i)

      invalid-fit : (st : ℕ) → invalid_over k x ≡ true → Fit f n (part_of f j st x b)
      invalid-fit st h = fit_row x b j st ((invalids-sought x).here (over-said j n (f j).offset x h).0).1 h (λ q. absurd (omega (arith, invalid-state x h))) less (free j)

      by : (o : Bool) → other_over k x ≡ o → (v : Bool) → invalid_over k x ≡ v → (r : Bool)
          → All (Fit f n) (cond (r && v) (part_of f j 0 x b ∷ []) (only_if o (part_of f i (f i).state x b) ++ only_if v (part_of f j 2 x b)))
      by o p true q true = (invalid-fit 0 q, tt)
      by true p true q false = (other-fit p, (invalid-fit 2 q, tt))
      by false p true q false = (invalid-fit 2 q, tt)
      by true p false q true = (other-fit p, tt)
      by true p false q false = (other-fit p, tt)
      by false p false q true = tt
      by false p false q false = tt

  pub fits-over : (x : ℕ) (cuts : List ℕ) → At rs es x cuts → All (Fit f n) (pieces_over f n g m x cuts)
  unfolding pieces_over
  fits-over x [] h = tt
  fits-over x (b ∷ cuts) h =
      all_append (Fit f n) (pieces_between f n g m x b) (pieces_over f n g m b cuts)
      (fits-between x b h.rising.0 (λ p l. all-at (Free x b) f n 0 (free-extents rs es x b cuts h) p (omega arith) (omega arith)))
      (fits-over b cuts (next rs es x b cuts h))

  -- ---- how many
  two-most : (i j x y : ℕ) (o v r : Bool) → length (pieces_at f i j o v r x y) ≤ 2
  unfolding pieces_at
  two-most i j x y o true true = omega arith
  two-most i j x y true false true = omega arith
  two-most i j x y false false true = omega arith
  two-most i j x y true true false = omega arith
  two-most i j x y false true false = omega arith
  two-most i j x y true false false = omega arith
  two-most i j x y false false false = omega arith

  pub pieces-length : (x : ℕ) (cuts : List ℕ) → length (pieces_over f n g m x cuts) ≤ 2 * length cuts
  unfolding pieces_over
  pieces-length x [] = omega arith
  pieces-length x (y ∷ cuts) =
      omega (arith, length-append (pieces_between f n g m x y) (pieces_over f n g m y cuts), pieces-length y cuts, two-most (other_row k x) (invalid_row k x) x y (other_over k x) (invalid_over k x) (range_over k x))
