-- The search for a source from either end, among the places of ordinary mirrors. In this order: a place of those; the first that can be copied from; from the last place down, where no place from i on
-- can.
use mathlib.Core.Path.{◌≡◌, refl, ap, sym, ◌∙◌}
use mathlib.Core.List.{List, [], ◌∷◌, ◌++◌, append-nil}
use mathlib.Core.Bool.{Bool, true, false, cond}
use Prim.Native.Nat.{ℕ, suc, ◌+◌, ◌<◌, ◌≤◌}
use native.Mathlib.Nat.{zero-add}
use native.Mathlib.Omega.{arith}
use lib.ListN.{get_or, length, take}
use lib.Seq.{take-suc, take_all, length-take-le, get_or-take}
use Rattle.std.specs.Prelude.{Option, Some, None}
use Rattle.places.specs.Places.{first, bump, place_or}
use Rattle.mirroring.specs.Direction.{head_or, last_or}
use Rattle.mirroring.specs.Mirrors.{no_mirror, is_good}
use Rattle.mirroring.specs.Source.{ordinary, good_from}
use Rattle.mirroring.specs.declared.mirrors.Mirror.{Mirror}

-- ---- a place of an ordinary mirror
pub test_of : (ms : List Mirror) (i : ℕ) (b : Bool) → i < 4 → b ≡ is_good (get_or ms i no_mirror) → b ≡ is_good (get_or (ordinary ms) i no_mirror)
test_of ms i b h t = rw (get_or-take 4 ms i no_mirror h) t

pub four : (ms : List Mirror) → length ms ≡ 5 → length (ordinary ms) ≡ 4
four ms e = length-take-le 4 ms (omega (arith, e))

-- ---- up
abbrev later : ℕ → Option ℕ → ℕ
later k (Some i) = k + i
later k None = 255

later-item : (b : Bool) (k : ℕ) (o : Option ℕ) (ps : List ℕ) → later (suc k) o ≡ head_or 255 ps → later k (cond b (Some 0) (bump o)) ≡ head_or 255 (cond b (k ∷ ps) ps)
unfolding head_or
later-item true k o ps e = omega arith
later-item false k (Some i) ps e = shift ∙ e
  where
    shift : k + suc i ≡ suc k + i
    shift = omega arith
later-item false k None ps e = e

head-later : (k : ℕ) (l : List Mirror) → later k (first is_good l) ≡ head_or 255 (good_from k l)
unfolding first good_from head_or
head-later k [] = refl
head-later k (m ∷ ms) = later-item (is_good m) k (first is_good ms) (good_from (suc k) ms) (head-later (suc k) ms)

at-start : (o : Option ℕ) → place_or 255 o ≡ later 0 o
at-start (Some i) = omega arith
at-start None = refl

pub first-up : (l : List Mirror) → place_or 255 (first is_good l) ≡ head_or 255 (good_from 0 l)
first-up l = at-start (first is_good l) ∙ head-later 0 l

-- ---- down
good-append : (k : ℕ) (ms : List Mirror) (m : Mirror) → good_from k (ms ++ m ∷ []) ≡ good_from k ms ++ cond (is_good m) ((k + length ms) ∷ []) []
unfolding good_from
good-append k [] m = by (is_good m)
  where
    same : k ≡ k + 0
    same = omega arith

    by : (b : Bool) → cond b (k ∷ []) [] ≡ cond b ((k + 0) ∷ []) []
    by true = ap {B = List ℕ} (λ j. j ∷ []) same
    by false = refl
good-append k (n ∷ ms) m = by (is_good n) (good-append (suc k) ms m ∙ ap (λ j. good_from (suc k) ms ++ cond (is_good m) (j ∷ []) []) (omega arith))
  where
    by : (b : Bool) → good_from (suc k) (ms ++ m ∷ []) ≡ good_from (suc k) ms ++ cond (is_good m) ((k + suc (length ms)) ∷ []) []
        → cond b (k ∷ good_from (suc k) (ms ++ m ∷ [])) (good_from (suc k) (ms ++ m ∷ [])) ≡ cond b (k ∷ good_from (suc k) ms) (good_from (suc k) ms) ++ cond (is_good m) ((k + suc (length ms)) ∷ []) []
    by true h = ap {B = List ℕ} (λ ps. k ∷ ps) h
    by false h = h

last-append : (e p : ℕ) (ps : List ℕ) → last_or e (ps ++ p ∷ []) ≡ p
unfolding last_or
last-append e p [] = refl
last-append e p (q ∷ ps) = last-append q p ps

pub record Downwards (l : List Mirror) (i : ℕ) : Type 0 where
  pub rest : good_from 0 l ≡ good_from 0 (take i l)

pub downwards : (l : List Mirror) (i : ℕ) → length l ≤ i → Downwards l i
downwards l i e = record { rest = rw (take_all i l e) }

-- `b` is whether the place j, the one before i, can be copied from
module _ {l : List Mirror} {i j : ℕ} (s : Downwards l i) (e : i ≡ suc j) (h : j < length l) {b : Bool} (t : b ≡ is_good (get_or l j no_mirror)) where
  split : good_from 0 l ≡ good_from 0 (take j l) ++ cond b (j ∷ []) []
  split =
      s.rest ∙ ap (λ k. good_from 0 (take k l)) e ∙ ap (good_from 0) (take-suc l j no_mirror h) ∙ good-append 0 (take j l) (get_or l j no_mirror) ∙ rw (← t, length-take-le j l (omega (arith, h)), zero-add j)

  pub found-down : b ≡ true → j ≡ last_or 255 (good_from 0 l)
  found-down q = rw (split, q) (sym (last-append 255 j (good_from 0 (take j l))))

  pub on-down : b ≡ false → Downwards l j
  on-down q = record { rest = split ∙ rw q (append-nil (good_from 0 (take j l))) }

pub none-down : {l : List Mirror} {i : ℕ} → Downwards l i → i ≡ 0 → 255 ≡ last_or 255 (good_from 0 l)
unfolding good_from last_or
none-down s e = rw (s.rest, e)
