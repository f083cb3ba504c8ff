-- Loops that move files by one place, with the laws of a step and of the end, in this order: a file is entered; the files after one are pulled down over it.
use mathlib.Core.Path.{◌≡◌, sym, ap, ◌∙◌}
use mathlib.Core.List.{List, [], ◌∷◌, append_assoc}
use mathlib.Core.Bool.{Bool, true, false}
use Prim.Native.Nat.{ℕ, suc, ◌+◌, ◌-◌, ◌<◌, ◌≤◌}
use native.Mathlib.Numerals.{add-one}
use native.Mathlib.Omega.{arith}
use lib.ListN.{length, get_or, set, drop, length-set, drop_of_length-le}
use lib.Seq.{drop-cons, take-suc-set, drop-set-lt, set_split}
use borrow.Author.Tests.{le-leb, lt-leb}
use Rattle.files.specs.File.{no_file, blank_file, is_vacant}
use Rattle.files.specs.declared.file.File.{File}
use Rattle.recovery.specs.Record.{raised, room_in, enter, pulled, without_file}

-- ---- a loop that enters x has come down to the place i; w is the list that it is to end with
pub record Raising (w : List File) (x : File) (l : List File) (i : ℕ) : Type 0 where
  pub rest : w ≡ raised x i l
  pub long : length l ≡ 64
  pub inside : i < 64

pub raising : (x : File) (l : List File) (i : ℕ) → i ≡ room_in l → i < 64 → length l ≡ 64 → Raising (enter x l) x l i
unfolding enter
raising x l i e h k = record { rest = ap (λ j. raised x j l) (sym e); long = k; inside = h }

module _ {w : List File} {x : File} {l : List File} where
  before : {i : ℕ} → Raising w x l i → 0 < i → Raising w x l (suc (i - 1))
  before s h = rw (one_on h) s
    where
      one_on : {i : ℕ} → 0 < i → suc (i - 1) ≡ i
      one_on h = omega arith

  module _ {i : ℕ} (s : Raising w x l i) (h : 0 < i) (y : File) (e : y ≡ get_or l (i - 1) no_file) where
    pub raised-here : y.number ≤ x.number → set l (i - 1 + 1) x ≡ w
    unfolding raised
    raised-here g = sym ((before s h).rest ∙ rw (← e, le-leb _ _ g) (ap (λ j. set l j x) (omega arith)))

    pub raising-on : x.number < y.number → Raising w x (set l (i - 1 + 1) y) (i - 1)
    unfolding raised
    raising-on g = record {
      rest = (before s h).rest ∙ rw (← e, lt-leb _ _ g) (ap (λ j. raised x (i - 1) (set l j y)) (omega arith));
      long = simp length-set s.long;
      inside = omega (arith, s.inside);
    }

  pub raised-last : {i : ℕ} → Raising w x l i → i ≤ 0 → set l 0 x ≡ w
  unfolding raised
  raised-last {i} s h =
      let z : i ≡ 0 = omega (arith, h) in
      sym (s.rest ∙ ap (λ j. raised x j l) z)

-- ---- a loop that pulls down has come to the place i; w is the list that it is to end with
pub record Lowering (w l : List File) (i : ℕ) : Type 0 where
  pub rest : w ≡ without_file i l
  pub long : length l ≡ 64

module _ {w l : List File} {i : ℕ} (s : Lowering w l i) where
  module _ (h : i < 63) (y : File) (e : y ≡ get_or l (i + 1) no_file) (b : Bool) (t : b ≡ is_vacant y) where
    in_list : i < length l
    in_list = omega (arith, s.long)

    after : drop (suc i) l ≡ y ∷ drop (suc (suc i)) l
    after = drop-cons l (suc i) no_file (omega (arith, s.long)) ∙ rw (e, add-one)

    here_on : drop i l ≡ get_or l i no_file ∷ y ∷ drop (suc (suc i)) l
    here_on = drop-cons l i no_file in_list ∙ rw after

    pub lowered-here : b ≡ true → (z : File) → z ≡ blank_file → set l i z ≡ w
    unfolding pulled
    lowered-here q z k = sym (s.rest ∙ rw (here_on, ← t, q, ← k) (sym (set_split l i z in_list ∙ rw after)))

    pub lowering-on : b ≡ false → Lowering w (set l i y) (i + 1)
    unfolding pulled
    lowering-on q = record {
      rest = s.rest ∙ rw (here_on, ← t, q, add-one, take-suc-set l i y in_list, drop-set-lt (suc i) l i y (omega arith), after, append_assoc);
      long = simp length-set s.long;
    }

  pub lowered-last : i ≡ 63 → (z : File) → z ≡ blank_file → set l 63 z ≡ w
  unfolding pulled
  lowered-last h z k =
      let a : 63 < length l = omega (arith, s.long) in
      let p : length l ≤ 64 = omega (arith, s.long) in
      let m : drop 64 l ≡ [] = drop_of_length-le l p in
      sym (s.rest ∙ rw (h, drop-cons l 63 no_file a, m, ← k) (sym (set_split l 63 z a ∙ rw m)))
