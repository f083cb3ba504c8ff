-- What is done at the place that is sought is what the definitions of crate recovery say of it, in this order: the place; the place that is found by the number alone; a call on one file.
use Rattle.std.proofs.Common.{◌≡◌, ℕ, zero, suc, ◌+◌, ◌<◌, Bool, true, false, cond, eqb, ltb, List, length, get_or, sym, refl, ap, ◌∙◌, true≢false, arith, lt→ltb}
use Rattle.records.proofs.Lists.{holds}
use Rattle.walks.specs.Seek.{which, seek}
use Rattle.places.specs.Places.{first, place_or}
use Rattle.files.specs.File.{FileAnswered, no_file, is_file}
use Rattle.files.specs.declared.file.File.{File}
use Rattle.places.proofs.Loops.{Searching, searching, hit, miss, over}
use Rattle.recovery.specs.Record.{Answered, place_in, put_file, on_place}
use Rattle.recovery.specs.declared.record.Record.{Record}
use Rattle.capi.specs.Place.{is_unsure, sought_in, number_in}
use Rattle.std.specs.Prelude.{Option}

-- ---- the place: a search that has come to i answers o, and n is what the places after i give
module _ {A : Type 0} (p : A → Bool) (d : A) (l : List A) (e : ℕ) (o : Option ℕ) where
  turn : (i n : ℕ) (b : Bool) → b ≡ p (get_or l i d) → Searching p l i o → i < length l → (Searching p l (i + 1) o → n ≡ place_or e o) → which b i n ≡ place_or e o
  turn i n true t s h next = ap (place_or e) (hit s d h true t refl)
  turn i n false t s h next = next (miss s d h false t refl)

  last : (i : ℕ) (b : Bool) → b ≡ p (get_or l i d) → Searching p l i o → length l ≡ i + 1 → e ≡ i → i ≡ place_or e o
  last i true t s h q = ap (place_or e) (hit s d (omega (arith, h)) true t refl)
  last i false t s h q = sym q ∙ ap (place_or e) (over (miss s d (omega (arith, h)) false t refl) (omega (arith, h)))

  pub sought : (t i : ℕ) → Searching p l i o → length l ≡ i + suc t → e ≡ i + t → seek p d l t i ≡ place_or e o
  sought zero i s h q = last i (p (get_or l i d)) refl s (omega (arith, h)) (omega (arith, q))
  sought (suc t) i s h q = turn i (seek p d l t (i + 1)) (p (get_or l i d)) refl s (omega (arith, h)) (λ s'. sought t (i + 1) s' (omega (arith, h)) (omega (arith, q)))

pub sought-place : (n : ℕ) (r : Record) → length r.files ≡ 64 → sought_in n r ≡ place_in n r
unfolding sought_in place_in
sought-place n r h = sought (is_file n) no_file r.files 63 (first (is_file n) r.files) 63 0 (searching (is_file n) r.files) (omega (arith, h)) (omega arith)

-- ---- the place that is found by q alone: where u holds of it, or it is the last, it is the first of which u and q hold, since q holds of none before it
module _ {A : Type 0} (u q : A → Bool) (d : A) (l : List A) where
  abbrev both : A → Bool
  both x = cond (u x) (q x) false

  held : (i n : ℕ) (v : Bool) → ltb i 63 ≡ true → is_unsure v i ≡ false → i ≡ which (cond v true false) i n
  held i n true before h = refl
  held i n false before h = absurd (true≢false (sym before ∙ h))

  passed : (i n : ℕ) (v : Bool) → n ≡ which (cond v false false) i n
  passed i n true = refl
  passed i n false = refl

  -- m and n are what the places after i give
  at_turn : (i m n : ℕ) (b : Bool) → ltb i 63 ≡ true → (is_unsure (u (get_or l m d)) m ≡ false → m ≡ n) → is_unsure (u (get_or l (which b i m) d)) (which b i m) ≡ false → which b i m ≡ which (cond (u (get_or l i d)) b false) i n
  at_turn i m n true before next h = held i n (u (get_or l i d)) before h
  at_turn i m n false before next h = next h ∙ passed i n (u (get_or l i d))

  pub first-of-both : (t i : ℕ) → 63 ≡ i + t → is_unsure (u (get_or l (seek q d l t i) d)) (seek q d l t i) ≡ false → seek q d l t i ≡ seek both d l t i
  first-of-both zero i e h = refl
  first-of-both (suc t) i e h = at_turn i (seek q d l t (i + 1)) (seek both d l t (i + 1)) (q (get_or l i d)) (holds (ltb i 63) (lt→ltb i 63 (omega (arith, e)))) (first-of-both t (i + 1) (omega (arith, e))) h

pub number-sought : (n : ℕ) (r : Record) → is_unsure (get_or r.files (number_in n r) no_file).used (number_in n r) ≡ false → number_in n r ≡ sought_in n r
unfolding number_in sought_in
number-sought n r h = first-of-both (λ f. f.used) (λ f. eqb f.number n) no_file r.files 63 0 (omega arith) h

-- ---- a call on one file
abbrev pub at-sought : ℕ → (File → FileAnswered) → Record → Answered
at-sought n q r = put_file r (sought_in n r) (q (get_or r.files (sought_in n r) no_file))

pub on-sought : (n : ℕ) (q : File → FileAnswered) (r : Record) → length r.files ≡ 64 → at-sought n q r ≡ on_place n q r
on-sought n q r h = ap (λ i. put_file r i (q (get_or r.files i no_file))) (sought-place n r h)
