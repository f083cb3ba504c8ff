-- What a call that changes more than one file does is what the definitions of crate recovery say of it, in this order: a fresh record; restart and the end of grace; register; forget.
use Rattle.std.proofs.Common.{◌≡◌, ℕ, zero, suc, ◌+◌, ◌-◌, ◌<◌, ◌≤◌, max, Bool, true, false, cond, eqb, ltb, leb, List, [], ◌∷◌, ◌++◌, map, length, get_or, take, drop, set, replicate, sym, refl, ap, ◌∙◌, subst, append-nil, arith, length-append, length-drop, drop_of_length-le, length-take-le, take_all, take-suc, drop-cons, ltb-false, ltb-true, lt-ltb, eqb-true}
use Rattle.std.proofs.Math.Nat.{max-eq_left, max-eq_right}
use Rattle.std.proofs.lemmas.Bool.{leb-true, leb-false}
use lib.Seq.{append_snoc, get_or_at, set-append_seam}
use Rattle.records.proofs.Headed.{if-called}
use Rattle.records.proofs.Drawn.{draws}
use Rattle.records.proofs.Slid.{slides}
use Rattle.walks.proofs.Find.{sought as found_sought}
use Rattle.std.specs.Option.{unwrap_or}
use Rattle.std.specs.List.{position}
use Rattle.records.proofs.Each.{done, done-new, done-turn, done-all}
use Rattle.records.proofs.Tallied.{tallied as tallies, tallied-more}
use Rattle.std.proofs.lemmas.List.{map-append}
use Rattle.places.specs.Places.{first, bump, place_or}
use Rattle.places.proofs.Loops.{searching}
use Rattle.places.proofs.Sets.{true-false}
use Rattle.mirroring.specs.Mirrors.{enrolled_of}
use Rattle.files.specs.File.{FileAnswered, no_file, blank_file, is_file, is_vacant, forgettable, counted_head, tallied, ended_file}
use Rattle.files.specs.Head.{fresh_head}
use Rattle.files.specs.declared.file.File.{File}
use Rattle.files.specs.declared.head.Edition.{Edition}
use Rattle.files.specs.declared.head.Head.{Head}
use Rattle.recovery.specs.Record.{Answered, fresh_as, with_files, with_head, place_in, file_at, raised, room_in, enter, pulled, without_file, register_of, forget_of, end_of}
use Rattle.recovery.specs.declared.record.Record.{Record}
use Rattle.recovery.proofs.Tallying.{ended-counts}
use Rattle.capi.specs.Place.{sought_in}
use Rattle.capi.specs.Whole.{Verdict, verdict, ending, forget_verdict, emptied_file, ended_each, admitted_of, entered_files, slid, last_in, last_sought, pulled_files}
use Rattle.capi.proofs.Places.{sought, sought-place}
use Rattle.std.specs.Prelude.{Option, Some, None}

-- ---- a fresh record
all-emptied : (fs : List File) (n : ℕ) → length fs ≡ n → map emptied_file fs ≡ replicate n blank_file
all-emptied [] zero e = refl
all-emptied [] (suc n) e = absurd (omega (arith, e))
all-emptied (f ∷ fs) zero e = absurd (omega (arith, e))
all-emptied (f ∷ fs) (suc n) e = ap (◌∷◌ blank_file) (all-emptied fs n (omega (arith, e)))

pub fresh-so : (e : Edition) (r : Record) → length r.files ≡ 64 → with_head (fresh_head e) (with_files (map emptied_file r.files) r) ≡ fresh_as e
fresh-so e r long = ap (λ fs. record { files = fs; head = fresh_head e }) (all-emptied r.files 64 long)

-- ---- each file changed by g: a turn, of which r is the record and f the new file
pub each-turn : (g : File → File) (old r : Record) (i : ℕ) (f : File) → i < length old.files → r ≡ with_files (done g i old.files) old → f ≡ g (get_or r.files i no_file) → with_files (set r.files i f) r ≡ with_files (done g (i + 1) old.files) old
each-turn g old r i f l is made =
    ap (λ (z : Record). with_files (set r.files i f) z) is
    ∙ ap (λ fs. with_files fs old) (done-turn g i old.files no_file l r.files (ap (λ (z : Record). z.files) is) f made)

-- ---- the end of grace: what a call answers, and the record afterwards
abbrev Same : ℕ → Record → Answered → Type 0
Same s r a = (s ≡ a.status) × (r ≡ a.after)

-- the files, once all are counted
same-tally : (fs : List File) (h : Head) → tallies (λ f d. counted_head d f) fs h ≡ tallied h fs
unfolding tallied
same-tally [] h = refl
same-tally (f ∷ fs) h = same-tally fs (counted_head h f)

pub each-ended-so : (r : Record) → with_head (tallies (λ f d. counted_head d f) (map ended_file r.files) r.head) (with_files (map ended_file r.files) r) ≡ ended_each r
unfolding ended_each
each-ended-so r = ap (λ h. record { files = map ended_file r.files; head = h }) (same-tally (map ended_file r.files) r.head)

-- the head when the files before the place i were changed and counted; a turn, of which f is the file and h the head; and where no turn is left
abbrev pub counted_to : ℕ → Record → Head
counted_to i r = tallies (λ f d. counted_head d f) (map ended_file (take i r.files)) r.head

module _ (old : Record) (long : length old.files ≡ 64) (i : ℕ) where
  module _ (below : i < 64) where
    abbrev next : File
    next = ended_file (get_or old.files i no_file)

    within : i < length old.files
    within = omega (arith, long, below)

    one_more : counted_head (counted_to i old) next ≡ counted_to (i + 1) old
    one_more =
        let e : i + 1 ≡ suc i = omega arith in
        sym (tallied-more (λ f d. counted_head d f) (map ended_file (take i old.files)) next old.head)
        ∙ ap (λ zs. tallies (λ f d. counted_head d f) zs old.head) (sym (map-append ended_file (take i old.files) (get_or old.files i no_file ∷ [])) ∙ ap (map ended_file) (sym (take-suc old.files i no_file within)) ∙ ap (λ k. map ended_file (take k old.files)) (sym e))

    pub ended-next : (fs : List File) (h : Head) (f : File) (k : Head) → fs ≡ done ended_file i old.files → h ≡ counted_to i old → f ≡ ended_file (get_or fs i no_file) → k ≡ counted_head h f
        → (set fs i f ≡ done ended_file (i + 1) old.files) × (k ≡ counted_to (i + 1) old)
    ended-next fs h f k so_far told made counts = (
      done-turn ended_file i old.files no_file within fs so_far f made,
      counts ∙ ap (λ (z : Head). counted_head z f) told ∙ ap (counted_head (counted_to i old)) (done-new ended_file i old.files no_file within fs so_far f made) ∙ one_more,
    )

  pub ended-all : 64 ≤ i → (fs : List File) (h : Head) → fs ≡ done ended_file i old.files → h ≡ counted_to i old → with_head h (with_files fs old) ≡ ended_each old
  ended-all past fs h so_far told =
      let all : length old.files ≤ i = omega (arith, long, past) in
      ap (λ (zs : List File). with_head h (with_files zs old)) so_far ∙ ap (λ (z : Head). with_head z (with_files (done ended_file i old.files) old)) told
      ∙ rw (done-all ended_file i old.files all, take_all i old.files all) (each-ended-so old)

pub ended_so : (r : Record) → length r.files ≡ 64 → r.head.grace ≡ true → Same 0 (ended_each (with_head (ending r.head) r)) (end_of r)
unfolding ended_each end_of
ended_so r long e = rw e (refl, ap (λ h. record { files = map ended_file r.files; head = h }) (ended-counts r.files r.head long))

pub out-of-grace : (r : Record) → r.head.grace ≡ false → Same 10033 r (end_of r)
unfolding end_of
out-of-grace r e = rw e (refl, refl)

-- ---- register
room-so : (fs : List File) → length fs ≡ 64 → unwrap_or (position is_vacant (take 63 fs)) 63 ≡ room_in fs
unfolding room_in
room-so fs h = found_sought is_vacant 63 no_file fs (omega (arith, h)) ∙ sought is_vacant no_file fs 63 (first is_vacant fs) 63 0 (searching is_vacant fs) (omega (arith, h)) (omega arith)

-- a turn: it enters the file above one that stays, or moves one up; and at the first place
module _ (x : File) where
  pub raised-stops : (i : ℕ) (fs : List File) → 0 < i → leb (get_or fs (i - 1) no_file).number x.number ≡ true → raised x i fs ≡ set fs i x
  unfolding raised
  raised-stops zero fs l h = absurd (omega (arith, l))
  raised-stops (suc i) fs l h =
      let e : suc i - 1 ≡ i = omega arith in
      ap (λ b. cond b (set fs (suc i) x) (raised x i (set fs (suc i) (get_or fs i no_file)))) (ap (λ k. leb (get_or fs k no_file).number x.number) (sym e) ∙ h)

  pub raised-goes : (i : ℕ) (fs : List File) → 0 < i → leb (get_or fs (i - 1) no_file).number x.number ≡ false → raised x i fs ≡ raised x (i - 1) (set fs i (get_or fs (i - 1) no_file))
  unfolding raised
  raised-goes zero fs l h = absurd (omega (arith, l))
  raised-goes (suc i) fs l h =
      let e : suc i - 1 ≡ i = omega arith in
      ap (λ b. cond b (set fs (suc i) x) (raised x i (set fs (suc i) (get_or fs i no_file)))) (ap (λ k. leb (get_or fs k no_file).number x.number) (sym e) ∙ h)
      ∙ ap (λ k. raised x k (set fs (suc i) (get_or fs k no_file))) (sym e)

  pub raised-over : (i : ℕ) (fs : List File) → i ≤ 0 → raised x i fs ≡ set fs i x
  unfolding raised
  raised-over zero fs h = refl
  raised-over (suc i) fs h = absurd (omega (arith, h))

pub entered_so : (r : Record) (x : File) → length r.files ≡ 64 → with_files (raised x (unwrap_or (position is_vacant (take 63 r.files)) 63) r.files) r ≡ with_files (enter x r.files) r
unfolding enter
entered_so r x long = ap (λ i. with_files (raised x i r.files) r) (room-so r.files long)

-- a place that is found passes
module _ {A : Type 0} (p : A → Bool) (d : A) where
  item-passes : (b : Bool) (o : Option ℕ) (k : ℕ) (x : A) (xs : List A) → p x ≡ b → cond b (Some 0) (bump o) ≡ Some k → ((j : ℕ) → o ≡ Some j → p (get_or xs j d) ≡ true) → p (get_or (x ∷ xs) k d) ≡ true
  item-passes true o k x xs t e f = let q : 0 ≡ k = cc in subst (λ (j : ℕ). p (get_or (x ∷ xs) j d) ≡ true) q t
  item-passes false (Some j) k x xs t e f = let q : suc j ≡ k = cc in subst (λ (i : ℕ). p (get_or (x ∷ xs) i d) ≡ true) q (f j refl)
  item-passes false None k x xs t e f = let z : ◌≡◌ {A = ℕ} 0 1 = cc in absurd (omega arith)

  found-passes : (l : List A) (k : ℕ) → first p l ≡ Some k → p (get_or l k d) ≡ true
  unfolding first
  found-passes [] k e = let z : ◌≡◌ {A = ℕ} 0 1 = cc in absurd (omega arith)
  found-passes (x ∷ xs) k e = item-passes (p x) (first p xs) k x xs refl e (λ j q. found-passes xs j q)

-- so where the file is none that is registered, it is the last place
not_found : (n : ℕ) (r : Record) → is_file n (file_at n r) ≡ false → file_at n r ≡ get_or r.files 63 no_file
unfolding place_in
not_found n r e = by (first (is_file n) r.files) refl
  where
    by : (o : Option ℕ) → first (is_file n) r.files ≡ o → get_or r.files (place_or 63 (first (is_file n) r.files)) no_file ≡ get_or r.files 63 no_file
    by (Some k) q =
        let hit : is_file n (get_or r.files k no_file) ≡ true = found-passes (is_file n) no_file r.files k q in
        let miss : is_file n (get_or r.files (place_or 63 (Some k)) no_file) ≡ false = subst (λ (o : Option ℕ). is_file n (get_or r.files (place_or 63 o) no_file) ≡ false) q e in
        true-false (sym hit ∙ miss)
    by None q = ap (λ (o : Option ℕ). get_or r.files (place_or 63 o) no_file) q

-- the record once a call has been answered s
abbrev pub after-entering : Record → ℕ → FileAnswered → Record
after-entering r at s = with_head s.head (if-called (eqb s.status 0) (entered_files r at s) r)

abbrev Alike : ℕ → List ℕ → Record → Type 0
Alike n m r = Same (admitted_of n r.head m (file_at n r)).status (after-entering r (place_in n r) (admitted_of n r.head m (file_at n r))) (register_of n m r)

pub registered-so : (n : ℕ) (m : List ℕ) (r : Record) → length r.files ≡ 64
    → Same (admitted_of n r.head m (get_or r.files (sought_in n r) no_file)).status (after-entering r (sought_in n r) (admitted_of n r.head m (get_or r.files (sought_in n r) no_file))) (register_of n m r)
unfolding register_of admitted_of entered_files place_in enrolled_of
registered-so n m r h = rw (sought-place n r h) (by-phase r.head.grace refl)
  where
    by-full : (b : Bool) → (file_at n r).used ≡ b → is_file n (file_at n r) ≡ false → (enrolled_of m).good ≡ true → r.head.grace ≡ false → Alike n m r
    by-full true u i e g = rw (g, e, i, u, sym (ap (λ (f : File). f.used) (not_found n r i)) ∙ u) (refl, refl)
    by-full false u i e g = rw (g, e, i, u, sym (ap (λ (f : File). f.used) (not_found n r i)) ∙ u) (refl, refl)

    by-file : (b : Bool) → is_file n (file_at n r) ≡ b → (enrolled_of m).good ≡ true → r.head.grace ≡ false → Alike n m r
    by-file true i e g = rw (g, e, i) (refl, refl)
    by-file false i e g = by-full (file_at n r).used refl i e g

    by-list : (b : Bool) → (enrolled_of m).good ≡ b → r.head.grace ≡ false → Alike n m r
    by-list true e g = by-file (is_file n (file_at n r)) refl e g
    by-list false e g = rw (g, e) (refl, refl)

    by-phase : (b : Bool) → r.head.grace ≡ b → Alike n m r
    by-phase true g = rw g (refl, refl)
    by-phase false g = by-list (enrolled_of m).good refl g

-- ---- forget
-- what the turns of `slide` make, those before it being done
module _ {A : Type 0} (none : A) where
  slides-after : (p : List A) (x : A) (ys : List A) → slides none (length ys) (length p) (p ++ x ∷ ys) ≡ p ++ slid (x ∷ ys)
  unfolding slid
  slides-after p x [] = refl
  slides-after p x (y ∷ ys) =
      ap (λ (zs : List A). slides none (length ys) (suc (length p)) zs) (ap (λ (z : A). set (p ++ x ∷ y ∷ ys) (length p) z) next ∙ set-append_seam p x (y ∷ ys) y)
      ∙ ap (λ (n : ℕ). slides none (length ys) n (p ++ y ∷ y ∷ ys)) (sym (one_more y))
      ∙ ap (λ (zs : List A). slides none (length ys) (length (p ++ (y ∷ []))) zs) (sym (append_snoc p y (y ∷ ys)))
      ∙ slides-after (p ++ (y ∷ [])) y ys ∙ append_snoc p y (slid (y ∷ ys))
    where
      one_more : (z : A) → length (p ++ (z ∷ [])) ≡ suc (length p)
      one_more z = let e : length (p ++ (z ∷ [])) ≡ length p + 1 = length-append p (z ∷ []) in omega (arith, e)

      next : get_or (p ++ x ∷ y ∷ ys) (suc (length p)) none ≡ y
      next = ap (λ (zs : List A). get_or zs (suc (length p)) none) (sym (append_snoc p x (y ∷ ys))) ∙ get_or_at (p ++ (x ∷ [])) y ys none (suc (length p)) (one_more x)

  pub slid-so : (xs : List A) → slides none (length xs - 1) 0 xs ≡ slid xs
  unfolding slid
  slid-so [] = refl
  slid-so (x ∷ xs) = let e : suc (length xs) - 1 ≡ length xs = omega arith in rw e (slides-after [] x xs)

pub slid-long : {A : Type 0} (xs : List A) → length (slid xs) ≡ length xs
unfolding slid
slid-long [] = refl
slid-long (x ∷ []) = refl
slid-long (x ∷ y ∷ ys) = ap suc (slid-long (y ∷ ys))

-- how many files follow the first before a free place
abbrev run : List File → ℕ
run [] = 0
run (x ∷ []) = 0
run (x ∷ y ∷ ys) = cond (is_vacant y) 0 (suc (run (y ∷ ys)))

run-below : (x : File) (ys : List File) → run (x ∷ ys) < length (x ∷ ys)
run-below x [] = omega arith
run-below x (y ∷ ys) = by (is_vacant y) (run-below y ys)
  where
    by : (b : Bool) → run (y ∷ ys) < suc (length ys) → cond b 0 (suc (run (y ∷ ys))) < suc (suc (length ys))
    by true l = omega arith
    by false l = omega (arith, l)

-- the run slid down, with its last place emptied
run-pulled : (x : File) (ys : List File) → set (slid (take (suc (run (x ∷ ys))) (x ∷ ys)) ++ drop (suc (run (x ∷ ys))) (x ∷ ys)) (run (x ∷ ys)) blank_file ≡ pulled (x ∷ ys)
unfolding slid pulled
run-pulled x [] = refl
run-pulled x (y ∷ ys) = by (is_vacant y) (run-pulled y ys)
  where
    at : Bool → ℕ
    at b = cond b 0 (suc (run (y ∷ ys)))

    by : (b : Bool) → set (slid (take (suc (run (y ∷ ys))) (y ∷ ys)) ++ drop (suc (run (y ∷ ys))) (y ∷ ys)) (run (y ∷ ys)) blank_file ≡ pulled (y ∷ ys)
        → set (slid (take (suc (at b)) (x ∷ y ∷ ys)) ++ drop (suc (at b)) (x ∷ y ∷ ys)) (at b) blank_file ≡ cond b (blank_file ∷ y ∷ ys) (y ∷ pulled (y ∷ ys))
    by true e = refl
    by false e = ap (◌∷◌ y) e

-- what it answers is no place before the one it began at
last-from : (fs : List File) (t i : ℕ) → i ≤ last_in fs t i
unfolding last_in
last-from fs zero i = omega arith
last-from fs (suc t) i = by (is_vacant (get_or fs (i + 1) no_file)) (last-from fs t (i + 1))
  where
    by : (b : Bool) → i + 1 ≤ last_in fs t (i + 1) → i ≤ cond b i (last_in fs t (i + 1))
    by true h = omega arith
    by false h = omega (arith, h)

pub last-past : (r : Record) (at : ℕ) → at ≤ last_sought r at
unfolding last_sought
last-past r at = last-from r.files (63 - at) at

-- a turn: it stops before a free place, or goes on; and where no turn is left
module _ (fs : List File) (n i : ℕ) (below : i < n) where
  one-turn : last_in fs (n - i) i ≡ cond (is_vacant (get_or fs (i + 1) no_file)) i (last_in fs (n - (i + 1)) (i + 1))
  unfolding last_in
  one-turn = let e : n - i ≡ suc (n - (i + 1)) = omega (arith, below) in ap (λ t. last_in fs t i) e

  pub last-stops : is_vacant (get_or fs (i + 1) no_file) ≡ true → last_in fs (n - i) i ≡ i
  last-stops h = one-turn ∙ ap (λ b. cond b i (last_in fs (n - (i + 1)) (i + 1))) h

  pub last-goes : is_vacant (get_or fs (i + 1) no_file) ≡ false → last_in fs (n - i) i ≡ last_in fs (n - (i + 1)) (i + 1)
  last-goes h = one-turn ∙ ap (λ b. cond b i (last_in fs (n - (i + 1)) (i + 1))) h

pub last-over : (fs : List File) (n i : ℕ) → n ≤ i → last_in fs (n - i) i ≡ i
unfolding last_in
last-over fs n i h = let e : n - i ≡ 0 = omega (arith, h) in ap (λ t. last_in fs t i) e

-- where no turn is left of the loop that began at the place at: it has come to the place i, and answers m
pub last-none : (r : Record) (at i m : ℕ) → m ≡ max at 63 → (at ≤ 63 → i ≤ 63) → 63 ≤ i → last_in r.files (63 - i) i ≡ last_sought r at → m ≡ last_sought r at
unfolding last_sought
last-none r at i m is few all so = by (leb at 63) refl
  where
    by : (b : Bool) → leb at 63 ≡ b → m ≡ last_in r.files (63 - at) at
    by true e =
        let low : at ≤ 63 = leb-true at 63 e in
        let end : i ≡ 63 = omega (arith, few low, all) in
        is ∙ max-eq_right low ∙ sym end ∙ sym (last-over r.files 63 i all) ∙ so
    by false e =
        let high : 63 < at = leb-false at 63 e in
        is ∙ max-eq_left (omega (arith, high)) ∙ sym (last-over r.files 63 at (omega (arith, high)))

last-run : (fs : List File) (t i : ℕ) → i + suc t ≡ length fs → last_in fs t i ≡ i + run (drop i fs)
unfolding last_in
last-run fs zero i e =
    let none_left : length fs ≤ suc i = omega (arith, e) in
    rw (drop-cons fs i no_file (omega (arith, e)), drop_of_length-le fs none_left) (omega arith)
last-run fs (suc t) i e =
    let n : i + 1 ≡ suc i = omega arith in
    rw (n, last-run fs t (suc i) (omega (arith, e)), drop-cons fs i no_file (omega (arith, e)), drop-cons fs (suc i) no_file (omega (arith, e))) (by (is_vacant (get_or fs (suc i) no_file)) (run (get_or fs (suc i) no_file ∷ drop (suc (suc i)) fs)))
  where
    by : (b : Bool) (m : ℕ) → cond b i (suc i + m) ≡ i + cond b 0 (suc m)
    by true m = omega arith
    by false m = omega arith

pub set_past : {A : Type 0} (e : A) (p zs : List A) (n : ℕ) → set (p ++ zs) (length p + n) e ≡ p ++ set zs n e
set_past e [] zs n = let q : 0 + n ≡ n = omega arith in rw q refl
set_past e (x ∷ p) zs n = let q : suc (length p) + n ≡ suc (length p + n) = omega arith in rw q (ap (◌∷◌ x) (set_past e p zs n))

pub pulled-so : (r : Record) (at : ℕ) (v : Verdict) → length r.files ≡ 64 → with_files (draws 64 blank_file slid r.files at (last_sought r at)) r ≡ pulled_files r at v
unfolding last_sought pulled_files pulled last_in
pulled-so r at v long = by (ltb at 64) refl
  where
    fs : List File
    fs = r.files

    inside : at < 64 → with_files (draws 64 blank_file slid fs at (last_in fs (63 - at) at)) r ≡ with_files (without_file at fs) r
    inside l =
        let here : drop at fs ≡ get_or fs at no_file ∷ drop (suc at) fs = drop-cons fs at no_file (omega (arith, l, long)) in
        let m : ℕ = run (drop at fs) in
        let far : last_in fs (63 - at) at ≡ at + m = last-run fs (63 - at) at (omega (arith, l, long)) in
        let few : m < length (drop at fs) = subst (λ (zs : List File). run zs < length zs) (sym here) (run-below (get_or fs at no_file) (drop (suc at) fs)) in
        let left : length (drop at fs) ≡ length fs - at = length-drop at fs in
        let k : at + m + 1 - at ≡ suc m = omega arith in
        let front : length (take at fs) ≡ at = length-take-le at fs (omega (arith, l, long)) in
        rw (far, lt-ltb (at + m) 64 (omega (arith, few, left, long, l)), k)
        (ap (λ zs. with_files zs r) (ap (λ (n : ℕ). set (take at fs ++ (slid (take (suc m) (drop at fs)) ++ drop (suc m) (drop at fs))) (n + m) blank_file) (sym front)
        ∙ set_past blank_file (take at fs) (slid (take (suc m) (drop at fs)) ++ drop (suc m) (drop at fs)) m
        ∙ ap (λ zs. take at fs ++ zs) (subst (λ (zs : List File). set (slid (take (suc (run zs)) zs) ++ drop (suc (run zs)) zs) (run zs) blank_file ≡ pulled zs) (sym here) (run-pulled (get_or fs at no_file) (drop (suc at) fs)))))

    by : (b : Bool) → ltb at 64 ≡ b → with_files (draws 64 blank_file slid fs at (last_in fs (63 - at) at)) r ≡ with_files (without_file at fs) r
    by true e = inside (ltb-true at 64 e)
    by false e =
        let l : 64 ≤ at = ltb-false at 64 e in
        let z : 63 - at ≡ 0 = omega (arith, l) in
        let k : length fs ≤ at = omega (arith, long, l) in
        rw (z, e, take_all at fs k, drop_of_length-le fs k, append-nil)

-- the record once a call has been answered v
abbrev pub after-pulling : Record → ℕ → Verdict → Record
after-pulling r at v = with_head v.head (if-called (eqb v.status 0) (pulled_files r at v) r)

pub forgotten-so : (n : ℕ) (r : Record) → length r.files ≡ 64
    → Same (forget_verdict n r.head (get_or r.files (sought_in n r) no_file)).status (after-pulling r (sought_in n r) (forget_verdict n r.head (get_or r.files (sought_in n r) no_file))) (forget_of n r)
unfolding pulled_files forget_of
forgotten-so n r h = rw (sought-place n r h) (by (eqb (forgettable n r.head (file_at n r)) 0) refl)
  where
    by : (b : Bool) → eqb (forgettable n r.head (file_at n r)) 0 ≡ b → Same (forget_verdict n r.head (file_at n r)).status (after-pulling r (place_in n r) (forget_verdict n r.head (file_at n r))) (forget_of n r)
    by true e = rw e (eqb-true _ _ e, refl)
    by false e = rw e (refl, refl)

-- the same in two, by the status s that is answered: the file that goes, and the record as it was
module _ (n : ℕ) (r : Record) (long : length r.files ≡ 64) (s : ℕ) (is : s ≡ forgettable n r.head (get_or r.files (sought_in n r) no_file)) where
  answered : Same s (with_head r.head (if-called (eqb s 0) (pulled_files r (sought_in n r) (verdict s r.head)) r)) (forget_of n r)
  answered = subst (λ (k : ℕ). Same k (with_head r.head (if-called (eqb k 0) (pulled_files r (sought_in n r) (verdict k r.head)) r)) (forget_of n r)) (sym is) (forgotten-so n r long)

  pub freed-so : s ≡ 0 → Same 0 (pulled_files r (sought_in n r) (verdict 0 r.head)) (forget_of n r)
  unfolding pulled_files
  freed-so e = subst (λ (k : ℕ). Same k (with_head r.head (if-called (eqb k 0) (pulled_files r (sought_in n r) (verdict k r.head)) r)) (forget_of n r)) e answered

  pub kept-so : eqb s 0 ≡ false → Same s r (forget_of n r)
  kept-so e = subst (λ (b : Bool). Same s (with_head r.head (if-called b (pulled_files r (sought_in n r) (verdict s r.head)) r)) (forget_of n r)) e answered
