-- The counts, in this order: a file that stays; one that gets an intent, reclaims one, or gets a stateid; one that a report marks; all of a list, which are as
-- many as are on either list.
use Rattle.std.proofs.Common.{◌≡◌, ℕ, suc, ◌+◌, ◌^◌, ◌<◌, Bool, true, false, cond, not, eqb, List, [], ◌∷◌, ◌++◌, map, length, get_or, set, sym, refl, ap, ◌∙◌, ap₂, arith}
use Rattle.places.specs.Lists.{chosen}
use Rattle.places.specs.Places.{first, bump}
use Rattle.places.proofs.Sets.{true-false}
use Rattle.mirroring.specs.Mirrors.{blamed_at}
use Rattle.mirroring.specs.declared.blame.Change.{Change}
use Rattle.wire.specs.declared.stateid.Stateid.{Stateid}
use Rattle.intents.specs.Intents.{no_intent, intent_of, is_free, first_taken, reclaimed_if, is_stated, stated_if}
use Rattle.intents.specs.declared.Intent.{Intent}
use Rattle.files.specs.Counts.{standing, recounted, with_counts, moved_by}
use Rattle.files.specs.File.{is_file, with_mark, with_mirrors, with_intents, is_listed, is_ready, standing_of, moved_head, counted_head, tallied, changed_file, raised_file, marks_file, marked_if, head_marked, head_after}
use Rattle.files.specs.declared.file.File.{File}
use Rattle.files.specs.declared.head.Head.{Head}
use Rattle.std.specs.Prelude.{Option, Some, None}

-- ---- a file that stays
pub stands : (l b : Bool) (h : Head) → moved_by (standing l b) (standing l b) h ≡ h
stands true true h = refl
stands true false h = refl
stands false b h = refl

pub moved_same : (f : File) (h : Head) → moved_head f f h ≡ h
moved_same f h = stands (is_listed f) (first_taken f.intents) h

-- ---- a file that gets an intent at the first free place has one
pub some-taken : (c : ℕ) (xs : List Intent) (i : ℕ) → first is_free xs ≡ Some i → first_taken (set xs i (intent_of c)) ≡ true
unfolding first
some-taken c [] i e = let z : ◌≡◌ {A = ℕ} 0 1 = cc in absurd (omega arith)
some-taken c (x ∷ xs) i e = by x.taken refl (first is_free xs) e
  where
    by : (b : Bool) → x.taken ≡ b → (o : Option ℕ) → cond (not b) (Some 0) (bump o) ≡ Some i → (get_or (set (x ∷ xs) i (intent_of c)) 0 no_intent).taken ≡ true
    by false t o q = let z : 0 ≡ i = cc in rw (← z)
    by true t (Some j) q = let z : suc j ≡ i = cc in rw (← z) t
    by true t None q = let z : ◌≡◌ {A = ℕ} 0 1 = cc in absurd (omega arith)

-- one whose intents change, but none that is taken or free, is where it was
pub same_taken : (g : Intent → Intent) → ((x : Intent) → (g x).taken ≡ x.taken) → (xs : List Intent) → first_taken (map g xs) ≡ first_taken xs
same_taken g e [] = refl
same_taken g e (x ∷ xs) = e x

moved-intents : (g : Intent → Intent) → ((x : Intent) → (g x).taken ≡ x.taken) → (f : File) (h : Head) → moved_head f (with_intents (map g f.intents) f) h ≡ h
moved-intents g e f h = ap (λ b. moved_by (standing_of f) (standing (is_listed f) b) h) (same_taken g e f.intents) ∙ moved_same f h

pub moved-reclaimed : (c : ℕ) (f : File) (h : Head) → moved_head f (with_intents (map (reclaimed_if c) f.intents) f) h ≡ h
moved-reclaimed c f h = moved-intents (reclaimed_if c) (λ x. refl) f h

-- a stateid moves no count
pub moved-stated : (c : ℕ) (t : Stateid) (f : File) (h : Head) → moved_head f (with_intents (map (stated_if c t) f.intents) f) h ≡ h
moved-stated c t f h = moved-intents (stated_if c t) (λ x. refl) f h

pub raised-stands : (c : ℕ) (t : Stateid) (f : File) → standing_of (raised_file c t f) ≡ standing_of f
unfolding raised_file
raised-stands c t f = by (is_stated t)
  where
    by : (b : Bool) → standing_of (cond b (with_intents (map (stated_if c t) f.intents) f) f) ≡ standing_of f
    by true = ap (standing (is_listed f)) (same_taken (stated_if c t) (λ x. refl) f.intents)
    by false = refl

-- ---- a file that a report marks, and one that it does not
only-used : (u : Bool) → cond u true false ≡ u
only-used true = refl
only-used false = refl

pub told-marks : (f : File) → standing_of (marked_if true f) ≡ standing f.used (first_taken f.intents)
told-marks f = ap (λ l. standing l (first_taken f.intents)) (only-used f.used)

-- one that is on the lists already stays where it is
pub told-listed : (f : File) (h : Head) → is_listed f ≡ true → moved_head f (marked_if true f) h ≡ h
told-listed f h l = ap (λ s. moved_by (standing_of f) s h) (told-marks f) ∙ by f.used f.marked l
  where
    by : (u m : Bool) → cond u m false ≡ true → moved_by (standing (cond u m false) (first_taken f.intents)) (standing u (first_taken f.intents)) h ≡ h
    by true true q = stands true (first_taken f.intents) h
    by true false q = true-false (sym q)
    by false m q = true-false (sym q)

-- of a report no more is told than whether it marks
pub told-change : (x : Change) (f : File) (h : Head) → head_marked (marks_file x) h f ≡ head_after x h f
unfolding head_marked head_after changed_file
told-change x f h = by x.unknown x.failed
  where
    by : (u v : Bool) → moved_head f (marked_if (cond u true v) f) h ≡ moved_head f (cond u (with_mark true f) (cond v (with_mark true (with_mirrors (blamed_at x.blamed f.mirrors) f)) f)) h
    by true v = refl
    by false true = refl
    by false false = refl

-- ---- the file of a number is one
pub is-used : (n : ℕ) (f : File) → is_file n f ≡ true → f.used ≡ true
is-used n f e = by f.used e
  where
    by : (u : Bool) → cond u (eqb f.number n) false ≡ true → u ≡ true
    by true q = refl
    by false q = true-false (sym q)

-- ---- all of a list: a loop counts one more, and all are as many as are on either list
pub tallied-snoc : (h : Head) (xs : List File) (x : File) → tallied h (xs ++ x ∷ []) ≡ counted_head (tallied h xs) x
unfolding tallied
tallied-snoc h [] x = refl
tallied-snoc h (y ∷ ys) x = tallied-snoc (counted_head h y) ys x

-- one count, of n and those of a list; one of those more
on_list : (b : Bool) (n m : ℕ) (x : File) (xs : List File) → n + suc m < 2 ^ 8 → recounted false b n + length xs ≡ n + length (cond b (x ∷ xs) xs)
on_list true n m x xs k = omega (arith, k)
on_list false n m x xs k = refl

few-more : (b : Bool) (n m : ℕ) → n + suc m < 2 ^ 8 → recounted false b n + m < 2 ^ 8
few-more true n m k = omega (arith, k)
few-more false n m k = omega (arith, k)

pub tallied-lengths : (h : Head) (fs : List File) → h.waiting + length fs < 2 ^ 8 → h.offered + length fs < 2 ^ 8
    → tallied h fs ≡ with_counts (h.waiting + length (chosen is_listed fs)) (h.offered + length (chosen is_ready fs)) h
unfolding tallied chosen
tallied-lengths h [] k j =
    let w : h.waiting ≡ h.waiting + 0 = omega arith in
    let o : h.offered ≡ h.offered + 0 = omega arith in
    ap₂ {C = Head} (λ w o. with_counts w o h) w o
tallied-lengths h (f ∷ fs) k j =
    tallied-lengths (counted_head h f) fs (few-more (is_listed f) h.waiting (length fs) k) (few-more (is_ready f) h.offered (length fs) j)
    ∙ ap₂ {C = Head} (λ w o. with_counts w o h) (on_list (is_listed f) h.waiting (length fs) f (chosen is_listed fs) k) (on_list (is_ready f) h.offered (length fs) f (chosen is_ready fs) j)
