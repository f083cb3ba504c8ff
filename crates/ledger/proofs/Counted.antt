-- The two counts are the lengths of the two lists: `counted : CountsAgree`. In this order: how many of a list pass, where one is changed, entered or taken out;
-- the counts of a record; each call on one file moves them by what the file adds before and after; LAYOUTRETURN; register; forget; restart; the end of grace; a step; any list of calls.
use mathlib.Core.Path.{◌≡◌, refl, ap, ap₂, sym, ◌∙◌}
use mathlib.Core.List.{List, [], ◌∷◌, ◌++◌, map}
use mathlib.Core.Bool.{Bool, true, false, not, cond}
use Prim.Native.Nat.{ℕ, zero, suc, ◌+◌, ◌<◌, ◌≤◌}
use native.Mathlib.Omega.{arith}
use lib.ListN.{get_or, set, length, take, drop, length-set, take-append-drop}
use lib.Seq.{drop-cons, get_or-set_other}
use lib.Dec.{eqb, leb}
use Rattle.reports.specs.Report.{report_of}
use Rattle.wire.specs.Request.{body_of}
use Rattle.wire.specs.Stateid.{new_stateid, stateid_in}
use Rattle.places.specs.Lists.{chosen}
use Rattle.places.specs.Places.{first, bump, place_or}
use Rattle.places.proofs.Loops.{found_below}
use Rattle.places.proofs.Sets.{true-false}
use Rattle.places.proofs.Slots.{chosen-length, slots-chosen, pairs-length}
use Rattle.mirroring.specs.Mirrors.{enrolled_of, Enrolled}
use Rattle.intents.specs.Intents.{first_taken, unreclaimed_intent}
use Rattle.files.specs.Counts.{recounted}
use Rattle.files.specs.File.{FileAnswered, no_file, blank_file, file_of, is_file, is_vacant, is_listed, is_ready, moved_head, opened_file, reclaimed_file, closed_file, repaired_file, proxy_added_file, proxy_removed_file, stated_file, forgettable, restarted_file, ended_file}
use Rattle.files.specs.declared.file.File.{File}
use Rattle.files.specs.declared.head.Edition.{Edition}
use Rattle.files.specs.declared.head.Head.{Head}
use Rattle.files.proofs.Counting.{moved_same, same_taken}
use Rattle.layoutreturn.specs.LayoutReturn.{decision_of, Decision}
use Rattle.layoutreturn.specs.LayoutReturn as decision
use Rattle.recovery.specs.Calls.{Call, register, opening, set_up, reclaim, close, repaired, add_proxy, remove_proxy, forget, end_grace, restart, layout_return, listing}
use Rattle.recovery.specs.Counts.{counts}
use Rattle.recovery.specs.LayoutReturn.{answered_by, report_file, return_file, reported_of, ordinary_of, returned_by, layoutreturn_of}
use Rattle.recovery.specs.Record.{Answered, fresh_as, with_files, answered, place_in, file_at, on_place, open_of, is_barred, set_up_of, reclaim_of, close_of, repaired_of, add_proxy_of, remove_proxy_of, raised, room_in, enter, pulled, without_file, is_full, register_with, register_of, forgets, forget_of, ended_head, end_of, restart_of, is_wanted}
use Rattle.recovery.specs.declared.counts.Counts.{Counts}
use Rattle.recovery.specs.declared.listing.Listing.TheVariants.{Resilver, Offered}
use Rattle.recovery.specs.declared.record.Record.{Record}
use Rattle.ledger.specs.Counts.{CountsAgree}
use Rattle.ledger.specs.Ledger.{Ledger, no_rows, feed, is_on}
use Rattle.ledger.specs.History.{step, record_after}
use Rattle.ledger.proofs.Calls.{same_test, free-not-on}
use Rattle.ledger.proofs.History.{step-agrees, after-all, fresh-matches}
use Rattle.ledger.proofs.OneCall.{Does, keeps, makes, open-does, set-up-does, reclaim-does, close-does, repaired-does, add-proxy-does, remove-proxy-does, report-does, return-does}
use Rattle.ledger.proofs.Relation.{Matches}
use Rattle.std.specs.Prelude.{Option, Some, None}

-- ---- how many of a list pass
abbrev one : Bool → ℕ
one true = 1
one false = 0

module _ {A : Type 0} (p : A → Bool) where
  abbrev many : List A → ℕ
  many xs = length (chosen p xs)

  many-cons : (x : A) (xs : List A) → many (x ∷ xs) ≡ one (p x) + many xs
  unfolding chosen
  many-cons x xs = by (p x)
    where
      by : (b : Bool) → length (cond b (x ∷ chosen p xs) (chosen p xs)) ≡ one b + length (chosen p xs)
      by true = omega arith
      by false = omega arith

  many-append : (xs ys : List A) → many (xs ++ ys) ≡ many xs + many ys
  unfolding chosen
  many-append [] ys = omega arith
  many-append (x ∷ xs) ys = omega (arith, many-cons x xs, many-cons x (xs ++ ys), many-append xs ys)

  -- one is changed
  many-set : (d : A) (xs : List A) (i : ℕ) (y : A) → i < length xs → many (set xs i y) + one (p (get_or xs i d)) ≡ many xs + one (p y)
  many-set d [] i y l = absurd (omega (arith, l))
  many-set d (x ∷ xs) zero y l = omega (arith, many-cons x xs, many-cons y xs)
  many-set d (x ∷ xs) (suc i) y l = omega (arith, many-cons x xs, many-cons x (set xs i y), many-set d xs i y (omega (arith, l)))

  -- all are changed, and none in this
  many-map : (g : A → A) → ((x : A) → p (g x) ≡ p x) → (xs : List A) → many (map g xs) ≡ many xs
  many-map g e [] = refl
  many-map g e (x ∷ xs) = omega (arith, many-cons x xs, many-cons (g x) (map g xs), many-map g e xs, ap one (e x))

  first_passes : (d : A) (xs : List A) (i : ℕ) → first p xs ≡ Some i → p (get_or xs i d) ≡ true
  unfolding first
  first_passes d [] i e = let z : ◌≡◌ {A = ℕ} 0 1 = cc in absurd (omega arith)
  first_passes d (x ∷ xs) i e = by (p x) refl (first p xs) (λ j q. first_passes d xs j q) e
    where
      by : (b : Bool) → p x ≡ b → (o : Option ℕ) → ((j : ℕ) → o ≡ Some j → p (get_or xs j d) ≡ true) → cond b (Some 0) (bump o) ≡ Some i → p (get_or (x ∷ xs) i d) ≡ true
      by true t o q k = let z : 0 ≡ i = cc in rw (← z) t
      by false t (Some j) q k = let z : suc j ≡ i = cc in rw (← z) (q j refl)
      by false t None q k = let z : ◌≡◌ {A = ℕ} 0 1 = cc in absurd (omega arith)

-- a file is entered from the place i down, or taken out
module _ (p : File → Bool) where
  raised-many : (x : File) (i : ℕ) (fs : List File) → i < length fs → many p (raised x i fs) + one (p (get_or fs i no_file)) ≡ many p fs + one (p x)
  unfolding raised
  raised-many x zero fs l = many-set p no_file fs 0 x l
  raised-many x (suc i) fs l =
      let y = get_or fs i no_file in
      by (leb y.number x.number) (raised-many x i (set fs (suc i) y) (omega (arith, l, length-set fs (suc i) y)))
    where
      by : (b : Bool) → many p (raised x i (set fs (suc i) (get_or fs i no_file))) + one (p (get_or (set fs (suc i) (get_or fs i no_file)) i no_file)) ≡ many p (set fs (suc i) (get_or fs i no_file)) + one (p x)
          → many p (cond b (set fs (suc i) x) (raised x i (set fs (suc i) (get_or fs i no_file)))) + one (p (get_or fs (suc i) no_file)) ≡ many p fs + one (p x)
      by true k = many-set p no_file fs (suc i) x l
      by false k = omega (arith, k, ap (λ z. one (p z)) (get_or-set_other fs (suc i) i (get_or fs i no_file) no_file (λ e. omega (arith, e))), many-set p no_file fs (suc i) (get_or fs i no_file) l)

  pulled-many : (x : File) (xs : List File) → p blank_file ≡ false → many p (pulled (x ∷ xs)) + one (p x) ≡ many p (x ∷ xs)
  unfolding pulled
  pulled-many x [] e = omega (arith, many-cons p x [], many-cons p blank_file [], ap one e)
  pulled-many x (y ∷ ys) e = by (is_vacant y) (pulled-many y ys e)
    where
      by : (b : Bool) → many p (pulled (y ∷ ys)) + one (p y) ≡ many p (y ∷ ys) → many p (cond b (blank_file ∷ y ∷ ys) (y ∷ pulled (y ∷ ys))) + one (p x) ≡ many p (x ∷ y ∷ ys)
      by true k = omega (arith, many-cons p x (y ∷ ys), many-cons p blank_file (y ∷ ys), ap one e)
      by false k = omega (arith, many-cons p x (y ∷ ys), many-cons p y (pulled (y ∷ ys)), k)

  without-many : (i : ℕ) (fs : List File) → p blank_file ≡ false → i < length fs → p (get_or fs i no_file) ≡ false → many p (without_file i fs) ≡ many p fs
  without-many i fs e l q =
      let parts : drop i fs ≡ get_or fs i no_file ∷ drop (suc i) fs = drop-cons fs i no_file l in
      omega (arith, many-append p (take i fs) (pulled (drop i fs)), many-append p (take i fs) (drop i fs), ap (many p) (take-append-drop i fs), ap (λ xs. many p (pulled xs)) parts, ap (many p) parts, pulled-many (get_or fs i no_file) (drop (suc i) fs) e, ap one q)

-- ---- the counts of a record
pub record Counted (r : Record) : Type 0 where
  pub waiting : r.head.waiting ≡ many is_listed r.files
  pub offered : r.head.offered ≡ many is_ready r.files

-- a count is moved as a file is; n are on the list with the file and m with what it becomes
recount : (a b : Bool) (n m : ℕ) → m + one a ≡ n + one b → m ≤ 64 → n ≤ 64 → recounted a b n ≡ m
recount true true n m e j k = omega (arith, e)
recount true false n m e j k = omega (arith, e, j)
recount false true n m e j k = omega (arith, e, j)
recount false false n m e j k = omega (arith, e)

module _ (p : File → Bool) (fs : List File) (long : length fs ≡ 64) where
  few : many p fs ≤ 64
  few = omega (arith, long, chosen-length p fs)

  few-set : (i : ℕ) (g : File) → many p (set fs i g) ≤ 64
  few-set i g = omega (arith, long, length-set fs i g, chosen-length p (set fs i g))

  recount-set : (i : ℕ) (g : File) → i < 64 → (n : ℕ) → n ≡ many p fs → recounted (p (get_or fs i no_file)) (p g) n ≡ many p (set fs i g)
  recount-set i g l n e =
      ap (recounted (p (get_or fs i no_file)) (p g)) e
      ∙ recount (p (get_or fs i no_file)) (p g) (many p fs) (many p (set fs i g)) (many-set p no_file fs i g (omega (arith, l, long))) (few-set i g) few

-- ---- calls on one file
head-moves : {d : Head} {f : File} (a : FileAnswered) → Does d f a → a.head ≡ moved_head f a.file d
head-moves {d} {f} a (keeps s) = sym (moved_same f d)
head-moves a (makes e g k) = sym k

place_inside : (n : ℕ) (r : Record) → length r.files ≡ 64 → place_in n r < 64
unfolding place_in
place_inside n r long = by (first (is_file n) r.files) refl
  where
    by : (o : Option ℕ) → first (is_file n) r.files ≡ o → place_or 63 o < 64
    by (Some k) e = omega (arith, long, found_below (is_file n) r.files k e)
    by None e = omega arith

on-place : (n : ℕ) (h : File → FileAnswered) (r : Record) → length r.files ≡ 64 → Counted r → Does r.head (file_at n r) (h (file_at n r)) → Counted (on_place n h r).after
on-place n h r long c k =
    let f = (h (file_at n r)).file in
    let m = head-moves (h (file_at n r)) k in
    record {
      waiting = ap (λ (d : Head). d.waiting) m ∙ recount-set is_listed r.files long (place_in n r) f (place_inside n r long) r.head.waiting c.waiting;
      offered = ap (λ (d : Head). d.offered) m ∙ recount-set is_ready r.files long (place_in n r) f (place_inside n r long) r.head.offered c.offered;
    }

-- ---- LAYOUTRETURN, by what was decided before any file was looked at
return-by : (n c : ℕ) (s : List ℕ) (r : Record) → length r.files ≡ 64 → Counted r → (x : Decision) → Counted (returned_by n c s r x).after
unfolding reported_of ordinary_of
return-by n c s r long k (decision.Answered t) = k
return-by n c s r long k decision.HandedOn = k
return-by n c s r long k (decision.ReadBody len) =
    on-place n (λ f. answered_by f (report_file n c s r f)) r long k (report-does r.head (file_at n r) n c (report_of (body_of s)))
return-by n c s r long k (decision.ReturnBody len) =
    on-place n (λ f. answered_by f (return_file n c s r f)) r long k (return-does r.head (file_at n r) n c (stateid_in s) (report_of (body_of s)))

-- ---- other files, of which as many are on either list
with-files : (r : Record) (fs : List File) → Counted r → ((p : File → Bool) → ((f : File) → is_listed f ≡ false → p f ≡ false) → many p fs ≡ many p r.files) → Counted (with_files fs r)
with-files r fs c e = record { waiting = c.waiting ∙ sym (e is_listed (λ f q. q)); offered = c.offered ∙ sym (e is_ready (λ f q. ap (λ b. cond b (not (first_taken f.intents)) false) q)) }

record CountedBy (a : Answered) : Type 0 where
  so : Counted a.after

answering : (s : ℕ) {r : Record} → Counted r → CountedBy (answered s r)
answering s c = record { so = c }

by-test : {a b : Answered} (t : Bool) → CountedBy a → CountedBy b → CountedBy (cond t a b)
by-test true h k = h
by-test false h k = k

-- ---- register: the place that is given up is free, and the new file is not marked
unused : (f : File) → is_vacant f ≡ true → is_listed f ≡ false
unused f e = by f.used e
  where
    by : (u : Bool) → not u ≡ true → cond u f.marked false ≡ false
    by true q = true-false (sym q)
    by false q = refl

room-free : (r : Record) → length r.files ≡ 64 → is_full r ≡ false → (room_in r.files < 64) × (is_listed (get_or r.files (room_in r.files) no_file) ≡ false)
unfolding room_in
room-free r long e = by (first is_vacant r.files) refl
  where
    by : (o : Option ℕ) → first is_vacant r.files ≡ o → (place_or 63 o < 64) × (is_listed (get_or r.files (place_or 63 o) no_file) ≡ false)
    by (Some k) q = (omega (arith, long, found_below is_vacant r.files k q), unused (get_or r.files k no_file) (first_passes is_vacant no_file r.files k q))
    by None q = (omega arith, ap (λ u. cond u (get_or r.files 63 no_file).marked false) e)

entered : (x : File) (r : Record) → length r.files ≡ 64 → is_full r ≡ false → is_listed x ≡ false → Counted r → Counted (with_files (enter x r.files) r)
unfolding enter
entered x r long e q c =
    let k = room-free r long e in
    with-files r (raised x (room_in r.files) r.files) c
    (λ p out. omega (arith, raised-many p x (room_in r.files) r.files (omega (arith, k.0, long)), ap one (out (get_or r.files (room_in r.files) no_file) k.1), ap one (out x q)))

registering : (n : ℕ) (e : Enrolled) (r : Record) → length r.files ≡ 64 → Counted r → CountedBy (register_with n e r)
registering n e r long c = by-test e.good (by-test (is_file n (file_at n r)) (answering 17 c) (full (is_full r) refl)) (answering 22 c)
  where
    full : (b : Bool) → is_full r ≡ b → CountedBy (cond b (answered 28 r) (answered 0 (with_files (enter (file_of n e.mirrors) r.files) r)))
    full true q = answering 28 c
    full false q = answering 0 (entered (file_of n e.mirrors) r long q refl c)

-- ---- forget: the file that goes is not marked
unmarked : (n : ℕ) (d : Head) (f : File) → eqb (forgettable n d f) 0 ≡ true → is_listed f ≡ false
unfolding forgettable
unmarked n d f e = by d.grace (is_file n f) f.marked (first_taken f.intents) e
  where
    off : (u : Bool) → cond u false false ≡ false
    off true = refl
    off false = refl

    by : (g h m t : Bool) → eqb (cond g 10013 (cond h (cond m 10008 (cond t 10008 0)) 70)) 0 ≡ true → cond f.used m false ≡ false
    by true h m t q = true-false (sym q)
    by false false m t q = true-false (sym q)
    by false true true t q = true-false (sym q)
    by false true false t q = off f.used

forgetting : (n : ℕ) (r : Record) → length r.files ≡ 64 → Counted r → CountedBy (forgets (forgettable n r.head (file_at n r)) n r)
forgetting n r long c = by (eqb (forgettable n r.head (file_at n r)) 0) refl
  where
    by : (b : Bool) → eqb (forgettable n r.head (file_at n r)) 0 ≡ b
        → CountedBy (cond b (answered 0 (with_files (without_file (place_in n r) r.files) r)) (answered (forgettable n r.head (file_at n r)) r))
    by true q = answering 0 (with-files r (without_file (place_in n r) r.files) c
        (λ p out. without-many p (place_in n r) r.files (out blank_file refl) (omega (arith, long, place_inside n r long)) (out (file_at n r) (unmarked n r.head (file_at n r) q))))
    by false q = answering _ c

-- ---- restart: no file leaves a list or enters one
restarting : (r : Record) → Counted r → Counted (restart_of r).after
unfolding restart_of restarted_file
restarting r c = record {
  waiting = c.waiting ∙ sym (many-map is_listed restarted_file (λ f. refl) r.files);
  offered = c.offered ∙ sym (many-map is_ready restarted_file (λ f. ap (λ b. cond (is_listed f) (not b) false) (same_taken unreclaimed_intent (λ x. refl) f.intents)) r.files);
}

-- ---- the end of grace counts both lists
counted-anew : (r : Record) → Counted (record { files = map ended_file r.files; head = ended_head (map ended_file r.files) r.head })
counted-anew r = record { waiting = refl; offered = refl }

ending : (r : Record) → Counted r → CountedBy (end_of r)
unfolding end_of
ending r c = by-test r.head.grace (answering 0 (counted-anew r)) (answering 10033 c)

-- ---- a step
pub counted_step : (r : Record) (x : Call) → length r.files ≡ 64 → Counted r → Counted (step r x).after
unfolding step register_of open_of set_up_of reclaim_of close_of repaired_of add_proxy_of remove_proxy_of forget_of layoutreturn_of
counted_step r (register n s) long c = (by-test r.head.grace (answering 10013 c) (registering n (enrolled_of s) r long c)).so
counted_step r (opening n k) long c = on-place n (opened_file n r.head k) r long c (open-does r.head (file_at n r) n k)
counted_step r (set_up n k s) long c =
    let b = is_barred s r.files in
    on-place n (stated_file n r.head k (new_stateid s) b) r long c (set-up-does r.head (file_at n r) n k (new_stateid s) b)
counted_step r (reclaim n k) long c = on-place n (reclaimed_file n r.head k) r long c (reclaim-does r.head (file_at n r) n k)
counted_step r (close n k) long c = on-place n (closed_file n r.head k) r long c (close-does r.head (file_at n r) n k)
counted_step r (repaired n) long c = on-place n (repaired_file n r.head) r long c (repaired-does r.head (file_at n r) n)
counted_step r (add_proxy n s) long c = on-place n (proxy_added_file n r.head s) r long c (add-proxy-does r.head (file_at n r) n s)
counted_step r (remove_proxy n) long c = on-place n (proxy_removed_file n r.head) r long c (remove-proxy-does r.head (file_at n r) n)
counted_step r (forget n) long c = (forgetting n r long c).so
counted_step r end_grace long c = (ending r c).so
counted_step r restart long c = restarting r c
counted_step r (layout_return n k s d) long c = return-by n k s r long c (decision_of r.head s (length d))
counted_step r (listing k e a b) long c = c

-- ---- any list of calls
counted-all : (calls : List Call) (r : Record) (l : Ledger) → Matches r l → Counted r → Counted (record_after r calls)
unfolding record_after
counted-all [] r l m c = c
counted-all (x ∷ xs) r l m c = let s = step-agrees r l x m in counted-all xs (step r x).after (feed l x (step r x).answer) (rw s.answer s.after) (counted_step r x m.long c)

fresh-counted : (e : Edition) → Counted (fresh_as e)
unfolding chosen
fresh-counted e = record { waiting = refl; offered = refl }

pub counted : CountsAgree
unfolding is_wanted
counted e calls =
    let c = counted-all calls (fresh_as e) (no_rows e) (fresh-matches e) (fresh-counted e) in
    let m = after-all calls (fresh_as e) (no_rows e) (fresh-matches e) in
    ap₂ {C = Counts} counts (c.waiting ∙ pairs-length (slots-chosen (is_wanted Resilver) (is_on Resilver) (same_test m Resilver) (free-not-on m Resilver) m.rows))
    (c.offered ∙ pairs-length (slots-chosen (is_wanted Offered) (is_on Offered) (same_test m Offered) (free-not-on m Offered) m.rows))
