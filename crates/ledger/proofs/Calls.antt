-- Calls on the record: each answers what the ledger says, and leaves a record that goes with the ledger as it is fed. In this order: the file that a call
-- names; a call on one file, once for all; each such call; the set-up of a stateid; forget; register; the end of grace and restart; the lists.
use mathlib.Core.Path.{◌≡◌, refl, ap, sym, ◌∙◌, subst}
use mathlib.Core.List.{List, [], ◌∷◌, map}
use mathlib.Core.Bool.{Bool, true, false, not, cond}
use Prim.Native.Nat.{ℕ, zero, suc, ◌<◌, ◌≤◌}
use native.Mathlib.Omega.{arith}
use lib.ListN.{get_or, set, length, take, drop, length-set, length-map, length-append, take-append-drop}
use lib.Seq.{set-get_or}
use lib.Dec.{eqb, leb, ltb}
use borrow.Author.Tests.{eqb-false, le-leb, lt-leb, leb-true, leb-false, ltb-true, ltb-false}
use Rattle.statuses.specs.Names.{Bytes}
use Rattle.statuses.specs.Rules.{◌⇒◌, refused}
use Rattle.reports.specs.Device.{Device}
use Rattle.places.specs.Lists.{any, none, discard, amend, Above, Rising}
use Rattle.places.specs.Places.{first, bump, is_found, place_or}
use Rattle.wire.specs.Stateid.{new_stateid, bad_other}
use Rattle.mirroring.specs.Devices.{mirrors_in, bad_mirrors}
use Rattle.mirroring.specs.Mirrors.{placed_mirrors, enrolled_of}
use Rattle.files.specs.File.{FileAnswered, no_file, blank_file, is_file, is_vacant, file_of, file_answered, opened_file, reclaimed_file, closed_file, repaired_file, proxy_added_file, proxy_removed_file, stated_file, uses_stateid, forgettable, restarted_file, ended_file, source_of}
use Rattle.files.specs.declared.file.File.{File}
use Rattle.files.specs.declared.head.Head.{Head}
use Rattle.places.proofs.Slots.{All, Slots, Focus, Hit, slots_map, slots-any, slots-chosen, slots_at, focus, pairs-map, missing, found}
use Rattle.places.proofs.Sets.{true-false, first-nothing, none-at, first-no, rest-no}
use Rattle.mirroring.proofs.Enrolling.{few-mirrors}
use Rattle.ledger.specs.Ledger.{Row, Ledger, is_row, new_row, registered, row_of, open_rules, intent_rules, close_rules, repaired_rules, add_proxy_rules, remove_proxy_rules, uses, in_use, set_up_rules, forget_rules, is_on, rows_on, list_of, numbers, source, opened, has_reclaimed, closed, mended, proxy_added, proxy_removed, is_set_up, restarted, ended, insert, with_rows, with_grace, on_row}
use Rattle.recovery.specs.Record.{with_files, answered, place_in, file_at, put_file, on_place, open_of, reclaim_of, close_of, repaired_of, add_proxy_of, remove_proxy_of, is_barred, set_up_of, raised, room_in, enter, pulled, without_file, is_full, register_with, register_of, forgets, forget_of, end_of, restart_of, is_wanted, number_of, listing_of, ended_head}
use Rattle.mirroring.specs.declared.source.Direction.{Direction}
use Rattle.recovery.specs.declared.listing.Listing.{Listing}
use Rattle.recovery.specs.declared.listing.Listing.TheVariants.{Resilver, Offered}
use Rattle.recovery.specs.declared.record.Record.{Record}
use Rattle.ledger.proofs.Relation.{FileIs, NoFile, Matches, branch, FileKept, FileAgrees, RecordAgrees}
use Rattle.ledger.proofs.OneFile.{some-taken, file-opened, file-reclaimed, file-closed, file-repaired, file-proxy-added, file-proxy-removed, file-restarted, file-ended, file-source, file-new}
use Rattle.ledger.proofs.Stated.{uses-file, uses-none, file-set-up}
use Rattle.std.specs.Prelude.{Option, Some, None}

-- ---- the file that a call names
is-file : (g : Bool) (n : ℕ) (f : File) (w : Row) → FileIs g f w → is_file n f ≡ is_row n w
is-file g n f w h = rw (h.used, h.number)

is-no-file : (n : ℕ) (f : File) → NoFile f → is_file n f ≡ false
is-no-file n f h = rw h

abbrev pub AtFile : ℕ → Record → Ledger → Type 0
AtFile n r l = Focus (FileIs l.grace) NoFile (is_file n) (is_row n) r.files l.rows

pub at-file : {r : Record} {l : Ledger} (n : ℕ) → Matches r l → AtFile n r l
at-file {r} {l} n h = focus (is_file n) (is_row n) (is-file l.grace n) (is-no-file n) h.rows

-- a change that keeps numbers
amend-item : (g : Row → Row) → ((w : Row) → (g w).number ≡ w.number) → (w : Row) (ws vs : List Row) → numbers vs ≡ numbers ws → (b : Bool) → numbers (cond b (g w ∷ ws) (w ∷ vs)) ≡ numbers (w ∷ ws)
amend-item g k w ws vs e true = rw (k w)
amend-item g k w ws vs e false = rw e

amend-numbers : (p : Row → Bool) (g : Row → Row) → ((w : Row) → (g w).number ≡ w.number) → (ws : List Row) → numbers (amend p g ws) ≡ numbers ws
unfolding amend
amend-numbers p g k [] = refl
amend-numbers p g k (w ∷ ws) = amend-item g k w ws (amend p g ws) (amend-numbers p g k ws) (p w)

map-numbers : (g : Row → Row) → ((w : Row) → (g w).number ≡ w.number) → (ws : List Row) → numbers (map g ws) ≡ numbers ws
map-numbers g k [] = refl
map-numbers g k (w ∷ ws) = rw (k w, map-numbers g k ws)

-- where there is no such file, the last place is another's
pub not_there : (r : Record) (n : ℕ) → first (is_file n) r.files ≡ None → is_file n (file_at n r) ≡ false
not_there r n e = none-at (is_file n) no_file refl r.files (place_in n r) (first-nothing (is_file n) r.files e)

-- where there is one, the place is its place
abbrev pub There : ℕ → Record → Ledger → ℕ → Row → Type 0
There n r l i w = Hit (FileIs l.grace) NoFile (is_file n) (is_row n) r.files l.rows i w

pub here : (n : ℕ) (r : Record) (l : Ledger) (i : ℕ) (w : Row) → There n r l i w → place_in n r ≡ i
unfolding place_in
here n r l i w z = ap (place_or 63) z.at

pub it-is : (n : ℕ) (r : Record) (l : Ledger) (i : ℕ) (w : Row) → There n r l i w → is_file n (get_or r.files i no_file) ≡ true
it-is n r l i w z = is-file l.grace n (get_or r.files i no_file) w (z.pair no_file) ∙ z.passes

-- ---- a call on one file: h is its code, g and t what the ledger makes of the row
-- a file that is put back as it was changes nothing
pub still : (r : Record) (n s : ℕ) (a : FileAnswered) → a ≡ file_answered s r.head (file_at n r) → put_file r (place_in n r) a ≡ answered s r
still r n s a e = rw (e, set-get_or r.files (place_in n r) no_file)

-- a refusal whatever the file
pub refused-any : {r : Record} {l l' : Ledger} (n : ℕ) (h : File → FileAnswered) (s : ℕ) → eqb s 0 ≡ false → ((f : File) → h f ≡ file_answered s r.head f) → Matches r l
    → RecordAgrees (on_place n h r) l l' s
refused-any {r} n h s z e m = rw (still r n s (h (file_at n r)) (e (file_at n r))) (record { same = refl; kept = rw z m })

module _ {r : Record} {l : Ledger} (n : ℕ) (h : File → FileAnswered) (g : Row → Row) (t : Row → ℕ) (same_number : (w : Row) → (g w).number ≡ w.number)
    (on_one : (f : File) (w : Row) → is_file n f ≡ true → FileIs l.grace f w → FileAgrees r.head l.grace (h f) w (g w) (t w))
    (on_none : (f : File) → is_file n f ≡ false → h f ≡ file_answered 70 r.head f) (m : Matches r l) where
  stored : (i : ℕ) (w : Row) (a : FileAnswered) → There n r l i w → (b : Bool) → FileKept r.head l.grace a (cond b (g w) w)
      → Matches (put_file r i a).after (cond b (on_row l n g) l)
  stored i w a z true k = record {
    old = ap (λ (d : Bool × Bool). d.1) k.head ∙ m.old;
    grace = ap (λ (d : Bool × Bool). d.0) k.head ∙ m.grace;
    long = length-set r.files i a.file ∙ m.long;
    rows = z.put a.file g k.file;
    rising = rw (amend-numbers (is_row n) g same_number l.rows) m.rising;
  }
  stored i w a z false k = record {
    old = ap (λ (d : Bool × Bool). d.1) k.head ∙ m.old;
    grace = ap (λ (d : Bool × Bool). d.0) k.head ∙ m.grace;
    long = length-set r.files i a.file ∙ m.long;
    rows = z.keep a.file k.file;
    rising = m.rising;
  }

  on-found : AtFile n r l → RecordAgrees (on_place n h r) l (on_row l n g) (cond (not (registered n l)) 70 (t (row_of n l)))
  unfolding registered row_of
  on-found (missing a b) = rw (still r n 70 (h (file_at n r)) (on_none (file_at n r) (not_there r n a)), b) (record { same = refl; kept = m })
  on-found (found i w z) =
      let k = on_one (get_or r.files i no_file) w (it-is n r l i w z) (z.pair no_file) in
      rw (here n r l i w z, z.there, z.the (new_row n [])) (record { same = k.same; kept = stored i w (h (get_or r.files i no_file)) z (eqb (t w) 0) k.kept })

  pub on-file : RecordAgrees (on_place n h r) l (on_row l n g) (cond (not (registered n l)) 70 (t (row_of n l)))
  on-file = on-found (at-file n m)

-- ---- the calls on one file; b is whether in grace
module _ {r : Record} {l : Ledger} (m : Matches r l) (n c : ℕ) where
  open_by : (b : Bool) → l.grace ≡ b → RecordAgrees (open_of n c r) l (on_row l n (opened c)) (cond b 10013 (cond (not (registered n l)) 70 (refused (open_rules c (row_of n l)))))
  unfolding open_of opened_file
  open_by true e = refused-any n (opened_file n r.head c) 10013 refl (λ f. rw (m.grace ∙ e)) m
  open_by false e = on-file n (opened_file n r.head c) (opened c) (λ w. refused (open_rules c w)) (λ w. refl)
      (λ f w i k. rw (m.grace ∙ e, i, e) (file-opened _ c (rw e at k))) (λ f i. rw (m.grace ∙ e, i)) m

  pub open-agrees : RecordAgrees (open_of n c r) l (on_row l n (opened c)) (refused (l.grace ⇒ 10013 ∷ not (registered n l) ⇒ 70 ∷ open_rules c (row_of n l)))
  open-agrees = open_by l.grace refl

  reclaim-by : (b : Bool) → l.grace ≡ b → RecordAgrees (reclaim_of n c r) l (on_row l n (has_reclaimed c)) (cond (not b) 10033 (cond (not (registered n l)) 70 (refused (intent_rules c (row_of n l)))))
  unfolding reclaim_of reclaimed_file
  reclaim-by false e = refused-any n (reclaimed_file n r.head c) 10033 refl (λ f. rw (m.grace ∙ e)) m
  reclaim-by true e = on-file n (reclaimed_file n r.head c) (has_reclaimed c) (λ w. refused (intent_rules c w)) (λ w. refl)
      (λ f w i k. rw (m.grace ∙ e, i, e) (file-reclaimed _ c (rw e at k))) (λ f i. rw (m.grace ∙ e, i)) m

  pub reclaim-agrees : RecordAgrees (reclaim_of n c r) l (on_row l n (has_reclaimed c)) (refused (not l.grace ⇒ 10033 ∷ not (registered n l) ⇒ 70 ∷ intent_rules c (row_of n l)))
  reclaim-agrees = reclaim-by l.grace refl

  pub close-agrees : RecordAgrees (close_of n c r) l (on_row l n (closed c)) (refused (not (registered n l) ⇒ 70 ∷ close_rules l.grace c (row_of n l)))
  unfolding close_of closed_file
  close-agrees = on-file n (closed_file n r.head c) (closed c) (λ w. refused (close_rules l.grace c w)) (λ w. refl) (λ f w i k. rw i (file-closed r.head c m.grace k)) (λ f i. rw i) m

pub repaired-agrees : {r : Record} {l : Ledger} → Matches r l → (n : ℕ) → RecordAgrees (repaired_of n r) l (on_row l n mended) (refused (not (registered n l) ⇒ 70 ∷ repaired_rules (row_of n l)))
unfolding repaired_of repaired_file
repaired-agrees {r} m n = on-file n (repaired_file n r.head) mended (λ w. refused (repaired_rules w)) (λ w. refl) (λ f w i k. rw i (file-repaired r.head k)) (λ f i. rw i) m

-- ---- the proxy; b is whether in grace
module _ {r : Record} {l : Ledger} (m : Matches r l) (n : ℕ) where
  add-proxy-by : (s : Bytes) (b : Bool) → l.grace ≡ b → RecordAgrees (add_proxy_of n s r) l (on_row l n (proxy_added s)) (cond b 10013 (cond (not (registered n l)) 70 (refused (add_proxy_rules s (row_of n l)))))
  unfolding add_proxy_of proxy_added_file
  add-proxy-by s true e = refused-any n (proxy_added_file n r.head s) 10013 refl (λ f. rw (m.grace ∙ e)) m
  add-proxy-by s false e = on-file n (proxy_added_file n r.head s) (proxy_added s) (λ w. refused (add_proxy_rules s w)) (λ w. refl)
      (λ f w i k. rw (m.grace ∙ e, i) (file-proxy-added _ s k)) (λ f i. rw (m.grace ∙ e, i)) m

  pub add-proxy-agrees : (s : Bytes) → RecordAgrees (add_proxy_of n s r) l (on_row l n (proxy_added s)) (refused (l.grace ⇒ 10013 ∷ not (registered n l) ⇒ 70 ∷ add_proxy_rules s (row_of n l)))
  add-proxy-agrees s = add-proxy-by s l.grace refl

  remove-proxy-by : (b : Bool) → l.grace ≡ b → RecordAgrees (remove_proxy_of n r) l (on_row l n proxy_removed) (cond b 10013 (cond (not (registered n l)) 70 (refused (remove_proxy_rules (row_of n l)))))
  unfolding remove_proxy_of proxy_removed_file
  remove-proxy-by true e = refused-any n (proxy_removed_file n r.head) 10013 refl (λ f. rw (m.grace ∙ e)) m
  remove-proxy-by false e = on-file n (proxy_removed_file n r.head) proxy_removed (λ w. refused (remove_proxy_rules w)) (λ w. refl)
      (λ f w i k. rw (m.grace ∙ e, i) (file-proxy-removed _ k)) (λ f i. rw (m.grace ∙ e, i)) m

  pub remove-proxy-agrees : RecordAgrees (remove_proxy_of n r) l (on_row l n proxy_removed) (refused (l.grace ⇒ 10013 ∷ not (registered n l) ⇒ 70 ∷ remove_proxy_rules (row_of n l)))
  remove-proxy-agrees = remove-proxy-by l.grace refl

-- ---- the set-up of a stateid: the record looks for the `other` where the ledger does
module _ {r : Record} {l : Ledger} (m : Matches r l) (n c : ℕ) (s : Bytes) where
  is-barred : is_barred s r.files ≡ cond (bad_other s) true (in_use (new_stateid s) l)
  unfolding is_barred in_use
  is-barred = ap (λ b. cond (bad_other s) true b) (slots-any (uses_stateid (new_stateid s)) (uses (new_stateid s)) (uses-file l.grace (new_stateid s)) (uses-none (new_stateid s)) m.rows)

  abbrev sets_up : File → FileAnswered
  sets_up f = stated_file n r.head c (new_stateid s) (is_barred s r.files) f

  set-up-by : (b : Bool) → l.grace ≡ b → RecordAgrees (set_up_of n c s r) l (on_row l n (is_set_up c s)) (cond b 10013 (cond (not (registered n l)) 70 (refused (set_up_rules l c s (row_of n l)))))
  unfolding set_up_of stated_file in_use
  set-up-by true e = refused-any n sets_up 10013 refl (λ f. rw (m.grace ∙ e)) m
  set-up-by false e = on-file n sets_up (is_set_up c s) (λ w. refused (set_up_rules l c s w)) (λ w. refl)
      (λ f w i k. rw (m.grace ∙ e, i, e) (file-set-up _ c s (rw e at k) l (is_barred s r.files) is-barred)) (λ f i. rw (m.grace ∙ e, i)) m

  pub set-up-agrees : RecordAgrees (set_up_of n c s r) l (on_row l n (is_set_up c s)) (refused (l.grace ⇒ 10013 ∷ not (registered n l) ⇒ 70 ∷ set_up_rules l c s (row_of n l)))
  set-up-agrees = set-up-by l.grace refl

-- ---- forget
is-used : (g : Bool) (f : File) (w : Row) → FileIs g f w → is_vacant f ≡ false
is-used g f w h = rw h.used

above-discard : (p : Row → Bool) (n : ℕ) (ws : List Row) → Above n (numbers ws) → Above n (numbers (discard p ws))
unfolding discard
above-discard p n [] h = tt
above-discard p n (w ∷ ws) h = by (p w) (above-discard p n ws h.1)
  where
    by : (b : Bool) → Above n (numbers (discard p ws)) → Above n (numbers (cond b ws (w ∷ discard p ws)))
    by true k = h.1
    by false k = (h.0, k)

rising-discard : (p : Row → Bool) (ws : List Row) → Rising (numbers ws) → Rising (numbers (discard p ws))
unfolding discard
rising-discard p [] h = tt
rising-discard p (w ∷ ws) h = by (p w) (rising-discard p ws h.1)
  where
    by : (b : Bool) → Rising (numbers (discard p ws)) → Rising (numbers (cond b ws (w ∷ discard p ws)))
    by true k = h.1
    by false k = (above-discard p w.number ws h.0, k)

abbrev without : ℕ → Ledger → Ledger
without n l = with_rows (discard (is_row n) l.rows) l

-- the files after one, up to the first free place, are pulled down over it
pulled-length : (fs : List File) → length (pulled fs) ≡ length fs
unfolding pulled
pulled-length [] = refl
pulled-length (x ∷ []) = refl
pulled-length (x ∷ y ∷ ys) = by (is_vacant y) (pulled-length (y ∷ ys))
  where
    by : (b : Bool) → length (pulled (y ∷ ys)) ≡ suc (length ys) → length (cond b (blank_file ∷ y ∷ ys) (y ∷ pulled (y ∷ ys))) ≡ suc (suc (length ys))
    by true k = refl
    by false k = ap suc k

without-length : (i : ℕ) (fs : List File) → length (without_file i fs) ≡ length fs
without-length i fs = simp (length-append, pulled-length) (sym (length-append (take i fs) (drop i fs)) ∙ ap length (take-append-drop i fs))

pulled-slots : {g : Bool} {fs : List File} {ws : List Row} (x : File) → Slots (FileIs g) NoFile fs ws → Slots (FileIs g) NoFile (pulled (x ∷ fs)) ws
unfolding pulled
pulled-slots x (Slots.rest All.all_nil) = Slots.rest (All.all_cons refl All.all_nil)
pulled-slots {g} x (Slots.rest (All.all_cons {x = y} {xs = ys} e f)) = subst (λ (b : Bool). Slots (FileIs g) NoFile (cond (not b) (blank_file ∷ y ∷ ys) (y ∷ pulled (y ∷ ys))) []) (sym e) (Slots.rest (All.all_cons refl (All.all_cons e f)))
pulled-slots {g} x (Slots.item {x = f} {y = w} e s) = rw (is-used g f w e) (Slots.item e (pulled-slots f s))

no-such-place : {i : ℕ} → None ≡ Some i → ⊥
no-such-place e = true-false (sym (ap is_found e))

none_first : (n : ℕ) {fs : List File} → All NoFile fs → first (is_file n) fs ≡ None
unfolding first
none_first n All.all_nil = refl
none_first n (All.all_cons {x} e f) = rw (is-no-file n x e, none_first n f)

-- the file n, at its place i, is taken out; b is whether it is the first
taken_out : {g : Bool} {fs : List File} {ws : List Row} (n i : ℕ) → Slots (FileIs g) NoFile fs ws → first (is_file n) fs ≡ Some i → Slots (FileIs g) NoFile (without_file i fs) (discard (is_row n) ws)
unfolding first discard
taken_out n i (Slots.rest e) k = absurd (no-such-place (sym (none_first n e) ∙ k))
taken_out {g} n i (Slots.item {x = f} {y = w} {xs = fs} {ys = ws} e s) k = rw (← is-file g n f w e) (by (is_file n f) k (λ j q. taken_out n j s q))
  where
    later : (o : Option ℕ) → first (is_file n) fs ≡ o → bump o ≡ Some i → ((j : ℕ) → first (is_file n) fs ≡ Some j → Slots (FileIs g) NoFile (without_file j fs) (discard (is_row n) ws)) → Slots (FileIs g) NoFile (without_file i (f ∷ fs)) (w ∷ discard (is_row n) ws)
    later None q m t = absurd (no-such-place m)
    later (Some j) q m t = rw (← ap (place_or 63) m) (Slots.item e (t j q))

    by : (b : Bool) → cond b (Some 0) (bump (first (is_file n) fs)) ≡ Some i → ((j : ℕ) → first (is_file n) fs ≡ Some j → Slots (FileIs g) NoFile (without_file j fs) (discard (is_row n) ws)) → Slots (FileIs g) NoFile (without_file i (f ∷ fs)) (cond b ws (w ∷ discard (is_row n) ws))
    by true m t = rw (← ap (place_or 63) m) (pulled-slots f s)
    by false m t = later (first (is_file n) fs) refl m t

-- a and b are whether the row is marked and open
forgets-row : {r : Record} {l : Ledger} (n i : ℕ) (w : Row) → Matches r l → There n r l i w → (a b : Bool)
    → RecordAgrees (forgets (cond a 10008 (cond b 10008 0)) n r) l (without n l) (cond a 10008 (cond b 10008 0))
forgets-row n i w m z true b = record { same = refl; kept = m }
forgets-row n i w m z false true = record { same = refl; kept = m }
forgets-row {r} {l} n i w m z false false = rw (here n r l i w z) (record {
  same = refl;
  kept = record {
    old = m.old;
    grace = m.grace;
    long = without-length i r.files ∙ m.long;
    rows = taken_out n i m.rows z.at;
    rising = rising-discard (is_row n) l.rows m.rising;
  };
})

forgettable-row : (g : Bool) (n : ℕ) (d : Head) (f : File) (w : Row) → d.grace ≡ false → is_file n f ≡ true → FileIs g f w → forgettable n d f ≡ refused (forget_rules w)
unfolding forgettable
forgettable-row g n d f w e i h = rw (e, i) (rw (h.marked, some-taken h))

no-such-file : (n : ℕ) (d : Head) (f : File) → d.grace ≡ false → is_file n f ≡ false → forgettable n d f ≡ 70
unfolding forgettable
no-such-file n d f e i = rw (e, i)

in-grace : (n : ℕ) (d : Head) (f : File) → d.grace ≡ true → forgettable n d f ≡ 10013
unfolding forgettable
in-grace n d f e = rw e

forget-found : {r : Record} {l : Ledger} (n : ℕ) → Matches r l → r.head.grace ≡ false → AtFile n r l
    → RecordAgrees (forget_of n r) l (without n l) (refused (not (registered n l) ⇒ 70 ∷ forget_rules (row_of n l)))
unfolding forget_of registered row_of
forget-found {r} n m e (missing a b) = rw (no-such-file n r.head (file_at n r) e (not_there r n a), b) (record { same = refl; kept = m })
forget-found {r} {l} n m e (found i w z) =
    rw (ap (λ j. forgettable n r.head (get_or r.files j no_file)) (here n r l i w z) ∙ forgettable-row l.grace n r.head _ w e (it-is n r l i w z) (z.pair no_file), z.there, z.the (new_row n []))
    (forgets-row n i w m z w.marked (not (none w.intents)))

forget-by : {r : Record} {l : Ledger} (n : ℕ) → Matches r l → (b : Bool) → l.grace ≡ b
    → RecordAgrees (forget_of n r) l (without n l) (cond b 10013 (refused (not (registered n l) ⇒ 70 ∷ forget_rules (row_of n l))))
unfolding forget_of
forget-by {r} n m true e = rw (in-grace n r.head (file_at n r) (m.grace ∙ e)) (record { same = refl; kept = m })
forget-by {r} n m false e = forget-found n m (m.grace ∙ e) (at-file n m)

pub forget-agrees : {r : Record} {l : Ledger} → Matches r l → (n : ℕ) → RecordAgrees (forget_of n r) l (without n l) (refused (l.grace ⇒ 10013 ∷ not (registered n l) ⇒ 70 ∷ forget_rules (row_of n l)))
forget-agrees {r} {l} m n = forget-by n m l.grace refl

-- ---- register
raised-length : (x : File) (i : ℕ) (fs : List File) → length (raised x i fs) ≡ length fs
unfolding raised
raised-length x zero fs = length-set fs 0 x
raised-length x (suc i) fs = by (leb (get_or fs i no_file).number x.number) (raised-length x i (set fs (suc i) (get_or fs i no_file)) ∙ length-set fs (suc i) (get_or fs i no_file))
  where
    by : (b : Bool) → length (raised x i (set fs (suc i) (get_or fs i no_file))) ≡ length fs → length (cond b (set fs (suc i) x) (raised x i (set fs (suc i) (get_or fs i no_file)))) ≡ length fs
    by true k = length-set fs (suc i) x
    by false k = k

enter-length : (x : File) (fs : List File) → length (enter x fs) ≡ length fs
unfolding enter
enter-length x fs = raised-length x (room_in fs) fs

first-free : {g : Bool} {fs : List File} {ws : List Row} → Slots (FileIs g) NoFile fs ws → length ws < length fs → first is_vacant fs ≡ Some (length ws)
unfolding first
first-free (Slots.rest All.all_nil) k = absurd (omega arith)
first-free (Slots.rest (All.all_cons e f)) k = rw e
first-free {g} (Slots.item {x = f} {y = w} e s) k = rw (is-used g f w e, first-free s (omega arith))

-- the code compares the numbers of files, and the ledger those of rows
order : {g : Bool} {x f : File} {w v : Row} (b : Bool) → leb v.number w.number ≡ b → FileIs g x w → FileIs g f v → leb f.number x.number ≡ b
order b q h e = rw (e.number, h.number) q

-- a file that is not greater stays
raised_below : (x y : File) (i : ℕ) (fs : List File) → leb y.number x.number ≡ true → raised x (suc i) (y ∷ fs) ≡ y ∷ raised x i fs
unfolding raised
raised_below x y zero fs e = rw e
raised_below x y (suc i) fs e = by (leb (get_or fs i no_file).number x.number) (raised_below x y i (set fs (suc i) (get_or fs i no_file)) e)
  where
    by : (b : Bool) → raised x (suc i) (y ∷ set fs (suc i) (get_or fs i no_file)) ≡ y ∷ raised x i (set fs (suc i) (get_or fs i no_file)) → cond b (set (y ∷ fs) (suc (suc i)) x) (raised x (suc i) (set (y ∷ fs) (suc (suc i)) (get_or fs i no_file))) ≡ y ∷ cond b (set fs (suc i) x) (raised x i (set fs (suc i) (get_or fs i no_file)))
    by true k = refl
    by false k = k

-- greater files, the first i of a list, all move up: x is before them, and the place i is gone
abbrev Greater : File → ℕ → List File → Type 0
Greater x zero fs = Unit {0}
Greater x (suc i) [] = ⊥
Greater x (suc i) (y ∷ ys) = (leb y.number x.number ≡ false) × Greater x i ys

last-greater : (x : File) (i : ℕ) (fs : List File) → Greater x (suc i) fs → leb (get_or fs i no_file).number x.number ≡ false
last-greater x i [] g = absurd g
last-greater x zero (y ∷ ys) g = g.0
last-greater x (suc i) (y ∷ ys) g = last-greater x i ys g.1

set-greater : (x z : File) (i : ℕ) (fs : List File) → Greater x (suc i) fs → Greater x i (set fs (suc i) z)
set-greater x z i [] g = absurd g
set-greater x z zero (y ∷ ys) g = tt
set-greater x z (suc i) (y ∷ ys) g = (g.0, set-greater x z i ys g.1)

abbrev up : File → ℕ → List File → List File
up x i [] = []
up x zero (y ∷ ys) = x ∷ ys
up x (suc i) (y ∷ ys) = x ∷ up y i ys

up-set : (x : File) (i : ℕ) (fs : List File) → suc i < length fs → up x i (set fs (suc i) (get_or fs i no_file)) ≡ up x (suc i) fs
up-set x i [] h = absurd (omega arith)
up-set x zero (y ∷ []) h = absurd (omega arith)
up-set x zero (y ∷ z ∷ zs) h = refl
up-set x (suc i) (y ∷ ys) h = ap (◌∷◌ x) (up-set y i ys (omega arith))

raised-up : (x : File) (i : ℕ) (fs : List File) → i < length fs → Greater x i fs → raised x i fs ≡ up x i fs
unfolding raised
raised-up x zero [] h g = absurd (omega arith)
raised-up x zero (y ∷ ys) h g = refl
raised-up x (suc i) fs h g =
    let l : i < length (set fs (suc i) (get_or fs i no_file)) = rw (length-set fs (suc i) (get_or fs i no_file)) (omega (arith, h)) in
    rw (last-greater x i fs g) (raised-up x i (set fs (suc i) (get_or fs i no_file)) l (set-greater x (get_or fs i no_file) i fs g) ∙ up-set x i fs h)

up-slots : {g : Bool} {x : File} {w : Row} {fs : List File} {vs : List Row} → FileIs g x w → Slots (FileIs g) NoFile fs vs → length vs < length fs → Slots (FileIs g) NoFile (up x (length vs) fs) (w ∷ vs)
up-slots h (Slots.rest All.all_nil) k = absurd (omega arith)
up-slots h (Slots.rest (All.all_cons e f)) k = Slots.item h (Slots.rest f)
up-slots h (Slots.item e s) k = Slots.item h (up-slots e s (omega arith))

slots-greater : {g : Bool} {x : File} {w : Row} {fs : List File} {vs : List Row} → FileIs g x w → Slots (FileIs g) NoFile fs vs → Above w.number (numbers vs) → Greater x (length vs) fs
slots-greater h (Slots.rest e) a = tt
slots-greater {w} h (Slots.item {y = v} e s) a = (order false (lt-leb v.number w.number a.0) h e, slots-greater h s a.1)

above-less : (m n : ℕ) (ns : List ℕ) → m < n → Above n ns → Above m ns
above-less m n [] h a = tt
above-less m n (k ∷ ks) h a = (omega (arith, a.0), above-less m n ks h a.1)

entered-item : {g : Bool} {x f : File} {w v : Row} (fs : List File) (vs : List Row) (b : Bool) → leb v.number w.number ≡ b → FileIs g x w → FileIs g f v → Slots (FileIs g) NoFile fs vs → length vs < length fs
    → Above v.number (numbers vs) → Slots (FileIs g) NoFile (raised x (length vs) fs) (insert w vs) → Slots (FileIs g) NoFile (raised x (suc (length vs)) (f ∷ fs)) (insert w (v ∷ vs))
unfolding insert
entered-item {g} {x} {f} {w} {v} fs vs true q h e s k a t = rw (raised_below x f (length vs) fs (order true q h e), q) (Slots.item e t)
entered-item {g} {x} {f} {w} {v} fs vs false q h e s k a t =
    let m : w.number < v.number = leb-false v.number w.number q in
    rw (raised-up x (suc (length vs)) (f ∷ fs) (omega (arith, k)) (slots-greater h (Slots.item e s) (m, above-less w.number v.number (numbers vs) m a)), q) (up-slots h (Slots.item e s) (omega (arith, k)))

raised-slots : {g : Bool} {x : File} {w : Row} {fs : List File} {ws : List Row} → FileIs g x w → Slots (FileIs g) NoFile fs ws → length ws < length fs → Rising (numbers ws)
    → Slots (FileIs g) NoFile (raised x (length ws) fs) (insert w ws)
unfolding raised insert
raised-slots h (Slots.rest All.all_nil) k r = absurd (omega arith)
raised-slots h (Slots.rest (All.all_cons e f)) k r = Slots.item h (Slots.rest f)
raised-slots {w} h (Slots.item {y = v} {xs = fs} {ys = vs} e s) k r = entered-item fs vs (leb v.number w.number) refl h e s (omega arith) r.0 (raised-slots h s (omega arith) r.1)

entered : {g : Bool} {x : File} {w : Row} {fs : List File} {ws : List Row} → FileIs g x w → Slots (FileIs g) NoFile fs ws → length ws < length fs → Rising (numbers ws)
    → Slots (FileIs g) NoFile (enter x fs) (insert w ws)
unfolding enter room_in
entered h s k r = rw (first-free s k) (raised-slots h s k r)

above-item : (n : ℕ) (w v : Row) (us vs : List Row) (b : Bool) → n < w.number → n < v.number → Above n (numbers us) → Above n (numbers vs) → Above n (numbers (cond b (v ∷ us) (w ∷ v ∷ vs)))
above-item n w v us vs true p q a b = (q, a)
above-item n w v us vs false p q a b = (p, (q, b))

above-insert : (n : ℕ) (w : Row) (ws : List Row) → n < w.number → Above n (numbers ws) → Above n (numbers (insert w ws))
unfolding insert
above-insert n w [] h a = (h, tt)
above-insert n w (v ∷ vs) h a = above-item n w v (insert w vs) vs (leb v.number w.number) h a.0 (above-insert n w vs h a.1) a.1

rising-item : (w v : Row) (vs : List Row) (b : Bool) → leb v.number w.number ≡ b → eqb v.number w.number ≡ false → Rising (numbers (v ∷ vs)) → Rising (numbers (insert w vs))
    → Rising (numbers (cond b (v ∷ insert w vs) (w ∷ v ∷ vs)))
rising-item w v vs true e q r s = (above-insert v.number w vs (less v.number w.number (leb-true _ _ e) (eqb-false _ _ q)) r.0, s)
  where
    less : (a b : ℕ) → a ≤ b → (a ≡ b → ⊥) → a < b
    less a b h k = omega (arith, k)
rising-item w v vs false e q r s =
    let h : w.number < v.number = leb-false v.number w.number e in
    ((h, above-less w.number v.number (numbers vs) h r.0), r)

rising-insert : (w : Row) (ws : List Row) → any (is_row w.number) ws ≡ false → Rising (numbers ws) → Rising (numbers (insert w ws))
unfolding insert any
rising-insert w [] e r = (tt, tt)
rising-insert w (v ∷ vs) e r =
    rising-item w v vs (leb v.number w.number) refl (first-no (eqb v.number w.number) _ e) r (rising-insert w vs (rest-no (eqb v.number w.number) _ e) r.1)

-- the last place says whether the record is full
full_by : (n : ℕ) (b : Bool) → ltb 63 n ≡ b → b ≡ leb 64 n
full_by n true e = sym (le-leb 64 n (omega (arith, ltb-true 63 n e)))
full_by n false e = sym (lt-leb 64 n (omega (arith, ltb-false 63 n e)))

is-full : {r : Record} {l : Ledger} → Matches r l → is_full r ≡ leb 64 (length l.rows)
is-full {r} {l} m = slots_at (λ (f : File). f.used) (λ f w h. h.used) (λ f h. h) 63 no_file (omega (arith, m.long)) m.rows ∙ full_by (length l.rows) (ltb 63 (length l.rows)) refl

abbrev joined : ℕ → List Device → Ledger → Ledger
joined n ds l = with_rows (insert (new_row n ds) l.rows) l

register-new : {r : Record} {l : Ledger} (n : ℕ) (ds : List Device) → length ds ≤ 4 → Matches r l → l.grace ≡ false → registered n l ≡ false
    → RecordAgrees (cond (is_full r) (answered 28 r) (answered 0 (with_files (enter (file_of n (placed_mirrors ds)) r.files) r))) l (joined n ds l) (refused (leb 64 (length l.rows) ⇒ 28 ∷ []))
unfolding registered
register-new {r} {l} n ds q m z k = branch (leb 64 (length l.rows)) (is-full m) (λ e. record { same = refl; kept = m }) (λ e. record {
  same = refl;
  kept = record {
    old = m.old;
    grace = m.grace;
    long = enter-length (file_of n (placed_mirrors ds)) r.files ∙ m.long;
    rows = entered (rw z (file-new n ds q)) m.rows (omega (arith, leb-false 64 (length l.rows) e, m.long)) m.rising;
    rising = rising-insert (new_row n ds) l.rows k m.rising;
  };
})

is-registered : (r : Record) (l : Ledger) (n : ℕ) → AtFile n r l → is_file n (file_at n r) ≡ registered n l
unfolding registered
is-registered r l n (missing a b) = not_there r n a ∙ sym b
is-registered r l n (found i w z) = ap (λ j. is_file n (get_or r.files j no_file)) (here n r l i w z) ∙ it-is n r l i w z ∙ sym z.there

register-by : {r : Record} {l : Ledger} (n : ℕ) (s : List ℕ) → Matches r l → l.grace ≡ false → (b : Bool) → bad_mirrors s ≡ b
    → RecordAgrees (register_with n (enrolled_of s) r) l (joined n (mirrors_in s) l) (cond b 22 (refused (registered n l ⇒ 17 ∷ leb 64 (length l.rows) ⇒ 28 ∷ [])))
unfolding enrolled_of
register-by n s m z true e = rw e (record { same = refl; kept = m })
register-by {r} {l} n s m z false e =
    rw e (branch (registered n l) (is-registered r l n (at-file n m)) (λ y. record { same = refl; kept = m }) (λ y. register-new n (mirrors_in s) (few-mirrors s e) m z y))

pub register-agrees : {r : Record} {l : Ledger} → Matches r l → (n : ℕ) (s : List ℕ)
    → RecordAgrees (register_of n s r) l (joined n (mirrors_in s) l) (refused (l.grace ⇒ 10013 ∷ bad_mirrors s ⇒ 22 ∷ registered n l ⇒ 17 ∷ leb 64 (length l.rows) ⇒ 28 ∷ []))
unfolding register_of
register-agrees {r} {l} m n s = branch l.grace m.grace (λ z. record { same = refl; kept = m }) (λ z. register-by n s m z (bad_mirrors s) refl)

-- ---- the end of grace and restart
ended-free : (f : File) → NoFile f → NoFile (ended_file f)
unfolding ended_file
ended-free f h = h

restarted-free : (f : File) → NoFile f → NoFile (restarted_file f)
unfolding restarted_file
restarted-free f h = h

abbrev ended_record : Record → Record
ended_record r = record { files = map ended_file r.files; head = ended_head (map ended_file r.files) r.head }

end_by : {r : Record} {l : Ledger} → Matches r l → (b : Bool) → l.grace ≡ b → RecordAgrees (end_of r) l (with_grace false (with_rows (map ended l.rows) l)) (cond (not b) 10033 0)
unfolding end_of
end_by {r} m false e = rw (ap (λ g. cond g (answered 0 (ended_record r)) (answered 10033 r)) (m.grace ∙ e)) (record { same = refl; kept = m })
end_by {r} {l} m true e = rw (ap (λ g. cond g (answered 0 (ended_record r)) (answered 10033 r)) (m.grace ∙ e)) (record {
  same = refl;
  kept = record {
    old = m.old;
    grace = refl;
    long = length-map r.files ended_file ∙ m.long;
    rows = slots_map {R = FileIs l.grace} ended_file ended (λ f w k. file-ended f w (rw e at k)) (λ f k. ended-free f k) m.rows;
    rising = rw (map-numbers ended (λ w. refl) l.rows) m.rising;
  };
})

pub end-agrees : {r : Record} {l : Ledger} → Matches r l → RecordAgrees (end_of r) l (with_grace false (with_rows (map ended l.rows) l)) (refused (not l.grace ⇒ 10033 ∷ []))
end-agrees {r} {l} m = end_by m l.grace refl

pub restart-agrees : {r : Record} {l : Ledger} → Matches r l → RecordAgrees (restart_of r) l (with_grace true (with_rows (map restarted l.rows) l)) 0
unfolding restart_of
restart-agrees {r} {l} m = record {
  same = refl;
  kept = record {
    old = m.old;
    grace = refl;
    long = length-map r.files restarted_file ∙ m.long;
    rows = slots_map restarted_file restarted (λ f w k. file-restarted l.grace f w k) (λ f k. restarted-free f k) m.rows;
    rising = rw (map-numbers restarted (λ w. refl) l.rows) m.rising;
  };
}

-- ---- the lists
module _ {r : Record} {l : Ledger} (m : Matches r l) where
  pub same_test : (k : Listing) (f : File) (w : Row) → FileIs l.grace f w → is_wanted k f ≡ is_on k w
  unfolding is_wanted
  same_test Resilver f w h = rw h.used h.marked
  same_test Offered f w h = rw (h.used, h.marked, some-taken h)

  pub free-not-on : (k : Listing) (f : File) → NoFile f → is_wanted k f ≡ false
  unfolding is_wanted
  free-not-on Resilver f h = rw h
  free-not-on Offered f h = rw h

  pub list-agrees : (k : Listing) (e : Direction) (a b : List ℕ) → listing_of k e r a b ≡ list_of e (rows_on k l) a b
  unfolding listing_of
  list-agrees k e a b =
      let s = slots-chosen (is_wanted k) (is_on k) (same_test k) (free-not-on k) m.rows in
      rw (pairs-map number_of (λ (w : Row). w.number) (λ f w h. h.number) s, pairs-map (source_of e) (source e) (file-source e l.grace) s)
