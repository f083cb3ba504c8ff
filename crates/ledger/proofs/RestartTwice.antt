-- Ticket 14 is proved here: `restart-twice : RestartTwice`, `reclaim-again : ReclaimAgain`. Two ledgers go side by side from the one more restart on, and every
-- call up to the end keeps their rows related (Worse.antt). In this order: a call on both; the calls up to the end; the end; two histories; the record's list; the
-- record's blame; the first theorem; a restart and the end at once; the second.
use mathlib.Core.Path.{◌≡◌, refl, ap, ap₂, sym, ◌∙◌, subst⁻¹}
use mathlib.Core.List.{List, [], ◌∷◌, ◌++◌, map}
use mathlib.Core.Bool.{Bool, true, false, not, cond}
use Prim.Native.Nat.{ℕ, ◌≤◌}
use native.Mathlib.Omega.{arith}
use lib.ListN.{get_or, length, take, replicate, length-map, get_or-eq_default}
use lib.Dec.{eqb, ltb}
use borrow.Author.Tests.{ne_eqb, le-leb, ltb-true, ltb-false}
use Rattle.statuses.specs.Rules.{refused}
use Rattle.reports.specs.Report.{Report, Whole, Malformed, report_of}
use Rattle.wire.specs.Request.{Request, request_of, body_of}
use Rattle.wire.specs.declared.request.Kind.TheVariants as kind
use Rattle.wire.specs.Request as request
use Rattle.wire.proofs.Requests.{refused-number}
use Rattle.places.specs.Lists.{any, has, none, amend, first_or, fill}
use Rattle.places.proofs.Slots.{All, Pairs, Slots, chosen-length, missing, found}
use Rattle.places.proofs.Sets.{true-false, first-no, rest-no}
use Rattle.mirroring.specs.Mirrors.{no_mirror}
use Rattle.mirroring.specs.Totals.{no_totals}
use Rattle.mirroring.specs.declared.mirrors.Mirror.{Mirror}
use Rattle.mirroring.proofs.Copies.{five}
use Rattle.files.specs.File.{no_file}
use Rattle.files.specs.declared.head.Edition.{Edition}
use Rattle.files.specs.declared.head.Edition.TheVariants.{Current, Old}
use Rattle.recovery.specs.Calls.{Call, register, opening, set_up, reclaim, close, repaired, add_proxy, remove_proxy, forget, end_grace, restart, layout_return, listing, replied, lend}
use Rattle.recovery.specs.declared.listing.Listing.TheVariants.{Resilver}
use Rattle.mirroring.specs.declared.source.Direction.TheVariants.{Highest}
use Rattle.recovery.specs.Record.{fresh_as, end_of}
use Rattle.recovery.specs.declared.record.Record.{Record}
use Rattle.ledger.specs.Ledger.{Holder, holder, no_layout, Row, Ledger, no_rows, is_row, new_row, registered, row_of, is_open, numbers, is_on, rows_on, intent_rules, report_rules, close_rules, repaired_rules, lost, has_reclaimed, closed, mended, restarted, ended, raised_by, reported, errors_of, on_row, judge, judge_request, apply, feed}
use Rattle.ledger.specs.Lists.{row_passes}
use Rattle.ledger.specs.History.{step, record_after}
use Rattle.ledger.specs.Demand3.{ledger_of}
use Rattle.ledger.specs.RestartTwice.{in_grace_through, files_of, resilver_files, is_blamed, RestartTwice, ReclaimAgain}
use Rattle.ledger.proofs.Relation.{Matches}
use Rattle.ledger.proofs.Calls.{AtFile, at-file, not_there, here, it-is}
use Rattle.ledger.proofs.History.{step-agrees, lend-changes-nothing, fresh-matches, after-all, history}
use Rattle.ledger.proofs.Fed.{fed, fed-ledger, fed-append, Sound, sound-fed}
use Rattle.ledger.proofs.Within.{any-within, any-key}
use Rattle.ledger.proofs.Worse.{client_in, Worse, nothing-in, after-restart, heeded, Kept, reclaim-kept, close-kept, repaired-kept, report-kept, restart-kept}

-- ---- a call on two ledgers in grace
abbrev in_grace : Edition → List Row → Ledger
in_grace o ws = record { edition = o; grace = true; rows = ws }

record Side (l l' : Ledger) : Type 0 where
  edition : l'.edition ≡ l.edition
  grace : l.grace ≡ true
  grace' : l'.grace ≡ true
  rows : Pairs Worse l.rows l'.rows

side : {o : Edition} {ws vs : List Row} → Pairs Worse ws vs → Side (in_grace o ws) (in_grace o vs)
side s = record { edition = refl; grace = refl; grace' = refl; rows = s }

pairs-amend : (n : ℕ) (g : Row → Row) → ((w v : Row) → Worse w v → Worse (g w) (g v)) → {ws vs : List Row} → Pairs Worse ws vs → Pairs Worse (amend (is_row n) g ws) (amend (is_row n) g vs)
unfolding amend
pairs-amend n g k Pairs.pairs-nil = Pairs.pairs-nil
pairs-amend n g k (Pairs.pairs-cons {x = w} {y = v} {xs = ws} {ys = vs} h s) = by (is_row n w) (is_row n v) (ap (λ m. eqb m n) h.number) (pairs-amend n g k s)
  where
    by : (a b : Bool) → b ≡ a → Pairs Worse (amend (is_row n) g ws) (amend (is_row n) g vs) → Pairs Worse (cond a (g w ∷ ws) (w ∷ amend (is_row n) g ws)) (cond b (g v ∷ vs) (v ∷ amend (is_row n) g vs))
    by true true e t = Pairs.pairs-cons (k w v h) s
    by false false e t = Pairs.pairs-cons h t
    by true false e t = true-false (sym e)
    by false true e t = true-false e

pairs-both : {R S : Row → Row → Type 0} (g : Row → Row) → ((w v : Row) → R w v → S (g w) (g v)) → {ws vs : List Row} → Pairs R ws vs → Pairs S (map g ws) (map g vs)
pairs-both g k Pairs.pairs-nil = Pairs.pairs-nil
pairs-both g k (Pairs.pairs-cons {x = w} {y = v} h s) = Pairs.pairs-cons (k w v h) (pairs-both g k s)

-- a call on one file changes its row alone, as the row says
module _ (n : ℕ) (t : Row → ℕ) (g : Row → Row) (d : Row) where
  abbrev status_in : List Row → ℕ
  status_in ws = cond (not (any (is_row n) ws)) 70 (t (first_or (is_row n) d ws))

  heeded-item : (b : Bool) (w : Row) (xs ys zs : List Row) → cond b xs ys ≡ zs → cond b (w ∷ xs) (w ∷ ys) ≡ w ∷ zs
  heeded-item true w xs ys zs e = ap {B = List Row} (λ s. w ∷ s) e
  heeded-item false w xs ys zs e = ap {B = List Row} (λ s. w ∷ s) e

  heeded-rows : (ws : List Row) → cond (eqb (status_in ws) 0) (amend (is_row n) g ws) ws ≡ amend (is_row n) (heeded t g) ws
  unfolding amend any first_or
  heeded-rows [] = refl
  heeded-rows (w ∷ ws) = by (is_row n w) (heeded-item (eqb (status_in ws) 0) w (amend (is_row n) g ws) ws (amend (is_row n) (heeded t g) ws) (heeded-rows ws))
    where
      here : (b : Bool) → cond b (g w ∷ ws) (w ∷ ws) ≡ cond b (g w) w ∷ ws
      here true = refl
      here false = refl

      by : (a : Bool) → cond (eqb (status_in ws) 0) (w ∷ amend (is_row n) g ws) (w ∷ ws) ≡ w ∷ amend (is_row n) (heeded t g) ws
          → cond (eqb (cond (not (cond a true (any (is_row n) ws))) 70 (t (cond a w (first_or (is_row n) d ws)))) 0) (cond a (g w ∷ ws) (w ∷ amend (is_row n) g ws)) (w ∷ ws) ≡ cond a (heeded t g w ∷ ws) (w ∷ amend (is_row n) (heeded t g) ws)
      by true e = here (eqb (t w) 0)
      by false e = e

  heeded-ledger : (o : Edition) (ws : List Row) → cond (eqb (status_in ws) 0) (in_grace o (amend (is_row n) g ws)) (in_grace o ws) ≡ in_grace o (amend (is_row n) (heeded t g) ws)
  heeded-ledger o ws = by (eqb (status_in ws) 0) ∙ ap (in_grace o) (heeded-rows ws)
    where
      by : (b : Bool) → cond b (in_grace o (amend (is_row n) g ws)) (in_grace o ws) ≡ in_grace o (cond b (amend (is_row n) g ws) ws)
      by true = refl
      by false = refl

one-file : (o : Edition) (n : ℕ) (t : Row → ℕ) (g : Row → Row) → Kept t g → {ws vs : List Row} → Pairs Worse ws vs
    → Side (cond (eqb (status_in n t g (new_row n []) ws) 0) (in_grace o (amend (is_row n) g ws)) (in_grace o ws)) (cond (eqb (status_in n t g (new_row n []) vs) 0) (in_grace o (amend (is_row n) g vs)) (in_grace o vs))
one-file o n t g k {ws} {vs} s = rw (heeded-ledger n t g (new_row n []) o ws, heeded-ledger n t g (new_row n []) o vs) (side (pairs-amend n (heeded t g) k s))

-- LAYOUTRETURN: only a report of the all-zero stateid, whole, is accepted in grace, and raises no seqid; p is the report of a request that is read as q
abbrev report_fed : ℕ → ℕ → Report → Request → List Row → Ledger
report_fed n c p q ws = cond (eqb (refused (report_rules (in_grace Current ws) n c p)) 0) (on_row (in_grace Current ws) n (λ w. raised_by q c (reported Current (errors_of p) w))) (in_grace Current ws)

report-side : (n c k : ℕ) (p : Report) {ws vs : List Row} → Pairs Worse ws vs → Side (report_fed n c p (request.File kind.Anonymous k) ws) (report_fed n c p (request.File kind.Anonymous k) vs)
unfolding registered row_of
report-side n c k Malformed h = side h
report-side n c k (Whole xs ys) h = one-file Current n (λ w. refused (intent_rules c w)) (reported Current xs) (report-kept c xs) h

return-side : (o : Edition) (n c : ℕ) (s d : List ℕ) (q : Request) → request_of s ≡ q → {ws vs : List Row} → Pairs Worse ws vs
    → Side (feed (in_grace o ws) (layout_return n c s d) (judge_request (in_grace o ws) n c s d q)) (feed (in_grace o vs) (layout_return n c s d) (judge_request (in_grace o vs) n c s d q))
unfolding feed apply
return-side o n c s d (request.Refused k) e h = rw (ne_eqb k 0 (refused-number s e)) (side h)
return-side o n c s d request.Bulk e h = side h
return-side o n c s d (request.File kind.Bypass k) e h = side h
return-side o n c s d (request.File kind.Invalid k) e h = side h
return-side o n c s d (request.File kind.Current k) e h = side h
return-side o n c s d (request.File kind.Ordinary k) e h = side h
return-side Old n c s d (request.File kind.Anonymous k) e h = side h
return-side Current n c s d (request.File kind.Anonymous k) e {ws} {vs} h =
    let p = report_of (body_of s) in
    subst⁻¹ (λ (q : Request). Side (report_fed n c p q ws) (report_fed n c p q vs)) e (report-side n c k p h)

step-side : (o : Edition) (x : Call) {ws vs : List Row} → (x ≡ end_grace → ⊥) → Pairs Worse ws vs → Side (feed (in_grace o ws) x (judge (in_grace o ws) x)) (feed (in_grace o vs) x (judge (in_grace o vs) x))
unfolding feed judge apply registered row_of
step-side o (register n s) k h = side h
step-side o (opening n c) k h = side h
step-side o (set_up n c s) k h = side h
step-side o (reclaim n c) k h = one-file o n (λ w. refused (intent_rules c w)) (has_reclaimed c) (reclaim-kept c) h
step-side o (close n c) k h = one-file o n (λ w. refused (close_rules true c w)) (closed c) (close-kept c) h
step-side o (repaired n) k h = one-file o n (λ w. refused (repaired_rules w)) mended repaired-kept h
step-side o (add_proxy n s) k h = side h
step-side o (remove_proxy n) k h = side h
step-side o (forget n) k h = side h
step-side o end_grace k h = absurd (k refl)
step-side o restart k h = side (pairs-both restarted restart-kept h)
step-side o (layout_return n c s d) {ws} {vs} k h = by (ltb (length d) 24)
  where
    by : (b : Bool) → Side (feed (in_grace o ws) (layout_return n c s d) (cond b (replied 28 no_totals d) (judge_request (in_grace o ws) n c s d (request_of s)))) (feed (in_grace o vs) (layout_return n c s d) (cond b (replied 28 no_totals d) (judge_request (in_grace o vs) n c s d (request_of s))))
    by true = side h
    by false = return-side o n c s d (request_of s) refl h
step-side o (listing which by a b) {ws} {vs} k h = rw (lend-changes-nothing _ _ a b, lend-changes-nothing _ _ a b) (side h)

-- ---- the calls up to the end
ledger-is : (l : Ledger) {o : Edition} → l.edition ≡ o → l.grace ≡ true → l ≡ in_grace o l.rows
ledger-is l u e = ap₂ {C = Ledger} (λ o g. record { edition = o; grace = g; rows = l.rows }) u e

next-side : (x : Call) {l l' : Ledger} → (x ≡ end_grace → ⊥) → Side l l' → Side (feed l x (judge l x)) (feed l' x (judge l' x))
next-side x {l} {l'} k h = rw (ledger-is l refl h.grace, ledger-is l' h.edition h.grace') (step-side l.edition x k h.rows)

-- a record out of grace ends the period
over-at-once : (r : Record) (xs : List Call) → r.head.grace ≡ false → in_grace_through r xs ≡ true → ⊥
unfolding in_grace_through
over-at-once r [] e h = true-false (sym h ∙ e)
over-at-once r (x ∷ xs) e h = true-false (sym (rw e at h))

still-in : (r : Record) (xs : List Call) → in_grace_through r xs ≡ true → r.head.grace ≡ true
still-in r xs h = by r.head.grace refl
  where
    by : (b : Bool) → r.head.grace ≡ b → b ≡ true
    by true e = refl
    by false e = absurd (over-at-once r xs e h)

rest-through : (r : Record) (x : Call) (xs : List Call) → in_grace_through r (x ∷ xs) ≡ true → in_grace_through (step r x).after xs ≡ true
unfolding in_grace_through
rest-through r x xs h = by r.head.grace h
  where
    by : (b : Bool) → cond b (in_grace_through (step r x).after xs) false ≡ true → in_grace_through (step r x).after xs ≡ true
    by true e = e
    by false e = true-false (sym e)

after-end : (r : Record) → r.head.grace ≡ true → (step r end_grace).after.head.grace ≡ false
unfolding step end_of
after-end r e = rw e

no_end : (r : Record) (x : Call) (xs : List Call) → in_grace_through r (x ∷ xs) ≡ true → x ≡ end_grace → ⊥
no_end r x xs h e = over-at-once (step r end_grace).after xs (after-end r (still-in r (x ∷ xs) h)) (rw e at (rest-through r x xs h))

through-side : (during : List Call) (r : Record) (l l' : Ledger) → Matches r l → in_grace_through r during ≡ true → Side l l' → Side (fed l during) (fed l' during)
unfolding fed
through-side [] r l l' m g h = h
through-side (x ∷ xs) r l l' m g h = through-side xs (step r x).after (feed l x (judge l x)) (feed l' x (judge l' x)) (step-agrees r l x m).after (rest-through r x xs g) (next-side x (no_end r x xs g) h)

-- ---- the end: what is left of the relation
record AtLeast (w v : Row) : Type 0 where
  number : v.number ≡ w.number
  mirrors : v.mirrors ≡ w.mirrors
  proxy : v.proxy ≡ w.proxy
  marked : w.marked ≡ true → v.marked ≡ true
  blamed : (i : ℕ) → has i w.blamed ≡ true → has i v.blamed ≡ true

lost-too : (w v : Row) → Worse w v → lost w ≡ true → lost v ≡ true
lost-too w v h e =
    sym (any-key client_in (λ c. not (has c v.reclaimed)) v.intents)
    ∙ any-within (λ c. not (has c w.reclaimed)) (λ c. not (has c v.reclaimed)) (λ c k q. by (has c v.reclaimed) (h.reclaims c k) q) h.intents (any-key client_in (λ c. not (has c w.reclaimed)) w.intents ∙ e)
  where
    by : {a : Bool} (b : Bool) → (b ≡ true → a ≡ true) → not a ≡ true → not b ≡ true
    by true f q = true-false (sym (rw (f refl) at q))
    by false f q = refl

ended-kept : (w v : Row) → Worse w v → AtLeast (ended w) (ended v)
ended-kept w v h = record { number = h.number; mirrors = h.mirrors; proxy = h.proxy; marked = λ e. by (lost w) (lost v) (lost-too w v h) e; blamed = h.blamed }
  where
    by : (a b : Bool) → (a ≡ true → b ≡ true) → cond a true w.marked ≡ true → cond b true v.marked ≡ true
    by a true f e = refl
    by true false f e = true-false (sym (f refl))
    by false false f e = h.marked e

-- the row of a file in either ledger
record SameFile (n : ℕ) (l l' : Ledger) : Type 0 where
  there : registered n l' ≡ registered n l
  row : AtLeast (row_of n l) (row_of n l')

module _ (n : ℕ) where
  any-row : {ws vs : List Row} → Pairs AtLeast ws vs → any (is_row n) vs ≡ any (is_row n) ws
  unfolding any
  any-row Pairs.pairs-nil = refl
  any-row (Pairs.pairs-cons h s) = rw (h.number, any-row s)

  first-row : {ws vs : List Row} (d : Row) → Pairs AtLeast ws vs → AtLeast (first_or (is_row n) d ws) (first_or (is_row n) d vs)
  unfolding first_or
  first-row d Pairs.pairs-nil = record { number = refl; mirrors = refl; proxy = refl; marked = λ e. e; blamed = λ i e. e }
  first-row d (Pairs.pairs-cons {x = w} {y = v} {xs = ws} {ys = vs} h s) = by (is_row n w) (is_row n v) (ap (λ m. eqb m n) h.number) (first-row d s)
    where
      by : (a b : Bool) → b ≡ a → AtLeast (first_or (is_row n) d ws) (first_or (is_row n) d vs) → AtLeast (cond a w (first_or (is_row n) d ws)) (cond b v (first_or (is_row n) d vs))
      by true true e t = h
      by false false e t = t
      by true false e t = true-false (sym e)
      by false true e t = true-false e

  ended-rows : (o : Edition) {ws vs : List Row} → Pairs Worse ws vs → SameFile n (fed (in_grace o ws) (end_grace ∷ [])) (fed (in_grace o vs) (end_grace ∷ []))
  unfolding fed feed judge apply registered row_of
  ended-rows o s = let t = pairs-both ended ended-kept s in record { there = any-row t; row = first-row (new_row n []) t }

  ended-side : {l l' : Ledger} → Side l l' → SameFile n (fed l (end_grace ∷ [])) (fed l' (end_grace ∷ []))
  ended-side {l} {l'} h = rw (ledger-is l refl h.grace, ledger-is l' h.edition h.grace') (ended-rows l.edition h.rows)

-- ---- two histories
restarts : {ws : List Row} → All Sound ws → Pairs Worse ws (map restarted ws)
restarts All.all_nil = Pairs.pairs-nil
restarts (All.all_cons {x = w} h t) = Pairs.pairs-cons (after-restart w h) (restarts t)

restart-side : (l : Ledger) → l.grace ≡ true → All Sound l.rows → Side l (feed l restart (judge l restart))
unfolding feed judge apply
restart-side l e h = record { edition = refl; grace = e; grace' = refl; rows = restarts h }

module _ (ed : Edition) (before during : List Call) (g : in_grace_through (record_after (fresh_as ed) before) during ≡ true) (n : ℕ) where
  abbrev so_far : Ledger
  so_far = fed (no_rows ed) before

  matched : Matches (record_after (fresh_as ed) before) so_far
  matched = rw (fed-ledger ed before) at (after-all before (fresh_as ed) (no_rows ed) (fresh-matches ed))

  sides : Side (fed so_far during) (fed (feed so_far restart (judge so_far restart)) during)
  sides =
      through-side during (record_after (fresh_as ed) before) so_far (feed so_far restart (judge so_far restart)) matched g
      (restart-side so_far (sym matched.grace ∙ still-in (record_after (fresh_as ed) before) during g) (sound-fed before (no_rows ed) All.all_nil))

  once_is : ledger_of ed (before ++ during ++ end_grace ∷ []) ≡ fed (fed so_far during) (end_grace ∷ [])
  once_is = fed-ledger ed (before ++ during ++ end_grace ∷ []) ∙ fed-append (before ++ during) (end_grace ∷ []) (no_rows ed) ∙ ap (λ l. fed l (end_grace ∷ [])) (fed-append before during (no_rows ed))

  twice-is : ledger_of ed (before ++ restart ∷ during ++ end_grace ∷ []) ≡ fed (fed (feed so_far restart (judge so_far restart)) during) (end_grace ∷ [])
  unfolding fed
  twice-is = fed-ledger ed (before ++ restart ∷ during ++ end_grace ∷ []) ∙ fed-append (before ++ restart ∷ during) (end_grace ∷ []) (no_rows ed) ∙ ap (λ l. fed l (end_grace ∷ [])) (fed-append before (restart ∷ during) (no_rows ed))

  same-file : SameFile n (ledger_of ed (before ++ during ++ end_grace ∷ [])) (ledger_of ed (before ++ restart ∷ during ++ end_grace ∷ []))
  same-file = rw (once_is, twice-is) (ended-side n sides)

-- ---- the record's list: room for 64 is enough
slots_length : {A B : Type 0} {R : A → B → Type 0} {F : A → Type 0} {xs : List A} {ys : List B} → Slots R F xs ys → length ys ≤ length xs
slots_length (Slots.rest h) = omega arith
slots_length (Slots.item r s) = omega (arith, slots_length s)

take-fill : (ns a : List ℕ) → length ns ≤ length a → take (length ns) (fill ns a) ≡ ns
unfolding fill
take-fill [] a h = refl
take-fill (n ∷ ns) [] h = absurd (omega arith)
take-fill (n ∷ ns) (x ∷ xs) h = ap {B = List ℕ} (λ s. n ∷ s) (take-fill ns xs (omega arith))

few-files : (ed : Edition) (calls : List Call) → length (numbers (rows_on Resilver (ledger_of ed calls))) ≤ 64
few-files ed calls =
    let m = after-all calls (fresh_as ed) (no_rows ed) (fresh-matches ed) in
    let l = ledger_of ed calls in
    omega (arith, length-map (rows_on Resilver l) (λ (w : Row). w.number), chosen-length (is_on Resilver) l.rows, slots_length m.rows, m.long)

listed-files : (ns ss a b : List ℕ) → length ns ≤ length a → length ns ≤ length b → files_of (lend ns ss a b) ≡ ns
unfolding lend
listed-files ns ss a b h k = rw (le-leb (length ns) (length a) h, le-leb (length ns) (length b) k) (take-fill ns a h)

resilver-files : (ed : Edition) (calls : List Call) → resilver_files ed calls ≡ numbers (rows_on Resilver (ledger_of ed calls))
unfolding judge
resilver-files ed calls = ap files_of ((history ed calls).listings Resilver Highest (replicate 64 0) (replicate 64 0)) ∙ listed-files (numbers (rows_on Resilver (ledger_of ed calls))) _ (replicate 64 0) (replicate 64 0) (few-files ed calls) (few-files ed calls)

is-listed : (ed : Edition) (calls : List Call) (n : ℕ) → has n (resilver_files ed calls) ≡ row_passes (is_on Resilver) n (ledger_of ed calls)
is-listed ed calls n = ap (has n) (resilver-files ed calls) ∙ ((history ed calls).lists Resilver Highest).is.exactly n

both_true : (b : Bool) {p q : Bool} → (p ≡ true → q ≡ true) → cond b p false ≡ true → cond b q false ≡ true
both_true true f e = f e
both_true false f e = e

passes-too : (n : ℕ) (l l' : Ledger) → SameFile n l l' → row_passes (is_on Resilver) n l ≡ true → row_passes (is_on Resilver) n l' ≡ true
passes-too n l l' h e = rw h.there (both_true (registered n l) h.row.marked e)

-- ---- the record's blame is the row's
no_row : (p : Row → Bool) (d : Row) (ws : List Row) → any p ws ≡ false → first_or p d ws ≡ d
unfolding any first_or
no_row p d [] e = refl
no_row p d (w ∷ ws) e = rw (first-no (p w) (any p ws) e) (no_row p d ws (rest-no (p w) (any p ws) e))

-- i is one of the five places, or none is blamed there
module _ (r : Record) (l : Ledger) (n i : ℕ) where
  blame-by : AtFile n r l → (b : Bool) → ltb i 5 ≡ b → is_blamed n i r ≡ cond b (has i (row_of n l).blamed) false
  unfolding row_of
  blame-by (missing a e) b k = rw (not_there r n a, no_row (is_row n) (new_row n []) l.rows e, nothing-in i) (by b)
    where
      by : (b : Bool) → false ≡ cond b false false
      by true = refl
      by false = refl
  blame-by (found j w z) true k =
      let f = z.pair no_file in
      rw (here n r l j w z, it-is n r l j w z, z.the (new_row n [])) (f.copies.blame i (ltb-true i 5 k))
  blame-by (found j w z) false k =
      let f = z.pair no_file in
      rw (here n r l j w z, it-is n r l j w z) (ap (λ (m : Mirror). m.blamed) (get_or-eq_default (get_or r.files j no_file).mirrors no_mirror (omega (arith, ltb-false i 5 k, five f.copies))))

blame-is : (ed : Edition) (calls : List Call) (n i : ℕ) → is_blamed n i (record_after (fresh_as ed) calls) ≡ cond (ltb i 5) (has i (row_of n (ledger_of ed calls)).blamed) false
blame-is ed calls n i = blame-by (record_after (fresh_as ed) calls) (ledger_of ed calls) n i (at-file n (after-all calls (fresh_as ed) (no_rows ed) (fresh-matches ed))) (ltb i 5) refl

pub restart-twice : RestartTwice
restart-twice ed before during g =
    let once = before ++ during ++ end_grace ∷ [] in
    let twice = before ++ restart ∷ during ++ end_grace ∷ [] in
    record {
      listed = λ n e. is-listed ed twice n ∙ passes-too n (ledger_of ed once) (ledger_of ed twice) (same-file ed before during g n) (sym (is-listed ed once n) ∙ e);
      blamed = λ n i e. (same-file ed before during g n).row.blamed i e;
      held = λ n i e. blame-is ed twice n i ∙ both_true (ltb i 5) ((same-file ed before during g n).row.blamed i) (sym (blame-is ed once n i) ∙ e);
      mirrors = λ n. (same-file ed before during g n).row.mirrors;
      proxy = λ n. (same-file ed before during g n).row.proxy;
    }

-- ---- a restart and the end of grace at once
no-reclaim : (w : Row) → is_open w ≡ true → lost (restarted w) ≡ true
unfolding none any has
no-reclaim w e = by w.intents e
  where
    by : (xs : List Holder) → not (none xs) ≡ true → any (λ (x : Holder). not (has x.client [])) (map (λ (x : Holder). holder x.client no_layout) xs) ≡ true
    by [] k = true-false (sym k)
    by (x ∷ xs) k = refl

forgotten : (n : ℕ) (ws : List Row) → is_open (first_or (is_row n) (new_row n []) ws) ≡ true
    → cond (any (is_row n) (map ended (map restarted ws))) (first_or (is_row n) (new_row n []) (map ended (map restarted ws))).marked false ≡ true
unfolding any first_or none
forgotten n [] e = true-false (sym e)
forgotten n (w ∷ ws) e = by (is_row n w) e (forgotten n ws)
  where
    rest : List Row
    rest = map ended (map restarted ws)

    by : (b : Bool) → is_open (cond b w (first_or (is_row n) (new_row n []) ws)) ≡ true
        → (is_open (first_or (is_row n) (new_row n []) ws) ≡ true → cond (any (is_row n) rest) (first_or (is_row n) (new_row n []) rest).marked false ≡ true)
        → cond (cond b true (any (is_row n) rest)) (cond b (ended (restarted w)) (first_or (is_row n) (new_row n []) rest)).marked false ≡ true
    by true k f = rw (no-reclaim w k)
    by false k f = f k

restarted-and-ended : (n : ℕ) (l : Ledger) → is_open (row_of n l) ≡ true → row_passes (is_on Resilver) n (fed l (restart ∷ end_grace ∷ [])) ≡ true
unfolding fed feed judge apply registered row_of
restarted-and-ended n l e = forgotten n l.rows e

pub reclaim-again : ReclaimAgain
reclaim-again ed before n e =
    let calls = before ++ restart ∷ end_grace ∷ [] in
    is-listed ed calls n ∙ ap (row_passes (is_on Resilver) n) (fed-ledger ed calls ∙ fed-append before (restart ∷ end_grace ∷ []) (no_rows ed))
    ∙ restarted-and-ended n (fed (no_rows ed) before) (rw (fed-ledger ed before) at e)
