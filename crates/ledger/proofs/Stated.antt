-- Clients' stateids on one file (02, Ticket 13), beside the ledger's. In this order: a place's stateid; who uses an `other`; a client's stateid, and one that it
-- gets; the set-up; step 4 of an ordinary return; what it makes of the file.
use mathlib.Core.Path.{◌≡◌, refl, ap, sym, ◌∙◌}
use mathlib.Core.List.{List, [], ◌∷◌, ◌++◌, map}
use mathlib.Core.Bool.{Bool, true, false, not, cond}
use Prim.Native.Nat.{ℕ, ◌+◌}
use native.Mathlib.Omega.{arith}
use lib.ListN.{length, drop, length-map}
use lib.Dec.{eqb}
use borrow.Author.Tests.{eqb-true, ne_eqb}
use Rattle.statuses.specs.Names.{Bytes}
use Rattle.statuses.specs.Rules.{refused}
use Rattle.xdr.specs.Be.{be_nat}
use Rattle.reports.specs.Statistics.{Statistic}
use Rattle.reports.specs.Report.{DeviceError, Report, Whole, Malformed}
use Rattle.wire.specs.Seqid.{age_of, raised_seqid}
use Rattle.wire.specs.Stateid.{no_stateid, stateid_bytes, new_stateid, bad_other, has_other, raised_stateid}
use Rattle.wire.specs.declared.seqid.Age.{Age}
use Rattle.wire.specs.declared.seqid.Age.TheVariants.{Same, Older, Newer}
use Rattle.wire.specs.declared.stateid.Stateid.{Stateid}
use Rattle.places.specs.Lists.{any, first_or}
use Rattle.places.specs.Places.{first}
use Rattle.places.proofs.Slots.{slots_map, slots-any, missing, found}
use Rattle.places.proofs.Sets.{true-false, first-no, rest-no}
use Rattle.mirroring.specs.Blame.{status_only, errors_assessed, assessment_of}
use Rattle.mirroring.specs.TotalsSteps.{mirror_totals}
use Rattle.mirroring.specs.declared.blame.Assessment.{Assessment}
use Rattle.mirroring.specs.declared.mirrors.Mirror.{Mirror}
use Rattle.intents.specs.Intents.{no_intent, is_intent, is_stated, uses_other, stated_if}
use Rattle.intents.specs.declared.Intent.{Intent}
use Rattle.files.specs.File as file
use Rattle.files.specs.File.{FileAnswered, is_file, file_answered, states, uses_stateid, changed_file, raised_file}
use Rattle.files.specs.Head.{is_old}
use Rattle.files.specs.declared.head.Edition.{Edition}
use Rattle.files.specs.declared.head.Edition.TheVariants.{Current, Old}
use Rattle.files.specs.declared.file.File.{File}
use Rattle.files.specs.declared.head.Head.{Head}
use Rattle.files.proofs.Changing.{unchanged}
use Rattle.layoutreturn.specs.LayoutReturn.{by_stateid, held_on, bar_on, in_edition, return_on, raised_on, outcome_on}
use Rattle.recovery.specs.LayoutReturn.{answered_by}
use Rattle.ledger.specs.Ledger.{Layout, no_layout, held, Holder, holder, is_holder, Row, Ledger, layout_of, is_held, is_other, age_in, raised_layout, layout_bytes, is_older, is_newer, uses, in_use, set_up_rules, stateid_rules, body_rules, stated, is_set_up, is_stranger, is_fault, blame, with_mark, with_blame, reported, errors_of}
use Rattle.ledger.proofs.Relation.{LayoutIs, no-stateid, its-stateid, IntentIs, FileIs, NoFile, with-intents, FileAgrees, branch}
use Rattle.ledger.proofs.Reported.{file-after-report, whole-status, nothing-changed}
use Rattle.ledger.proofs.OneFile.{is-intent, AtIntent, at-intent, told-phase}

-- ---- a place's stateid
is-held : {u : Stateid} {y : Layout} → LayoutIs u y → is_stated u ≡ is_held y
is-held (no-stateid e) = e
is-held (its-stateid q e) = rw q e

has_other_lem : (t : Stateid) {u : Stateid} {y : Layout} → LayoutIs u y → cond (is_stated u) (has_other t u) false ≡ is_other t y
has_other_lem t (no-stateid e) = rw e
has_other_lem t (its-stateid q e) = rw (q, e)

-- a raised seqid is never 0
raised-stated : (t : Stateid) → is_stated (raised_stateid t) ≡ true
unfolding raised_seqid
raised-stated t = by (eqb t.seqid 4294967295)
  where
    by : (b : Bool) → not (eqb (cond b 1 (t.seqid + 1)) 0) ≡ true
    by true = refl
    by false = ap not (ne_eqb (t.seqid + 1) 0 (λ e. omega (arith, e)))

raised_is : {u : Stateid} {y : Layout} → LayoutIs u y → is_held y ≡ true → LayoutIs (raised_stateid u) (raised_layout y)
raised_is (no-stateid e) z = true-false (sym z)
raised_is (its-stateid {u = v} q e) z = its-stateid (ap raised_stateid q) (raised-stated v)

pub raised-bytes : {u : Stateid} {y : Layout} → LayoutIs u y → is_held y ≡ true → stateid_bytes (raised_stateid u) ≡ layout_bytes (raised_layout y)
raised-bytes (no-stateid e) z = true-false (sym z)
raised-bytes (its-stateid q e) z = ap (λ t. stateid_bytes (raised_stateid t)) q

-- ---- who uses an `other`
uses-intent : (g : Bool) (rs : List ℕ) (t : Stateid) (x : Intent) (y : Holder) → IntentIs g rs x y → uses_other t x ≡ is_other t y.layout
uses-intent g rs t x y h = rw h.taken (has_other_lem t h.stateid)

pub uses-file : (g : Bool) (t : Stateid) (f : File) (w : Row) → FileIs g f w → uses_stateid t f ≡ uses t w
unfolding uses_stateid
uses-file g t f w h = rw h.used (slots-any (uses_other t) (λ (y : Holder). is_other t y.layout) (uses-intent g w.reclaimed t) (λ x k. rw k) h.intents.places)

pub uses-none : (t : Stateid) (f : File) → NoFile f → uses_stateid t f ≡ false
unfolding uses_stateid
uses-none t f h = rw h

-- ---- a client's stateid, and one that it gets
none-first_or : {A : Type 0} (p : A → Bool) (d : A) (xs : List A) → any p xs ≡ false → first_or p d xs ≡ d
unfolding any first_or
none-first_or p d [] e = refl
none-first_or p d (x ∷ xs) e = rw (first-no (p x) (any p xs) e) (none-first_or p d xs (rest-no (p x) (any p xs) e))

held_at : (g : Bool) (f : File) (w : Row) (c : ℕ) → AtIntent c g f w → LayoutIs (held_on c f) (layout_of c w)
held_at g f w c (missing a b) = rw (a, ap (λ (z : Holder). z.layout) (none-first_or (is_holder c) (holder c no_layout) w.intents b)) (no-stateid refl)
held_at g f w c (found i y t) = rw (t.at, ap (λ (z : Holder). z.layout) (t.the (holder c no_layout))) (t.pair no_intent).stateid

pub held_on_lem : {g : Bool} {f : File} {w : Row} (c : ℕ) → FileIs g f w → LayoutIs (held_on c f) (layout_of c w)
held_on_lem {g} {f} {w} c h = held_at g f w c (at-intent c h)

stated-intent : (rs : List ℕ) (c : ℕ) {t : Stateid} {y : Layout} → LayoutIs t y → (x : Intent) (z : Holder) → IntentIs false rs x z → IntentIs false rs (stated_if c t x) (cond (is_holder c z) (holder c y) z)
stated-intent rs c {t} {y} k x z h = rw (is-intent false rs c x z h) (by (is_holder c z) refl)
  where
    by : (b : Bool) → is_holder c z ≡ b → IntentIs false rs (record { client = x.client; stateid = cond b t x.stateid; taken = x.taken; reclaimed = x.reclaimed }) (cond b (holder c y) z)
    by true e = record { taken = h.taken; client = h.client ∙ eqb-true z.client c e; reclaimed = λ q. true-false (sym q); stateid = k; bare = λ q. true-false (sym q) }
    by false e = h

file-stated : {f : File} {w : Row} (c : ℕ) {t : Stateid} {y : Layout} → LayoutIs t y → FileIs false f w → FileIs false (file.with_intents (map (stated_if c t) f.intents) f) (stated c y w)
file-stated {f} {w} c {t} {y} k h = with-intents h (record {
  places = slots_map (stated_if c t) (λ (z : Holder). cond (is_holder c z) (holder c y) z) (stated-intent w.reclaimed c k) (λ x q. q) h.intents.places;
  eight = length-map f.intents (stated_if c t) ∙ h.intents.eight;
})

-- ---- the set-up, out of grace
new-stated : (s : Bytes) → bad_other s ≡ false → is_stated (new_stateid s) ≡ true
unfolding bad_other new_stateid
new-stated s e = by (eqb (length s) 12) (first-no (not (eqb (length s) 12)) _ e)
  where
    by : (b : Bool) → not b ≡ false → is_stated (cond b (record { high = be_nat 8 s; low = be_nat 4 (drop 8 s); seqid = 1 }) no_stateid) ≡ true
    by true q = refl
    by false q = true-false q

module _ {f : File} {w : Row} (d : Head) (c : ℕ) (s : Bytes) (h : FileIs false f w) where
  -- a is whether the `other` is bad, and u whether it is in use
  unbarred : (b a u : Bool) → bad_other s ≡ a → b ≡ cond a true u
      → FileAgrees d false (cond b (file_answered 22 d f) (file_answered 0 d (file.with_intents (map (stated_if c (new_stateid s)) f.intents) f))) w (is_set_up c s w) (cond a 22 (cond u 22 0))
  unbarred b true u q e = rw e (record { same = refl; kept = record { head = refl; file = h } })
  unbarred b false true q e = rw e (record { same = refl; kept = record { head = refl; file = h } })
  unbarred b false false q e = rw e (record { same = refl; kept = record { head = refl; file = file-stated c (its-stateid refl (new-stated s q)) h } })

  sets-up : (l : Ledger) (b : Bool) → b ≡ cond (bad_other s) true (in_use (new_stateid s) l) → AtIntent c false f w
      → FileAgrees d false (states c (new_stateid s) b d f (first (is_intent c) f.intents)) w (is_set_up c s w) (refused (set_up_rules l c s w))
  sets-up l b e (missing p q) = rw (p, q) (record { same = refl; kept = record { head = refl; file = h } })
  sets-up l b e (found i y t) = rw (t.at, t.there) (branch (is_held (layout_of c w)) (is-held (t.pair no_intent).stateid ∙ ap (λ (z : Holder). is_held z.layout) (sym (t.the (holder c no_layout))))
      (λ z. record { same = refl; kept = record { head = refl; file = h } })
      (λ z. unbarred b (bad_other s) (in_use (new_stateid s) l) refl e))

  pub file-set-up : (l : Ledger) (b : Bool) → b ≡ cond (bad_other s) true (in_use (new_stateid s) l)
      → FileAgrees d false (states c (new_stateid s) b d f (first (is_intent c) f.intents)) w (is_set_up c s w) (refused (set_up_rules l c s w))
  file-set-up l b e = sets-up l b e (at-intent c h)

-- ---- step 4 of a return with the stateid t, where the client has y; k is what the later steps answer
abbrev pub barred : Stateid → Layout → ℕ → ℕ
barred t y k = cond (not (is_other t y)) 10025 (cond (is_newer (age_in t y)) 10025 (cond (is_older (age_in t y)) 10024 k))

pub data Step4 (t u : Stateid) (y : Layout) : Type 0 where
  passes : by_stateid t u ≡ 0 → is_held y ≡ true → ((k : ℕ) → barred t y k ≡ k) → Step4 t u y
  stops : (s : ℕ) → by_stateid t u ≡ s → eqb s 0 ≡ false → ((k : ℕ) → barred t y k ≡ s) → Step4 t u y

pub step4 : (t : Stateid) {u : Stateid} {y : Layout} → LayoutIs u y → Step4 t u y
step4 t (no-stateid e) = stops 10025 (rw e) refl (λ k. refl)
step4 t (its-stateid {u = v} q e) = rw q (by (has_other t v) refl (age_of v.seqid t.seqid) refl)
  where
    by : (b : Bool) → has_other t v ≡ b → (a : Age) → age_of v.seqid t.seqid ≡ a → Step4 t v (held v)
    by false p a r = stops 10025 (rw (e, p)) refl (λ k. rw p)
    by true p Same r = passes (rw (e, p, r)) refl (λ k. rw (p, r))
    by true p Older r = stops 10024 (rw (e, p, r)) refl (λ k. rw (p, r))
    by true p Newer r = stops 10025 (rw (e, p, r)) refl (λ k. rw (p, r))

-- steps 4 to 7, by step 4
pub return-stops : (n c : ℕ) (t : Stateid) (d : Head) (p : Report) (f : File) (s : ℕ) → bar_on n c t f ≡ s → eqb s 0 ≡ false → return_on n d c t p f ≡ status_only s
unfolding return_on
return-stops n c t d p f s e q = rw (e, q)

pub return-passes : (n c : ℕ) (t : Stateid) (d : Head) (p : Report) (f : File) → bar_on n c t f ≡ 0 → return_on n d c t p f ≡ in_edition d (assessment_of f.mirrors p)
unfolding return_on
return-passes n c t d p f e = rw e

pub bar-none : (n c : ℕ) (t : Stateid) (f : File) → is_file n f ≡ false → bar_on n c t f ≡ 70
unfolding bar_on
bar-none n c t f e = rw e

pub bar-one : (n c : ℕ) (t : Stateid) (f : File) → is_file n f ≡ true → bar_on n c t f ≡ by_stateid t (held_on c f)
unfolding bar_on
bar-one n c t f e = rw e

-- ---- what it makes of the file: the seqid rises with status 0 alone
abbrev pub returned_file : Head → ℕ → File → Assessment → FileAnswered
returned_file d c f a = answered_by f (outcome_on d c (raised_on c f a.status) f a)

pub nothing-raised : (d : Head) (c k : ℕ) (f : File) → eqb k 0 ≡ false → returned_file d c f (status_only k) ≡ file_answered k d f
nothing-raised d c k f e = rw e (nothing-changed d c k f)

-- an old record reads a body for its form alone
pub malformed-in : (d : Head) (ms : List Mirror) → in_edition d (assessment_of ms Malformed) ≡ status_only 10036
unfolding assessment_of errors_assessed mirror_totals
malformed-in d ms = by d.old
  where
    by : (b : Bool) → cond b (status_only 10036) (status_only 10036) ≡ status_only 10036
    by true = refl
    by false = refl

same-status : (d : Head) (a : Assessment) → (in_edition d a).status ≡ a.status
same-status d a = by d.old
  where
    by : (b : Bool) → (cond b (status_only a.status) a).status ≡ a.status
    by true = refl
    by false = refl

told_in : {g : Bool} {f : File} {w : Row} (d : Head) (ed : Edition) (xs : List DeviceError) (ys : List Statistic) → d.old ≡ is_old ed → FileIs g f w
    → FileIs g (changed_file (in_edition d (assessment_of f.mirrors (Whole xs ys))).change f) (reported ed xs w)
told_in d Current xs ys e h = rw e (file-after-report xs ys h)
told_in {f = f} d Old xs ys e h = rw (e, unchanged f) h

reported-intents : (ed : Edition) (xs : List DeviceError) (w : Row) → (reported ed xs w).intents ≡ w.intents
reported-intents ed xs w = by (is_old ed) (any (is_stranger w) xs) (any is_fault xs)
  where
    by : (o a b : Bool) → (cond o w (cond a (with_mark true w) (cond b (with_mark true (with_blame (blame w xs w.blamed) w)) w))).intents ≡ w.intents
    by true a b = refl
    by false true b = refl
    by false false true = refl
    by false false false = refl

abbrev pub rises : ℕ → Row → Row
rises c w = stated c (raised_layout (layout_of c w)) w

module _ {f : File} {w : Row} (d : Head) (c : ℕ) (ed : Edition) (o : d.old ≡ is_old ed) (h : FileIs false f w) where
  raised-file : {v : Row} (g : File) → FileIs false g v → v.intents ≡ w.intents → is_held (layout_of c w) ≡ true → FileIs false (raised_file c (raised_stateid (held_on c f)) g) (rises c v)
  unfolding raised_file
  raised-file g k e z = rw (raised-stated (held_on c f)) (file-stated c (rw e (raised_is (held_on_lem c h) z)) k)

  file-accepted : (p : Report) → is_held (layout_of c w) ≡ true
      → FileAgrees d false (returned_file d c f (in_edition d (assessment_of f.mirrors p))) w (rises c (reported ed (errors_of p) w)) (refused (body_rules p))
  file-accepted Malformed z = rw (malformed-in d f.mirrors, nothing-raised d c 10036 f refl) (record { same = refl; kept = record { head = refl; file = h } })
  file-accepted (Whole xs ys) z =
      let a = in_edition d (assessment_of f.mirrors (Whole xs ys)) in
      rw (same-status d (assessment_of f.mirrors (Whole xs ys)) ∙ whole-status f.mirrors xs ys) (record {
        same = refl;
        kept = record {
          head = told-phase a.change d f;
          file = raised-file (changed_file a.change f) (told_in d ed xs ys o h) (reported-intents ed xs w) z;
        };
      })

  pub file-returned : (n : ℕ) (t : Stateid) (p : Report) → is_file n f ≡ true
      → FileAgrees d false (returned_file d c f (return_on n d c t p f)) w (rises c (reported ed (errors_of p) w)) (refused (stateid_rules c t w ++ body_rules p))
  file-returned n t p i = by (step4 t (held_on_lem c h))
    where
      by : Step4 t (held_on c f) (layout_of c w)
          → FileAgrees d false (returned_file d c f (return_on n d c t p f)) w (rises c (reported ed (errors_of p) w)) (barred t (layout_of c w) (refused (body_rules p)))
      by (passes e z k) = rw (return-passes n c t d p f (bar-one n c t f i ∙ e), k (refused (body_rules p))) (file-accepted p z)
      by (stops s e q k) = rw (return-stops n c t d p f s (bar-one n c t f i ∙ e) q, nothing-raised d c s f q, k (refused (body_rules p))) (record { same = refl; kept = rw q (record { head = refl; file = h }) })
