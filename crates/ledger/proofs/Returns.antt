-- LAYOUTRETURN on the record: its answer, its reply and the record that it leaves are what the ledger says. In this order: refusals of steps 1 and 2; steps 5 to
-- 7; an ordinary return; a step of a history; step 4; 28 and steps 1 to 7.
use Rattle.files.specs.File.{FileAnswered}
use mathlib.Core.Path.{◌≡◌, refl, ap, sym, ◌∙◌, subst}
use mathlib.Core.List.{List, [], ◌∷◌, ◌++◌}
use mathlib.Core.Bool.{Bool, true, false, not, cond}
use Prim.Native.Nat.{ℕ, ◌<◌}
use native.Mathlib.Omega.{arith}
use lib.ListN.{length}
use lib.Dec.{eqb, ltb}
use borrow.Author.Tests.{eqb-true, ne_eqb}
use Rattle.statuses.specs.Names.{Bytes, Client, FileNumber}
use Rattle.statuses.specs.Rules.{◌⇒◌, first_of, refused}
use Rattle.reports.specs.Report.{DeviceError, Report, Whole, Malformed, report_of}
use Rattle.wire.specs.Request.{Request, request_of, body_of}
use Rattle.xdr.specs.Reader.{zeros}
use Rattle.wire.specs.Reply.{reply_with, reply_in_with}
use Rattle.wire.specs.Stateid.{no_stateid, stateid_in, stateid_bytes, raised_stateid}
use Rattle.wire.specs.declared.stateid.Stateid.{Stateid}
use Rattle.wire.specs.declared.request.Kind.{Kind}
use Rattle.wire.specs.declared.request.Kind.TheVariants as kind
use Rattle.wire.specs.Request as request
use Rattle.wire.proofs.Replies.{none-bytes}
use Rattle.wire.proofs.Requests.{cond_below, refused-number, refused-small}
use Rattle.places.specs.Lists.{any}
use Rattle.mirroring.specs.Totals.{no_totals}
use Rattle.mirroring.specs.declared.totals.Totals.{Totals}
use Rattle.files.specs.Head.{is_old}
use Rattle.files.specs.declared.head.Edition.{Edition}
use Rattle.files.specs.declared.file.File.{File}
use Rattle.layoutreturn.specs.LayoutReturn.{handed_on_code, phase_of, decided, decision_of, report_on, held_on, return_on, raised_on, reply_by, Decision, Answered}
use Rattle.recovery.specs.Calls.{Call, layout_return, Answer, replied, handed_on}
use Rattle.recovery.specs.Record.{file_at, on_place}
use Rattle.recovery.specs.LayoutReturn.{returning, return_file, reported_of, ordinary_of, returned_by, layoutreturn_of, stateid_by, reply_after}
use Rattle.recovery.specs.declared.record.Record.{Record}
use Rattle.recovery.specs.declared.returns.Returned.{Returned}
use Rattle.ledger.specs.Ledger.{Layout, Row, Ledger, registered, row_of, holds, layout_of, is_other, age_in, raised_layout, layout_bytes, is_older, is_newer, intent_rules, stateid_rules, body_rules, report_rules, return_rules, row_totals, totals_in, refusal, reply, judge_request, judge, is_fault, is_stranger, blame, with_mark, with_blame, reported, errors_of, on_row, apply, feed}
use Rattle.ledger.specs.History.{Step, return_step, step}
use Rattle.ledger.proofs.Relation.{Matches, RecordAgrees}
use Rattle.ledger.proofs.Reported.{assessed_file, nothing-changed, whole-report, malformed-report}
use Rattle.ledger.proofs.OneFile.{file-reported}
use Rattle.ledger.proofs.Stated.{barred, return-stops, bar-none, returned_file, nothing-raised, rises, file-returned}
use Rattle.ledger.proofs.Calls.{refused-any, on-file}
use Rattle.ledger.proofs.Totalled.{report-totals, return-totals, return-stateid}

-- ---- a request as steps 1 and 2 leave it
pub record Refusal (k : ℕ) : Type 0 where
  pub nonzero : k ≡ 0 → ⊥
  pub small : k < 20000

abbrev pub Read-as : Request → Type 0
Read-as (request.Refused k) = Refusal k
Read-as request.Bulk = Unit {0}
Read-as (request.File a n) = Unit {0}

pub read_as : (s : List ℕ) (q : Request) → request_of s ≡ q → Read-as q
read_as s (request.Refused k) e = record { nonzero = refused-number s e; small = refused-small s e }
read_as s request.Bulk e = tt
read_as s (request.File a n) e = tt

-- ---- steps 5 to 7, in grace
reported-number : (o : Edition) (xs : List DeviceError) (w : Row) → (reported o xs w).number ≡ w.number
reported-number o xs w = by (is_old o) (any (is_stranger w) xs) (any is_fault xs)
  where
    by : (o a b : Bool) → (cond o w (cond a (with_mark true w) (cond b (with_mark true (with_blame (blame w xs w.blamed) w)) w))).number ≡ w.number
    by true a b = refl
    by false true b = refl
    by false false true = refl
    by false false false = refl

abbrev reports_file : Record → FileNumber → Client → Report → File → FileAnswered
reports_file r n c p f = assessed_file r.head c f (report_on n c p f)

report-agrees : {r : Record} {l : Ledger} (n c : ℕ) (p : Report) → is_old l.edition ≡ false → Matches r l → RecordAgrees (on_place n (reports_file r n c p) r) l (on_row l n (reported l.edition (errors_of p))) (refused (report_rules l n c p))
report-agrees {r} n c Malformed q m = refused-any n (reports_file r n c Malformed) 10036 refl (λ f. rw (malformed-report n c f) (nothing-changed r.head c 10036 f)) m
report-agrees {r} {l} n c (Whole xs ys) q m = on-file n (reports_file r n c (Whole xs ys)) (reported l.edition xs) (λ w. refused (intent_rules c w)) (reported-number l.edition xs)
    (λ f w i k. rw (whole-report n c xs ys f, i, q) (file-reported r.head c xs ys k))
    (λ f i. rw (whole-report n c xs ys f, i) (nothing-changed r.head c 70 f)) m

-- ---- steps 4 to 7 of an ordinary return, out of grace
abbrev returns_file : Record → FileNumber → Client → Stateid → Report → File → FileAnswered
returns_file r n c t p f = returned_file r.head c f (return_on n r.head c t p f)

ordinary-agrees : {r : Record} {l : Ledger} (n c : ℕ) (t : Stateid) (p : Report) → l.grace ≡ false → Matches r l
    → RecordAgrees (on_place n (returns_file r n c t p) r) l (on_row l n (λ w. rises c (reported l.edition (errors_of p) w))) (refused (return_rules l n c t p))
ordinary-agrees {r} {l} n c t p q m = on-file n (returns_file r n c t p) (λ w. rises c (reported l.edition (errors_of p) w)) (λ w. refused (stateid_rules c t w ++ body_rules p)) (reported-number l.edition (errors_of p))
    (λ f w i k. rw q (file-returned r.head c l.edition m.old (rw q at k) n t p i))
    (λ f i. rw (return-stops n c t r.head p f 70 (bar-none n c t f i) refl) (nothing-raised r.head c 70 f refl)) m

-- the numbers of all refusals are below 20000
body-low : (p : Report) → refused (body_rules p) < 20000
body-low Malformed = omega arith
body-low (Whole xs ys) = omega arith

rules-low : (l : Ledger) (n c : ℕ) (p : Report) → refused (report_rules l n c p) < 20000
rules-low l n c Malformed = omega arith
rules-low l n c (Whole xs ys) = cond_below (not (registered n l)) 20000 70 (cond (not (holds c (row_of n l))) 10034 0) (omega arith) (cond_below (not (holds c (row_of n l))) 20000 10034 0 (omega arith) (omega arith))

barred-low : (t : Stateid) (y : Layout) (k : ℕ) → k < 20000 → barred t y k < 20000
barred-low t y k h =
    cond_below (not (is_other t y)) 20000 10025 _ (omega arith)
    (cond_below (is_newer (age_in t y)) 20000 10025 _ (omega arith) (cond_below (is_older (age_in t y)) 20000 10024 k (omega arith) h))

return-low : (l : Ledger) (n c : ℕ) (t : Stateid) (p : Report) → refused (return_rules l n c t p) < 20000
return-low l n c t p = cond_below (not (registered n l)) 20000 70 (barred t (layout_of c (row_of n l)) (refused (body_rules p))) (omega arith) (barred-low t (layout_of c (row_of n l)) (refused (body_rules p)) (body-low p))

-- ---- a step: what a LAYOUTRETURN of the history is answered, and the record that it leaves
pub record StepIs (s : Step) (l : Ledger) (x : Call) (t : Answer) : Type 0 where
  pub answer : s.answer ≡ t
  pub after : Matches s.after (feed l x t)

-- a status below 20000 is no "handed on"
not-handed : (t : ℕ) → t < 20000 → eqb t handed_on_code ≡ false
not-handed t h = ne_eqb t handed_on_code (λ e. omega arith)

-- a refusal's reply has no stateid
refused-reply : (k : ℕ) (o p d : Bytes) → eqb k 0 ≡ false → reply_in_with k o d ≡ reply_in_with k p d
unfolding reply_in_with reply_with
refused-reply k o p d e = rw e

-- t is the reply's stateid
abbrev returns : Returned → Stateid → Bytes → Step
returns a t d = return_step a (reply_by a.status t d)

module _ {r : Record} {l : Ledger} (m : Matches r l) (n c : ℕ) (s d : List ℕ) where
  abbrev this : Call
  this = layout_return n c s d

  abbrev report : Report
  report = report_of (body_of s)

  -- a refusal leaves the record as it was
  refuses : (k : ℕ) → k < 20000 → (k ≡ 0 → ⊥) → {t : Answer} → t ≡ refusal k d → StepIs (returns (returning k no_totals r) no_stateid d) l this t
  unfolding feed
  refuses k low z e = rw e (record { answer = rw (not-handed k low, none-bytes); after = rw (ne_eqb k 0 z) m })

  hands_on : StepIs (returns (returning handed_on_code no_totals r) no_stateid d) l this (handed_on no_totals d)
  unfolding feed
  hands_on = record { answer = refl; after = m }

  -- a body that is read, by the status of the report, its totals and the reply's stateid
  reads-by : (k t : ℕ) (us ts : Totals) (r' : Record) (u : Stateid) (o : Bytes) → k ≡ t → t < 20000 → us ≡ cond (eqb t 0) ts no_totals → reply_in_with t (stateid_bytes u) d ≡ reply_in_with t o d
      → Matches r' (cond (eqb t 0) (apply l this) l) → StepIs (returns (returning k us r') u d) l this (reply t ts o d)
  unfolding feed
  reads-by k t us ts r' u o e low q b h = record { answer = rw (e, q, not-handed t low, b); after = h }

  reads : (k : ℕ) → request_of s ≡ request.File kind.Anonymous k → is_old l.edition ≡ false → StepIs (returns (reported_of n c s r) no_stateid d) l this (reply (refused (report_rules l n c report)) (row_totals report (row_of n l)) (zeros 16) d)
  unfolding reported_of apply
  reads k e q =
      let z = report-agrees n c report q m in
      reads-by _ (refused (report_rules l n c report)) _ _ _ no_stateid (zeros 16) z.same (rules-low l n c report) (report-totals m n c report) (rw none-bytes) (rw e z.kept)

  -- the reply of an ordinary return: t is its status
  reply-bytes : (t : ℕ) → refused (return_rules l n c (stateid_in s) report) ≡ t
      → reply_in_with t (stateid_bytes (raised_on c (file_at n r) t)) d ≡ reply_in_with t (layout_bytes (raised_layout (layout_of c (row_of n l)))) d
  reply-bytes t e = by (eqb t 0) refl
    where
      by : (b : Bool) → eqb t 0 ≡ b → reply_in_with t (stateid_bytes (cond b (raised_stateid (held_on c (file_at n r))) no_stateid)) d ≡ reply_in_with t (layout_bytes (raised_layout (layout_of c (row_of n l)))) d
      by true z = ap (λ o. reply_in_with t o d) (return-stateid m n c (stateid_in s) report (e ∙ eqb-true t 0 z))
      by false z = refused-reply t _ _ d z

  ordinary-reads : (k : ℕ) → request_of s ≡ request.File kind.Ordinary k → l.grace ≡ false
      → StepIs (returns (ordinary_of n c s r) (return_file n c s r (file_at n r)).stateid d) l this
      (reply (refused (return_rules l n c (stateid_in s) report)) (totals_in l.edition report (row_of n l)) (layout_bytes (raised_layout (layout_of c (row_of n l)))) d)
  unfolding ordinary_of apply
  ordinary-reads k e q =
      let z = ordinary-agrees n c (stateid_in s) report q m in
      let t = refused (return_rules l n c (stateid_in s) report) in
      reads-by _ t _ _ _ _ _ z.same (return-low l n c (stateid_in s) report) (return-totals m n c (stateid_in s) report)
      (ap (λ k. reply_in_with t (stateid_bytes (raised_on c (file_at n r) k)) d) z.same ∙ reply-bytes t refl) (rw e z.kept)

  -- ---- step 4
  abbrev answers_by : Decision → Step
  answers_by x = returns (returned_by n c s r x) (stateid_by n c s r x) d

  abbrev phase : Kind → ℕ → Bool → Bool → Step
  phase a k o g = answers_by (phase_of a (record { waiting = r.head.waiting; offered = r.head.offered; grace = g; old = o }) k)

  bypass : (k : ℕ) (o g : Bool) → StepIs (phase kind.Bypass k o g) l this (first_of (g ⇒ refusal 10013 d ∷ []) (refusal 10025 d))
  bypass k o true = refuses 10013 (omega arith) (λ e. omega arith) refl
  bypass k o false = refuses 10025 (omega arith) (λ e. omega arith) refl

  current : (k : ℕ) (o g : Bool) → StepIs (phase kind.Current k o g) l this (first_of (g ⇒ refusal 10013 d ∷ []) (handed_on no_totals d))
  current k o true = refuses 10013 (omega arith) (λ e. omega arith) refl
  current k o false = hands_on

  ordinary : (k : ℕ) (o g : Bool) → request_of s ≡ request.File kind.Ordinary k → l.grace ≡ g
      → StepIs (phase kind.Ordinary k o g) l this
      (first_of (g ⇒ refusal 10013 d ∷ []) (reply (refused (return_rules l n c (stateid_in s) report)) (totals_in l.edition report (row_of n l)) (layout_bytes (raised_layout (layout_of c (row_of n l)))) d))
  ordinary k o true q e = refuses 10013 (omega arith) (λ e. omega arith) refl
  ordinary k o false q e = ordinary-reads k q e

  anonymous : (k : ℕ) (o g : Bool) → request_of s ≡ request.File kind.Anonymous k → is_old l.edition ≡ o
      → StepIs (phase kind.Anonymous k o g) l this (reply (refused (o ⇒ 10025 ∷ not g ⇒ 10033 ∷ report_rules l n c report)) (row_totals report (row_of n l)) (zeros 16) d)
  anonymous k true g q e = refuses 10025 (omega arith) (λ z. omega arith) refl
  anonymous k false false q e = refuses 10033 (omega arith) (λ z. omega arith) refl
  anonymous k false true q e = reads k q e

  in-phase : (a : Kind) (k : ℕ) {t : Answer} → StepIs (phase a k (is_old l.edition) l.grace) l this t → StepIs (phase a k r.head.old r.head.grace) l this t
  in-phase a k {t} h =
      subst (λ (o : Bool). StepIs (phase a k o r.head.grace) l this t) (sym m.old)
      (subst (λ (g : Bool). StepIs (phase a k (is_old l.edition) g) l this t) (sym m.grace) h)

  -- ---- steps 1 to 7
  judged : (q : Request) → request_of s ≡ q → Read-as q → StepIs (answers_by (decided r.head q)) l this (judge_request l n c s d q)
  judged (request.Refused k) e h = refuses k h.small h.nonzero refl
  judged request.Bulk e h = hands_on
  judged (request.File kind.Anonymous k) e h = in-phase kind.Anonymous k (anonymous k (is_old l.edition) l.grace e refl)
  judged (request.File kind.Bypass k) e h = in-phase kind.Bypass k (bypass k (is_old l.edition) l.grace)
  judged (request.File kind.Invalid k) e h = in-phase kind.Invalid k (bypass k (is_old l.edition) l.grace)
  judged (request.File kind.Current k) e h = in-phase kind.Current k (current k (is_old l.edition) l.grace)
  judged (request.File kind.Ordinary k) e h = in-phase kind.Ordinary k (ordinary k (is_old l.edition) l.grace e refl)

  -- a short reply buffer stays as it is
  short : ltb (length d) 24 ≡ true → StepIs (returns (returning 28 no_totals r) no_stateid d) l this (replied 28 no_totals d)
  unfolding feed reply_in_with
  short e = record { answer = rw e; after = m }

  pub return-agrees : StepIs (step r this) l this (judge l this)
  unfolding step judge layoutreturn_of reply_after decision_of
  return-agrees = by (ltb (length d) 24) refl
    where
      by : (b : Bool) → ltb (length d) 24 ≡ b
          → StepIs (answers_by (cond b (Answered 28) (decided r.head (request_of s)))) l this (cond b (replied 28 no_totals d) (judge_request l n c s d (request_of s)))
      by true e = short e
      by false e = judged (request_of s) refl (read_as s (request_of s) refl)
