-- Statistics change nothing but the totals: `only-totals`. In this order: an assessment, but for the totals; what a call leaves and is answered; two requests; a
-- report without device errors.
use mathlib.Core.Path.{◌≡◌, refl, ap, ap₂, sym, ◌∙◌}
use mathlib.Core.List.{List, [], ◌∷◌, map}
use mathlib.Core.Bool.{Bool, true, false, cond}
use Prim.Native.Nat.{ℕ}
use native.Mathlib.Omega.{arith}
use lib.ListN.{length}
use lib.Seq.{set-get_or, map-set_same}
use lib.Dec.{eqb, ltb}
use Rattle.reports.specs.Statistics.{Statistic}
use Rattle.reports.specs.Report.{Report, Whole, Malformed, report_of, without_statistics, over}
use Rattle.wire.specs.Request.{Request, request_of, body_of}
use Rattle.wire.specs.Stateid.{no_stateid, stateid_in}
use Rattle.wire.specs.declared.stateid.Stateid.{Stateid}
use Rattle.wire.specs.declared.request.Kind.{Kind}
use Rattle.wire.specs.declared.request.Kind.TheVariants as kind
use Rattle.wire.specs.Request as request
use Rattle.places.specs.Places.{first, is_found}
use Rattle.places.proofs.Sets.{true-false}
use Rattle.intents.specs.Intents.{is_intent, is_stated, stated_if}
use Rattle.intents.specs.declared.Intent.{Intent}
use Rattle.mirroring.specs.Totals.{no_totals}
use Rattle.mirroring.specs.Blame.{status_only, with_totals, errors_assessed, assessment_of}
use Rattle.mirroring.specs.declared.blame.Assessment.{Assessment}
use Rattle.mirroring.specs.declared.totals.Totals.{Totals}
use Rattle.files.specs.File.{FileAnswered, no_file, is_file, with_intents, raised_file}
use Rattle.files.specs.declared.file.File.{File}
use Rattle.files.specs.declared.head.Head.{Head}
use Rattle.files.proofs.Changing.{unchanged, told-nothing}
use Rattle.layoutreturn.specs.LayoutReturn.{handed_on_code, phase_of, decided, decision_of, of_intent, if_whole, report_on, bar_on, in_edition, return_on, raised_on, outcome_on, reply_by, Decision, Answered, HandedOn, ReadBody, ReturnBody}
use Rattle.layoutreturn.specs.declared.Outcome.{Outcome}
use Rattle.recovery.specs.Calls.{layout_return, Answer, replied, handed_on}
use Rattle.recovery.specs.Record.{with_files, place_in, file_at, put_file}
use Rattle.recovery.specs.LayoutReturn.{answered_by, reported_of, ordinary_of, returned_by, layoutreturn_of, stateid_by, reply_after}
use Rattle.recovery.specs.declared.returns.Returned.{Returned}
use Rattle.recovery.specs.declared.record.Record.{Record}
use Rattle.ledger.specs.Ledger.{is_ordinary}
use Rattle.ledger.specs.History.{return_step, step}
use Rattle.ledger.specs.OnlyTotals.{kind_of, SameButStatistics, without_totals, Alike, without_stateid, without_stateids, OnlyTotals}
use Rattle.ledger.proofs.Reported.{nothing-changed}

-- ---- an assessment, but for the totals
abbrev quiet : Assessment → Assessment
quiet h = with_totals no_totals h

module _ (n c : ℕ) (d : Head) (t : Stateid) (f : File) where
  quiet-report : (a : Assessment) → quiet (if_whole a (of_intent n c f a)) ≡ quiet (if_whole (quiet a) (of_intent n c f (quiet a)))
  quiet-report a = by (eqb a.status 0) (is_file n f) (is_found (first (is_intent c) f.intents))
    where
      by : (x y z : Bool) → quiet (cond x (cond y (cond z a (status_only 10034)) (status_only 70)) a) ≡ quiet (cond x (cond y (cond z (quiet a) (status_only 10034)) (status_only 70)) (quiet a))
      by false y z = refl
      by true false z = refl
      by true true false = refl
      by true true true = refl

  quiet_return : (a : Assessment) → quiet (cond (eqb (bar_on n c t f) 0) (in_edition d a) (status_only (bar_on n c t f))) ≡ quiet (cond (eqb (bar_on n c t f) 0) (in_edition d (quiet a)) (status_only (bar_on n c t f)))
  quiet_return a = by (eqb (bar_on n c t f) 0) d.old
    where
      by : (x y : Bool) → quiet (cond x (cond y (status_only a.status) a) (status_only (bar_on n c t f))) ≡ quiet (cond x (cond y (status_only a.status) (quiet a)) (status_only (bar_on n c t f)))
      by false y = refl
      by true false = refl
      by true true = refl

  quiet-assessed : (p : Report) → quiet (assessment_of f.mirrors p) ≡ quiet (assessment_of f.mirrors (without_statistics p))
  unfolding assessment_of errors_assessed
  quiet-assessed Malformed = refl
  quiet-assessed (Whole xs ys) = refl

  module _ (p q : Report) (e : without_statistics p ≡ without_statistics q) where
    same-assessed : quiet (assessment_of f.mirrors p) ≡ quiet (assessment_of f.mirrors q)
    same-assessed = quiet-assessed p ∙ ap (λ (x : Report). quiet (assessment_of f.mirrors x)) e ∙ sym (quiet-assessed q)

    same_by : (g : Assessment → Assessment) → ((a : Assessment) → quiet (g a) ≡ quiet (g (quiet a))) → quiet (g (assessment_of f.mirrors p)) ≡ quiet (g (assessment_of f.mirrors q))
    same_by g k = k (assessment_of f.mirrors p) ∙ ap (λ (a : Assessment). quiet (g a)) same-assessed ∙ sym (k (assessment_of f.mirrors q))

    same-report : quiet (report_on n c p f) ≡ quiet (report_on n c q f)
    unfolding report_on
    same-report = same_by (λ a. if_whole a (of_intent n c f a)) quiet-report

    same-return : quiet (return_on n d c t p f) ≡ quiet (return_on n d c t q f)
    unfolding return_on
    same-return = same_by (λ a. cond (eqb (bar_on n c t f) 0) (in_edition d a) (status_only (bar_on n c t f))) quiet_return

-- ---- what a call leaves and is answered, but for the totals
stripped : (b : Bool) (k : ℕ) (ts : Totals) (d : List ℕ) → without_totals (cond b (handed_on ts d) (replied k ts d)) ≡ cond b (handed_on no_totals d) (replied k no_totals d)
stripped true k ts d = refl
stripped false k ts d = refl

module _ (r : Record) (n c : ℕ) (d : List ℕ) where
  abbrev file : File
  file = file_at n r

  -- u is the reply's stateid
  abbrev bare : Returned → Stateid → Answer
  bare a u = without_totals (return_step a (reply_by a.status u d)).answer

  -- the same of an outcome on the file, and the outcomes of a report and of an ordinary return
  abbrev leaves : Outcome → Record
  leaves o = (put_file r (place_in n r) (answered_by file o)).after

  abbrev says : Outcome → Answer
  says o = cond (eqb o.status handed_on_code) (handed_on no_totals (reply_by o.status o.stateid d)) (replied o.status no_totals (reply_by o.status o.stateid d))

  abbrev reported : Assessment → Outcome
  reported a = outcome_on r.head c no_stateid file a

  abbrev returned : Assessment → Outcome
  returned a = outcome_on r.head c (raised_on c file a.status) file a

  abbrev read : List ℕ → Assessment
  read s = report_on n c (report_of (body_of s)) file

  abbrev stated : List ℕ → Assessment
  stated s = return_on n r.head c (stateid_in s) (report_of (body_of s)) file

  says_so : (o : Outcome) → without_totals (cond (eqb o.status handed_on_code) (handed_on o.totals (reply_by o.status o.stateid d)) (replied o.status o.totals (reply_by o.status o.stateid d))) ≡ says o
  says_so o = stripped (eqb o.status handed_on_code) o.status o.totals (reply_by o.status o.stateid d)

  -- ---- two requests
  module _ (s t : List ℕ) (e : SameButStatistics s t) where
    record Same (x y : Decision) : Type 0 where
      after : (returned_by n c s r x).after ≡ (returned_by n c t r y).after
      answer : bare (returned_by n c s r x) (stateid_by n c s r x) ≡ bare (returned_by n c t r y) (stateid_by n c t r y)

    either : {x y x' y' : Decision} (b : Bool) → Same x x' → Same y y' → Same (cond b x y) (cond b x' y')
    either true h k = h
    either false h k = k

    answers : (k : ℕ) → Same (Answered k) (Answered k)
    answers k = record { after = refl; answer = refl }

    reads : (j k : ℕ) → Same (ReadBody j) (ReadBody k)
    unfolding reported_of
    reads j k =
        let q : quiet (read s) ≡ quiet (read t) = same-report n c r.head no_stateid file (report_of (body_of s)) (report_of (body_of t)) e.errors in
        record {
          after = ap (λ a. leaves (reported a)) q;
          answer = says_so (reported (read s)) ∙ ap (λ a. says (reported a)) q ∙ sym (says_so (reported (read t)));
        }

    states : (j k : ℕ) → Same (ReturnBody j) (ReturnBody k)
    unfolding ordinary_of
    states j k =
        let u : quiet (stated s) ≡ quiet (return_on n r.head c (stateid_in s) (report_of (body_of t)) file) = same-return n c r.head (stateid_in s) file (report_of (body_of s)) (report_of (body_of t)) e.errors in
        let q : quiet (stated s) ≡ quiet (stated t) = u ∙ ap (λ (z : Stateid). quiet (return_on n r.head c z (report_of (body_of t)) file)) e.stateid in
        record {
          after = ap (λ a. leaves (returned a)) q;
          answer = says_so (returned (stated s)) ∙ ap (λ a. says (returned a)) q ∙ sym (says_so (returned (stated t)));
        }

    -- what is decided is the same whatever the body's length
    phase-same : (j k : ℕ) (a : Kind) → Same (phase_of a r.head j) (phase_of a r.head k)
    phase-same j k kind.Anonymous = either r.head.old (answers 10025) (either r.head.grace (reads j k) (answers 10033))
    phase-same j k kind.Bypass = either r.head.grace (answers 10013) (answers 10025)
    phase-same j k kind.Invalid = either r.head.grace (answers 10013) (answers 10025)
    phase-same j k kind.Current = either r.head.grace (answers 10013) (record { after = refl; answer = refl })
    phase-same j k kind.Ordinary = either r.head.grace (answers 10013) (states j k)

    decided-same : (p q : Request) → kind_of p ≡ kind_of q → Same (decided r.head p) (decided r.head q)
    decided-same (request.Refused j) (request.Refused k) x = let z : j ≡ k = cc in rw z (answers k)
    decided-same (request.Refused j) request.Bulk x = let z : ◌≡◌ {A = ℕ} 0 1 = cc in absurd (omega arith)
    decided-same (request.Refused j) (request.File b k) x = let z : ◌≡◌ {A = ℕ} 0 1 = cc in absurd (omega arith)
    decided-same request.Bulk (request.Refused k) x = let z : ◌≡◌ {A = ℕ} 0 1 = cc in absurd (omega arith)
    decided-same request.Bulk request.Bulk x = record { after = refl; answer = refl }
    decided-same request.Bulk (request.File b k) x = let z : ◌≡◌ {A = ℕ} 0 1 = cc in absurd (omega arith)
    decided-same (request.File a j) (request.Refused k) x = let z : ◌≡◌ {A = ℕ} 0 1 = cc in absurd (omega arith)
    decided-same (request.File a j) request.Bulk x = let z : ◌≡◌ {A = ℕ} 0 1 = cc in absurd (omega arith)
    decided-same (request.File a j) (request.File b k) x = let z : a ≡ b = cc in rw z (phase-same j k b)

    pub both-alike : Alike r (layout_return n c s d) (layout_return n c t d)
    unfolding step layoutreturn_of reply_after decision_of
    both-alike = let z = either (ltb (length d) 24) (answers 28) (decided-same (request_of s) (request_of t) e.kind) in record { after = z.after; answer = z.answer }

  -- ---- a report without device errors: it leaves the record, but for the stateid that rises
  nothing_left : (k : ℕ) → leaves (reported (status_only k)) ≡ r
  nothing_left k = ap (λ (a : FileAnswered). (put_file r (place_in n r) a).after) (nothing-changed r.head c k file) ∙ ap (λ fs. with_files fs r) (set-get_or r.files (place_in n r) no_file)

  bare-intents : (u : Stateid) (xs : List Intent) → map without_stateid (map (stated_if c u) xs) ≡ map without_stateid xs
  bare-intents u [] = refl
  bare-intents u (x ∷ xs) = rw (bare-intents u xs)

  abbrev bare_file : File → File
  bare_file f = with_intents (map without_stateid f.intents) f

  raised-bare : (u : Stateid) (f : File) → bare_file (raised_file c u f) ≡ bare_file f
  unfolding raised_file
  raised-bare u f = by (is_stated u)
    where
      by : (b : Bool) → bare_file (cond b (with_intents (map (stated_if c u) f.intents) f) f) ≡ bare_file f
      by true = ap (λ xs. with_intents xs f) (bare-intents u f.intents)
      by false = refl

  raise-left : (k : ℕ) → without_stateids (leaves (returned (status_only k))) ≡ without_stateids r
  raise-left k =
      let u = raised_on c file k in
      ap₂ {C = Record} (λ fs h. record { files = fs; head = h })
      (map-set_same bare_file r.files (place_in n r) _ no_file (ap (λ (f : File). bare_file (raised_file c u f)) (unchanged file) ∙ raised-bare u file)) (told-nothing file r.head)

  module _ (s : List ℕ) (ys : List Statistic) (e : report_of (body_of s) ≡ Whole [] ys) where
    nothing_said : leaves (reported (read s)) ≡ r
    unfolding report_on assessment_of errors_assessed over
    nothing_said = rw e (by (is_file n file) (is_found (first (is_intent c) file.intents)))
      where
        by : (x y : Bool) → leaves (reported (cond x (cond y (assessment_of file.mirrors (Whole [] ys)) (status_only 10034)) (status_only 70))) ≡ r
        by true true = nothing_left 0
        by true false = nothing_left 10034
        by false y = nothing_left 70

    raise-alone : without_stateids (leaves (returned (stated s))) ≡ without_stateids r
    unfolding return_on assessment_of errors_assessed over
    raise-alone = rw e (by (eqb (bar_on n c (stateid_in s) file) 0) r.head.old)
      where
        by : (x y : Bool) → without_stateids (leaves (returned (cond x (cond y (status_only (assessment_of file.mirrors (Whole [] ys)).status) (assessment_of file.mirrors (Whole [] ys))) (status_only (bar_on n c (stateid_in s) file))))) ≡ without_stateids r
        by true true = raise-left 0
        by true false = raise-left 0
        by false y = raise-left (bar_on n c (stateid_in s) file)

    silent-by : (x : Decision) → without_stateids (returned_by n c s r x).after ≡ without_stateids r
    unfolding reported_of ordinary_of
    silent-by (Answered k) = refl
    silent-by HandedOn = refl
    silent-by (ReadBody len) = ap without_stateids nothing_said
    silent-by (ReturnBody len) = raise-alone

    pub silent-is : without_stateids (step r (layout_return n c s d)).after ≡ without_stateids r
    unfolding step layoutreturn_of
    silent-is = silent-by (decision_of r.head s (length d))

    -- any other return leaves the whole record
    record Left (x : Decision) : Type 0 where
      left : (returned_by n c s r x).after ≡ r

    one_of : {x y : Decision} (b : Bool) → Left x → Left y → Left (cond b x y)
    one_of true h k = h
    one_of false h k = k

    answering : (k : ℕ) → Left (Answered k)
    answering k = record { left = refl }

    reading : (len : ℕ) → Left (ReadBody len)
    unfolding reported_of
    reading len = record { left = nothing_said }

    unraised-by : (q : Request) → is_ordinary q ≡ false → Left (decided r.head q)
    unraised-by (request.Refused k) o = answering k
    unraised-by request.Bulk o = record { left = refl }
    unraised-by (request.File kind.Anonymous len) o = one_of r.head.old (answering 10025) (one_of r.head.grace (reading len) (answering 10033))
    unraised-by (request.File kind.Bypass len) o = one_of r.head.grace (answering 10013) (answering 10025)
    unraised-by (request.File kind.Invalid len) o = one_of r.head.grace (answering 10013) (answering 10025)
    unraised-by (request.File kind.Current len) o = one_of r.head.grace (answering 10013) (record { left = refl })
    unraised-by (request.File kind.Ordinary len) o = true-false o

    pub unraised-is : is_ordinary (request_of s) ≡ false → (step r (layout_return n c s d)).after ≡ r
    unfolding step layoutreturn_of decision_of
    unraised-is o = (one_of (ltb (length d) 24) (answering 28) (unraised-by (request_of s) o)).left

pub only-totals : (r : Record) (n c : ℕ) (s d : List ℕ) → OnlyTotals r n c s d
only-totals r n c s d = record { alike = λ t e. both-alike r n c d s t e; silent = λ ys e. silent-is r n c d s ys e; unraised = λ ys e o. unraised-is r n c d s ys e o }
