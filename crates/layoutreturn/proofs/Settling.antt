-- What C is answered, and the totals that it is handed apart, are of the outcome that is defined. In this order: a refusal, and a return that is accepted; steps 5 to 7 of the client's own
-- claim; the status, the change and the totals by the two halves of a walk; the file afterwards.
use mathlib.Core.Path.{◌≡◌, refl, sym, ap, ◌∙◌}
use mathlib.Core.Bool.{Bool, true, false, not, cond, ◌&&◌}
use mathlib.Core.List.{List, []}
use Prim.Native.Nat.{ℕ}
use lib.Dec.{eqb}
use Rattle.statuses.specs.Names.{Bytes, Status, Client, FileNumber}
use Rattle.reports.specs.Report.{DeviceError, Report, Whole, Malformed, report_of}
use Rattle.reports.specs.Statistics.{Statistic}
use Rattle.wire.specs.Request.{part_of}
use Rattle.wire.specs.Stateid.{no_stateid, stateid_in, raised_stateid}
use Rattle.wire.specs.declared.stateid.Stateid.{Stateid}
use Rattle.places.proofs.Sets.{true-false}
use Rattle.mirroring.specs.Blame.{status_only, errors_assessed, assessment_of, tallied_of, settled_of}
use Rattle.mirroring.specs.Totals.{no_totals}
use Rattle.mirroring.specs.TotalsSteps.{mirror_totals}
use Rattle.mirroring.specs.declared.blame.Assessment.{Assessment}
use Rattle.mirroring.specs.declared.blame.Change.{Change}
use Rattle.mirroring.specs.declared.mirrors.Mirror.{Mirror}
use Rattle.mirroring.specs.declared.totals.Totals.{Totals}
use Rattle.mirroring.proofs.Assessing.{status-kept}
use Rattle.files.specs.File.{is_file, raised_file, marks_file, blames_places}
use Rattle.files.specs.declared.file.File.{File}
use Rattle.files.specs.declared.head.Head.{Head}
use Rattle.files.proofs.Changing.{told-nothing, by-fields}
use Rattle.files.proofs.Counting.{told-change}
use Rattle.layoutreturn.specs.LayoutReturn.{if_whole, by_stateid, held_on, outcome_on, outcome_by, file_after, ReadBody, ReturnBody}
use Rattle.layoutreturn.specs.OneWalk.{anonymous_claim, ordinary_claim, claim_by, assessed_by, raised_if, Claim}
use Rattle.layoutreturn.specs.Settled.{refused_as, accepted_as, without_totals, counts_if, later_of, silenced, taken_as, assessed_as, raised_as, claimed_outcome, settled_file}
use Rattle.layoutreturn.specs.declared.Outcome.{Outcome}
use Rattle.layoutreturn.proofs.OneWalk.{outcome_assessed}

-- ---- a refusal, and a return that is accepted, by the status of what was assessed
unraised : (u : Stateid) (z b : Bool) → z ≡ false → cond b (cond z (raised_stateid u) no_stateid) no_stateid ≡ no_stateid
unraised u z true e = ap (λ y. cond y (raised_stateid u) no_stateid) e
unraised u z false e = refl

pub refused-so : (h : Head) (c : Client) (k : Status) (u : Stateid) (f : File) (b : Bool) → eqb k 0 ≡ false → refused_as k h c ≡ without_totals (outcome_on h c (raised_if u k b) f (status_only k))
refused-so h c k u f b e = λ j. record { status = k; head = sym (told-nothing f h) j; marks = false; blamed = 0; client = c; stateid = sym (unraised u (eqb k 0) b e) j }

pub accepted-so : (h : Head) (c : Client) (u : Stateid) (f : File) (b : Bool) (x : Change) (t : Totals)
    → accepted_as (marks_file x) (blames_places x) h c (raised_as u b) f ≡ without_totals (outcome_on h c (raised_if u 0 b) f (record { status = 0; change = x; totals = t }))
accepted-so h c u f b x t = λ j. record { status = 0; head = told-change x f h j; marks = marks_file x; blamed = blames_places x; client = c; stateid = raised_as u b }

-- ---- steps 5 to 7 of the client's own claim: an ordinary return is never late, and a report that is malformed says nothing but its status
whole-so : (ms : List Mirror) (xs : List DeviceError) (ys : List Statistic) → (assessment_of ms (Whole xs ys)).status ≡ 0
unfolding assessment_of errors_assessed
whole-so ms xs ys = status-kept ms xs (status_only 0)

malformed-so : (ms : List Mirror) → assessment_of ms Malformed ≡ status_only 10036
unfolding assessment_of errors_assessed mirror_totals
malformed-so ms = refl

ordinary-taken : (a : Assessment) (old : Bool) → a.status ≡ 0 → taken_as old (later_of a.status 0) a ≡ cond old (status_only a.status) a
ordinary-taken a true e = rw (e)
ordinary-taken a false e = rw (e)

anonymous-taken : (a : Assessment) (late : Status) → a.status ≡ 0 → taken_as false (later_of a.status late) a ≡ if_whole a (cond (eqb late 0) a (status_only late))
anonymous-taken a late e = rw (e)

module _ (h : Head) (f : File) where
  ordinary : (x : Claim) (p : Report) → x.late ≡ 0 → assessed_as h x p f true ≡ assessed_by h x p f true
  unfolding assessed_as assessed_by
  ordinary x (Whole xs ys) e = rw (e) (ap (λ a. cond (eqb x.barred 0) a (status_only x.barred)) (ordinary-taken (assessment_of f.mirrors (Whole xs ys)) h.old (whole-so f.mirrors xs ys)))
  ordinary x Malformed e = rw (e, malformed-so f.mirrors) (ap (λ a. cond (eqb x.barred 0) a (status_only x.barred)) (by h.old))
    where
      by : (old : Bool) → taken_as old 10036 (status_only 10036) ≡ cond old (status_only 10036) (status_only 10036)
      by true = refl
      by false = refl

  anonymous : (x : Claim) (p : Report) → assessed_as h x p f false ≡ assessed_by h x p f false
  unfolding assessed_as assessed_by
  anonymous x (Whole xs ys) = ap (λ a. cond (eqb x.barred 0) a (status_only x.barred)) (anonymous-taken (assessment_of f.mirrors (Whole xs ys)) x.late (whole-so f.mirrors xs ys))
  anonymous x Malformed = rw (malformed-so f.mirrors)

  as-claimed : (n : FileNumber) (c : Client) (s : Bytes) (p : Report) (b : Bool) → assessed_as h (claim_by n c s f b) p f b ≡ assessed_by h (claim_by n c s f b) p f b
  as-claimed n c s p true = ordinary (ordinary_claim n c s f) p (by (is_file n f))
    where
      by : (z : Bool) → (cond {A = Claim} z (record { barred = by_stateid (stateid_in s) (held_on c f); late = 0; own = held_on c f }) (record { barred = 70; late = 0; own = no_stateid })).late ≡ 0
      by true = refl
      by false = refl
  as-claimed n c s p false = anonymous (anonymous_claim n c f) p

pub claimed-so : (n : FileNumber) (h : Head) (c : Client) (s : Bytes) (f : File) (len : ℕ)
    → claimed_outcome h c (claim_by n c s f (not h.grace)) (report_of (part_of len s)) f ≡ outcome_by n h c s f (cond h.grace (ReadBody len) (ReturnBody len))
unfolding claimed_outcome
claimed-so n h c s f len = by h.grace
  where
    p : Report
    p = report_of (part_of len s)

    with_it : Bool → Assessment → Outcome
    with_it b a = outcome_on h c (raised_if (claim_by n c s f b).own a.status b) f a

    by : (g : Bool) → with_it (not g) (assessed_as h (claim_by n c s f (not g)) p f (not g)) ≡ outcome_by n h c s f (cond g (ReadBody len) (ReturnBody len))
    by true = ap (with_it false) (as-claimed h f n c s p false) ∙ outcome_assessed n h c s f (ReadBody len) refl
    by false = ap (with_it true) (as-claimed h f n c s p true) ∙ outcome_assessed n h c s f (ReturnBody len) refl

-- ---- by the two halves of a walk: x is what the device errors change, p the statistics records
module _ (ms : List Mirror) (x : Change) (late : Status) (silent : Bool) where
  pub form-so : (b : Bool) (p : Report) → (tallied_of ms b p).status ≡ (settled_of ms x p).status
  unfolding tallied_of settled_of
  form-so b (Whole xs ys) = refl
  form-so b Malformed = refl

  abbrev status : Report → Status
  status p = later_of (settled_of ms x p).status late

  abbrev taken : Report → Assessment
  taken p = taken_as silent (status p) (settled_of ms x p)

  -- where nothing is refused the change is taken
  pub taken-so : (p : Report) → eqb (status p) 0 ≡ true → taken p ≡ record { status = 0; change = silenced silent x; totals = (taken p).totals }
  unfolding settled_of
  taken-so (Whole xs ys) e = by (eqb late 0) silent e
    where
      by : (z s : Bool) → z ≡ true
          → cond z (cond s (status_only 0) (settled_of ms x (Whole xs ys))) (status_only late)
          ≡ record { status = 0; change = silenced s x; totals = (cond z (cond s (status_only 0) (settled_of ms x (Whole xs ys))) (status_only late)).totals }
      by true true q = refl
      by true false q = refl
      by false s q = true-false (sym q)
  taken-so Malformed e = true-false (sym e)

  pub totals-so : (p : Report) → (tallied_of ms (counts_if x.unknown late silent) p).totals ≡ (taken p).totals
  unfolding tallied_of settled_of
  totals-so (Whole xs ys) = by x.unknown (eqb late 0) silent
    where
      sums : Totals
      sums = mirror_totals ms (Whole [] ys)

      by : (u z s : Bool) → cond (not u && (z && not s)) sums no_totals ≡ (cond z (cond s (status_only 0) (record { status = 0; change = x; totals = cond u no_totals sums })) (status_only late)).totals
      by true true true = refl
      by true true false = refl
      by true false s = refl
      by false true true = refl
      by false true false = refl
      by false false s = refl
  totals-so Malformed = refl

-- ---- the file afterwards
pub file-so : (f : File) (o : Outcome) → settled_file f (without_totals o) ≡ file_after f o
file-so f o = ap (raised_file o.client o.stateid) (by-fields o.change f)
