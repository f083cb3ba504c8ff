-- What the C call makes of a file, told the claim x, is the outcome of that claim. In this order: where the claim bars; by the two halves of a walk, of which e is what the device errors change and
-- tail the statistics records; the status of both; and no totals.
use Rattle.std.proofs.Common.{◌≡◌, Bool, true, false, cond, not, eqb, List, Result, Ok, Err, sym, refl, ap, ◌∙◌}
use Rattle.std.specs.Result.{result_and}
use Rattle.statuses.specs.Names.{Client}
use Rattle.statuses.specs.Names as names
use Rattle.statuses.specs.Numbers.{number, code}
use Rattle.statuses.specs.declared.Status.{Status}
use Rattle.masks.specs.Mask.{set_of}
use Rattle.reports.specs.Report.{Report}
use Rattle.mirroring.specs.Blame.{status_only, assessment_of, tallied_of, settled_of}
use Rattle.mirroring.specs.Totals.{no_totals}
use Rattle.mirroring.specs.declared.blame.Assessment.{Assessment}
use Rattle.mirroring.specs.declared.blame.Change.{Change}
use Rattle.mirroring.specs.declared.mirrors.Mirror.{Mirror}
use Rattle.files.specs.File.{marks_file, blames_places}
use Rattle.files.specs.declared.file.File.{File}
use Rattle.files.specs.declared.head.Head.{Head}
use Rattle.layoutreturn.specs.LayoutReturn.{outcome_on}
use Rattle.layoutreturn.specs.OneWalk.{raised_if, Claim}
use Rattle.layoutreturn.specs.Settled.{refused_as, accepted_as, without_totals, counts_if, is_silent, later_of, silenced, taken_as, assessed_as, raised_as, claimed_outcome}
use Rattle.layoutreturn.specs.declared.Outcome.{Outcome}
use Rattle.layoutreturn.proofs.Refusals.{refusal}
use Rattle.layoutreturn.proofs.Settling.{refused-so, accepted-so, form-so, taken-so, totals-so}

module _ (h : Head) (c : Client) (x : Claim) (p : Report) (f : File) where
  abbrev b : Bool
  b = not h.grace

  abbrev silent : Bool
  silent = is_silent h b

  -- the outcome by what was assessed
  abbrev out : Assessment → Outcome
  out a = outcome_on h c (raised_if x.own a.status b) f a

  by-assessment : claimed_outcome h c x p f ≡ out (assessed_as h x p f b)
  unfolding claimed_outcome
  by-assessment = refl

  -- ---- where the claim bars
  bars : eqb x.barred 0 ≡ false → assessed_as h x p f b ≡ status_only x.barred
  unfolding assessed_as
  bars e = rw (e)

  pub barred-so : eqb x.barred 0 ≡ false → refused_as x.barred h c ≡ without_totals (claimed_outcome h c x p f)
  barred-so e = refused-so h c x.barred x.own f b e ∙ ap (λ (a : Assessment). without_totals (out a)) (sym (bars e)) ∙ ap without_totals (sym by-assessment)

  pub barred-totals : eqb x.barred 0 ≡ false → no_totals ≡ (claimed_outcome h c x p f).totals
  barred-totals e = ap (λ (a : Assessment). a.totals) (sym (bars e)) ∙ ap (λ (o : Outcome). o.totals) (sym by-assessment)

  -- ---- by the two halves of a walk
  module _ (e : Change) (tail : Report) (passes : eqb x.barred 0 ≡ true) (told : settled_of f.mirrors e tail ≡ assessment_of f.mirrors p) where
    abbrev ms : List Mirror
    ms = f.mirrors

    abbrev counts : Bool
    counts = counts_if e.unknown x.late silent

    -- the status as the code has it, and as the definition has it
    abbrev status : names.Status
    status = later_of (tallied_of ms counts tail).status x.late

    abbrev defined : names.Status
    defined = later_of (settled_of ms e tail).status x.late

    same-status : status ≡ defined
    same-status = ap (λ k. later_of k x.late) (form-so ms e x.late silent counts tail)

    abbrev taken : Assessment
    taken = taken_as silent defined (settled_of ms e tail)

    is-taken : assessed_as h x p f b ≡ taken
    unfolding assessed_as
    is-taken = rw (passes) (ap (λ (a : Assessment). taken_as silent (later_of a.status x.late) a) (sym told))

    is-outcome : out taken ≡ claimed_outcome h c x p f
    is-outcome = ap out (sym is-taken) ∙ sym by-assessment

    pub settled-refused : eqb status 0 ≡ false → refused_as status h c ≡ without_totals (claimed_outcome h c x p f)
    settled-refused z =
        let z' : eqb defined 0 ≡ false = ap (λ k. eqb k 0) (sym same-status) ∙ z in
        let only : status_only defined ≡ taken = sym (ap (λ y. cond y (cond silent (status_only 0) (settled_of ms e tail)) (status_only defined)) z') in
        ap (λ k. refused_as k h c) same-status ∙ refused-so h c defined x.own f b z' ∙ ap (λ (a : Assessment). without_totals (out a)) only ∙ ap without_totals is-outcome

    pub settled-accepted : eqb status 0 ≡ true → accepted_as (marks_file (silenced silent e)) (blames_places (silenced silent e)) h c (raised_as x.own b) f ≡ without_totals (claimed_outcome h c x p f)
    settled-accepted z =
        let z' : eqb defined 0 ≡ true = ap (λ k. eqb k 0) (sym same-status) ∙ z in
        accepted-so h c x.own f b (silenced silent e) taken.totals ∙ ap (λ (a : Assessment). without_totals (out a)) (sym (taken-so ms e x.late silent tail z')) ∙ ap without_totals is-outcome

    pub settled-totals : (tallied_of ms counts tail).totals ≡ (claimed_outcome h c x p f).totals
    settled-totals = totals-so ms e x.late silent tail ∙ ap (λ (o : Outcome). o.totals) is-outcome

-- ---- the status of steps 5 and 6, by the answers of both
pub and-later : {A B : Type 0} (form : Result A Status) (late : Result B Status) → code (result_and form late) ≡ later_of (code form) (code late)
and-later (Ok u) late = refl
and-later (Err k) late = sym (ap (λ b. cond b (code late) (number k)) (refusal k))

-- ---- no totals: no sum passes
pub none_over : 0 ≡ no_totals.read.over
unfolding set_of
none_over = refl
