-- A return that is refused leaves the file as it is: it changes nothing, and no stateid is raised. In this order: what a report says; either kind of return; the outcome.
use mathlib.Core.Path.{◌≡◌, refl, sym, ap, ◌∙◌}
use mathlib.Core.Bool.{Bool, true, false, cond}
use mathlib.Core.List.{List}
use lib.Dec.{eqb}
use Rattle.statuses.specs.Names.{Bytes, Status, Client, FileNumber}
use Rattle.reports.specs.Report.{Report, Whole, Malformed, report_of}
use Rattle.wire.specs.Request.{part_of}
use Rattle.wire.specs.Stateid.{no_stateid, stateid_in, raised_stateid}
use Rattle.wire.specs.declared.stateid.Stateid.{Stateid}
use Rattle.places.specs.Places.{first, is_found}
use Rattle.places.proofs.Sets.{true-false}
use Rattle.mirroring.specs.Blame.{no_change, status_only, errors_assessed, assessment_of}
use Rattle.mirroring.specs.declared.blame.Assessment.{Assessment}
use Rattle.mirroring.specs.declared.blame.Change.{Change}
use Rattle.mirroring.specs.declared.mirrors.Mirror.{Mirror}
use Rattle.mirroring.proofs.Assessing.{status-kept}
use Rattle.intents.specs.Intents.{is_intent}
use Rattle.files.specs.File.{is_file, changed_file, raised_file}
use Rattle.files.specs.declared.file.File.{File}
use Rattle.files.specs.declared.head.Head.{Head}
use Rattle.files.proofs.Changing.{unchanged, unraised}
use Rattle.layoutreturn.specs.LayoutReturn.{bar_on, report_on, return_on, held_on, outcome_by, file_after, Decision, Answered, HandedOn, ReadBody, ReturnBody}

-- ---- a report
record Leaves (a : Assessment) : Type 0 where
  none : eqb a.status 0 ≡ false → a.change ≡ no_change

only : (k : Status) → Leaves (status_only k)
only k = record { none = λ e. refl }

either : (b : Bool) {x y : Assessment} → Leaves x → Leaves y → Leaves (cond b x y)
either true l m = l
either false l m = m

report-leaves : (ms : List Mirror) (p : Report) → Leaves (assessment_of ms p)
unfolding assessment_of errors_assessed
report-leaves ms (Whole xs ys) = record { none = λ e. true-false (sym (ap (λ k. eqb k 0) (status-kept ms xs (status_only 0))) ∙ e) }
report-leaves ms Malformed = record { none = λ e. refl }

-- ---- either kind of return
anonymous-leaves : (n : FileNumber) (c : Client) (p : Report) (f : File) → Leaves (report_on n c p f)
unfolding report_on
anonymous-leaves n c p f =
    let told = report-leaves f.mirrors p in
    either (eqb (assessment_of f.mirrors p).status 0) (either (is_file n f) (either (is_found (first (is_intent c) f.intents)) told (only 10034)) (only 70)) told

ordinary-leaves : (n : FileNumber) (h : Head) (c : Client) (t : Stateid) (p : Report) (f : File) → Leaves (return_on n h c t p f)
unfolding return_on
ordinary-leaves n h c t p f = either (eqb (bar_on n c t f) 0) (either h.old (only _) (report-leaves f.mirrors p)) (only _)

-- ---- the outcome
as_it_was : (c : Client) (f : File) (x : Change) (t : Stateid) → x ≡ no_change → t ≡ no_stateid → raised_file c t (changed_file x f) ≡ f
as_it_was c f x t u v = rw (u, v, unchanged f) (unraised c f)

pub refused-leaves : (n : FileNumber) (h : Head) (c : Client) (s : Bytes) (f : File) (d : Decision) → eqb (outcome_by n h c s f d).status 0 ≡ false → file_after f (outcome_by n h c s f d) ≡ f
unfolding outcome_by
refused-leaves n h c s f (Answered k) e = as_it_was c f _ _ refl refl
refused-leaves n h c s f HandedOn e = as_it_was c f _ _ refl refl
refused-leaves n h c s f (ReadBody len) e = as_it_was c f _ _ ((anonymous-leaves n c (report_of (part_of len s)) f).none e) refl
refused-leaves n h c s f (ReturnBody len) e =
    as_it_was c f _ _ ((ordinary-leaves n h c (stateid_in s) (report_of (part_of len s)) f).none e) (ap (λ b. cond b (raised_stateid (held_on c f)) no_stateid) e)
