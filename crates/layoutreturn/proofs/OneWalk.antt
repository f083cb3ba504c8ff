-- One walk of the report gives the outcome that is defined, by what was decided.
use mathlib.Core.Path.{◌≡◌, refl, sym, ap}
use mathlib.Core.Bool.{Bool, true, false, cond}
use lib.Dec.{eqb}
use Rattle.statuses.specs.Names.{Bytes, Status, Client, FileNumber}
use Rattle.reports.specs.Report.{Report, report_of}
use Rattle.wire.specs.Request.{part_of}
use Rattle.wire.specs.Stateid.{no_stateid, stateid_in}
use Rattle.places.specs.Places.{first, is_found}
use Rattle.places.proofs.Sets.{true-false}
use Rattle.mirroring.specs.Blame.{status_only, assessment_of}
use Rattle.mirroring.specs.declared.blame.Assessment.{Assessment}
use Rattle.intents.specs.Intents.{is_intent}
use Rattle.files.specs.File.{is_file}
use Rattle.files.specs.declared.file.File.{File}
use Rattle.files.specs.declared.head.Head.{Head}
use Rattle.layoutreturn.specs.LayoutReturn.{outcome_of, outcome_on, if_whole, by_stateid, held_on, bar_on, in_edition, report_on, return_on, raised_on, return_outcome, outcome_by, Decision, Answered, HandedOn, ReadBody, ReturnBody}
use Rattle.layoutreturn.specs.OneWalk.{reads_body, unread_status, anonymous_claim, ordinary_claim, assessed_by, raised_if, assessed_outcome, Claim}

-- step 6 by its status, and by what it leaves of a report: a is the file's test, b the client's
by_tests : (q : Assessment) (a b : Bool) → cond (eqb (cond a (cond b 0 10034) 70) 0) q (status_only (cond a (cond b 0 10034) 70)) ≡ cond a (cond b q (status_only 10034)) (status_only 70)
by_tests q true true = refl
by_tests q true false = refl
by_tests q false b = refl

anonymous : (n : FileNumber) (h : Head) (c : Client) (p : Report) (f : File) → assessed_by h (anonymous_claim n c f) p f false ≡ report_on n c p f
unfolding assessed_by report_on
anonymous n h c p f = ap (if_whole (assessment_of f.mirrors p)) (by_tests (assessment_of f.mirrors p) (is_file n f) (is_found (first (is_intent c) f.intents)))

-- an ordinary return, by the file's test: another file's is refused, and raises nothing
module _ (n : FileNumber) (h : Head) (c : Client) (s : Bytes) (p : Report) (f : File) where
  abbrev claimed : Bool → Claim
  claimed b = cond b (record { barred = by_stateid (stateid_in s) (held_on c f); late = 0; own = held_on c f }) (record { barred = 70; late = 0; own = no_stateid })

  abbrev bar : Bool → Status
  bar b = cond b (by_stateid (stateid_in s) (held_on c f)) 70

  abbrev returned : Bool → Assessment
  returned b = cond (eqb (bar b) 0) (in_edition h (assessment_of f.mirrors p)) (status_only (bar b))

  assessed-so : (b : Bool) → assessed_by h (claimed b) p f true ≡ returned b
  unfolding assessed_by
  assessed-so true = refl
  assessed-so false = refl

  raised-so : (b : Bool) → raised_if (claimed b).own (returned b).status true ≡ raised_on c f (returned b).status
  raised-so true = refl
  raised-so false = refl

  ordinary : outcome_on h c (raised_if (ordinary_claim n c s f).own (assessed_by h (ordinary_claim n c s f) p f true).status true) f (assessed_by h (ordinary_claim n c s f) p f true) ≡ return_outcome n h c (stateid_in s) p f
  unfolding return_on bar_on
  ordinary = rw (assessed-so (is_file n f)) (ap (λ t. outcome_on h c t f (returned (is_file n f))) (raised-so (is_file n f)))

pub outcome-unread : (n : FileNumber) (h : Head) (c : Client) (s : Bytes) (f : File) (d : Decision) → reads_body d ≡ false → outcome_of h c (status_only (unread_status d)) ≡ outcome_by n h c s f d
unfolding outcome_by
outcome-unread n h c s f (Answered k) e = refl
outcome-unread n h c s f HandedOn e = refl
outcome-unread n h c s f (ReadBody len) e = true-false e
outcome-unread n h c s f (ReturnBody len) e = true-false e

pub outcome_assessed : (n : FileNumber) (h : Head) (c : Client) (s : Bytes) (f : File) (d : Decision) → reads_body d ≡ true → assessed_outcome n h c s f d ≡ outcome_by n h c s f d
unfolding outcome_by
outcome_assessed n h c s f (Answered k) e = true-false (sym e)
outcome_assessed n h c s f HandedOn e = true-false (sym e)
outcome_assessed n h c s f (ReadBody len) e = ap (outcome_on h c no_stateid f) (anonymous n h c (report_of (part_of len s)) f)
outcome_assessed n h c s f (ReturnBody len) e = ordinary n h c s (report_of (part_of len s)) f
