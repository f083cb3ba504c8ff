-- What every call on one file does, of EVERY file: it gives the file back, or it answers 0 and makes another of it, and then the counts move as the file does.
-- In this order: the law; the calls; LAYOUTRETURN.
use mathlib.Core.Path.{◌≡◌, refl, ap}
use mathlib.Core.List.{List}
use mathlib.Core.Bool.{Bool, true, false, not, cond}
use Prim.Native.Nat.{ℕ}
use lib.ListN.{get_or, set, length}
use lib.Dec.{eqb}
use Rattle.statuses.specs.Names.{Bytes}
use Rattle.reports.specs.Device.{halves}
use Rattle.reports.specs.Report.{Report, Whole, Malformed}
use Rattle.wire.specs.Stateid.{no_stateid}
use Rattle.wire.specs.declared.stateid.Stateid.{Stateid}
use Rattle.places.specs.Lists.{any}
use Rattle.places.specs.Places.{first, is_found, left_out}
use Rattle.mirroring.specs.Mirrors.{is_device, has_proxy, with_proxy, without_proxy}
use Rattle.mirroring.specs.Blame.{status_only, errors_assessed, assessment_of}
use Rattle.mirroring.specs.TotalsSteps.{mirror_totals}
use Rattle.mirroring.specs.declared.mirrors.Mirror.{Mirror}
use Rattle.mirroring.specs.declared.blame.Assessment.{Assessment}
use Rattle.mirroring.specs.declared.blame.Change.{Change}
use Rattle.intents.specs.Intents.{no_intent, intent_of, is_intent, is_free, first_taken, is_stated, stateid_at}
use Rattle.files.specs.Counts.{moved_by}
use Rattle.files.specs.File.{FileAnswered, is_file, standing_of, moved_head, unreclaimed_bar, file_answered, becomes, of_file, takes, opens, opened_file, reclaims, reclaimed_file, leaves, closed_file, repaired_file, mended_file, proxy_added_file, proxy_removed_file, states, stated_file, changed_file, raised_file, head_after, with_intents, with_mirrors}
use Rattle.files.specs.declared.counts.Standing.{Standing}
use Rattle.files.specs.declared.file.File.{File}
use Rattle.files.specs.declared.head.Head.{Head}
use Rattle.files.proofs.Counting.{moved_same, moved-reclaimed, moved-stated, raised-stands}
use Rattle.layoutreturn.specs.LayoutReturn.{of_client, bar_on, in_edition, return_on, raised_on, outcome_on, report_outcome, return_outcome}
use Rattle.recovery.specs.LayoutReturn.{answered_by}
use Rattle.ledger.proofs.Reported.{assessed_file, nothing-changed, whole-status, whole-report, malformed-report}
use Rattle.std.specs.Prelude.{Option, Some, None}

-- ---- THE LAW of a call on the file f
pub data Does (d : Head) (f : File) : FileAnswered → Type 0 where
  keeps : (s : ℕ) → Does d f (file_answered s d f)
  makes : (e : Head) (g : File) → moved_head f g d ≡ e → Does d f (file_answered 0 e g)

module _ (d : Head) (f : File) where
  either : {a c : FileAnswered} (b : Bool) → Does d f a → Does d f c → Does d f (cond b a c)
  either true h k = h
  either false h k = k

  of-file : (n : ℕ) {a : FileAnswered} → Does d f a → Does d f (of_file n d f a)
  of-file n k = either (is_file n f) k (keeps 70)

  becoming : (g : File) → Does d f (becomes d f g)
  becoming g = makes _ g refl

  remirrored : (ms : List Mirror) → Does d f (file_answered 0 d (with_mirrors ms f))
  remirrored ms = makes d _ (moved_same f d)

  -- ---- the calls
  taking : (c : ℕ) (o : Option ℕ) → Does d f (takes c d f o)
  taking c None = keeps 28
  taking c (Some i) = becoming (with_intents (set f.intents i (intent_of c)) f)

  opening-by : (c : ℕ) (o : Option ℕ) → Does d f (opens c d f o)
  opening-by c (Some i) = keeps 0
  opening-by c None = taking c (first is_free f.intents)

  reclaiming : (c : ℕ) (o : Option ℕ) → Does d f (reclaims c d f o)
  reclaiming c None = keeps 10034
  reclaiming c (Some i) = makes d _ (moved-reclaimed c f d)

  leaving : (o : Option ℕ) → Does d f (leaves d f o)
  leaving None = keeps 10025
  leaving (Some i) = either (unreclaimed_bar d.grace (get_or f.intents i no_intent).reclaimed) (keeps 10025) (becoming (with_intents (left_out no_intent i f.intents) f))

  stating : (c : ℕ) (t : Stateid) (b : Bool) (o : Option ℕ) → Does d f (states c t b d f o)
  stating c t b None = keeps 10025
  stating c t b (Some i) = either (is_stated (stateid_at f.intents (Some i))) (keeps 17) (either b (keeps 22) (makes d _ (moved-stated c t f d)))

  pub open-does : (n c : ℕ) → Does d f (opened_file n d c f)
  unfolding opened_file
  open-does n c = either d.grace (keeps 10013) (of-file n (opening-by c (first (is_intent c) f.intents)))

  pub set-up-does : (n c : ℕ) (t : Stateid) (b : Bool) → Does d f (stated_file n d c t b f)
  unfolding stated_file
  set-up-does n c t b = either d.grace (keeps 10013) (of-file n (stating c t b (first (is_intent c) f.intents)))

  pub reclaim-does : (n c : ℕ) → Does d f (reclaimed_file n d c f)
  unfolding reclaimed_file
  reclaim-does n c = either d.grace (of-file n (reclaiming c (first (is_intent c) f.intents))) (keeps 10033)

  pub close-does : (n c : ℕ) → Does d f (closed_file n d c f)
  unfolding closed_file
  close-does n c = of-file n (leaving (first (is_intent c) f.intents))

  pub repaired-does : (n : ℕ) → Does d f (repaired_file n d f)
  unfolding repaired_file
  repaired-does n = of-file n (either (not f.marked) (keeps 22) (either (first_taken f.intents) (keeps 10008) (becoming (mended_file f))))

  pub add-proxy-does : (n : ℕ) (s : Bytes) → Does d f (proxy_added_file n d s f)
  unfolding proxy_added_file
  add-proxy-does n s = either d.grace (keeps 10013) (of-file n
      (either (not (eqb (length s) 16)) (keeps 22) (either (any (is_device (halves s)) f.mirrors) (keeps 22) (either (has_proxy f.mirrors) (keeps 17) (remirrored (with_proxy (halves s).high (halves s).low f.mirrors))))))

  pub remove-proxy-does : (n : ℕ) → Does d f (proxy_removed_file n d f)
  unfolding proxy_removed_file
  remove-proxy-does n = either d.grace (keeps 10013) (of-file n (either (not (has_proxy f.mirrors)) (keeps 2) (remirrored (without_proxy f.mirrors))))

  -- ---- LAYOUTRETURN: a refusal gives the file back, and a status of 0 makes one of whatever was found and of any stateid
  refusing : (c k : ℕ) → Does d f (assessed_file d c f (status_only k))
  refusing c k = rw (nothing-changed d c k f) (keeps k)

  told-raised : (c : ℕ) (t : Stateid) (x : Change) → moved_head f (raised_file c t (changed_file x f)) d ≡ head_after x d f
  unfolding head_after
  told-raised c t x = ap (λ (s : Standing). moved_by (standing_of f) s d) (raised-stands c t (changed_file x f))

  accepting : (c : ℕ) (t : Stateid) (a : Assessment) → a.status ≡ 0 → Does d f (answered_by f (outcome_on d c t f a))
  accepting c t a e = rw e (makes (head_after a.change d f) _ (told-raised c t a.change))

  choosing : (c : ℕ) (b : Bool) (h k : Assessment) → Does d f (assessed_file d c f h) → Does d f (assessed_file d c f k)
      → Does d f (assessed_file d c f (cond b h k))
  choosing c true h k p q = p
  choosing c false h k p q = q

  -- a report that is whole has the status 0
  pub report-does : (n c : ℕ) (p : Report) → Does d f (answered_by f (report_outcome n d c p f))
  report-does n c Malformed = rw (malformed-report n c f) (refusing c 10036)
  report-does n c (Whole xs ys) =
      let h = assessment_of f.mirrors (Whole xs ys) in
      let o = first (is_intent c) f.intents in
      rw (whole-report n c xs ys f)
      (choosing c (is_file n f) (of_client h o) (status_only 70)
      (choosing c (is_found o) h (status_only 10034) (accepting c no_stateid h (whole-status f.mirrors xs ys)) (refusing c 10034)) (refusing c 70))

  -- an ordinary return, by its step 4 and the edition
  abbrev returned : ℕ → Assessment → FileAnswered
  returned c a = answered_by f (outcome_on d c (raised_on c f a.status) f a)

  formed : (c : ℕ) (p : Report) (b : Bool) → Does d f (returned c (cond b (status_only (assessment_of f.mirrors p).status) (assessment_of f.mirrors p)))
  unfolding assessment_of errors_assessed mirror_totals
  formed c Malformed true = refusing c 10036
  formed c Malformed false = refusing c 10036
  formed c (Whole xs ys) true = accepting c _ (status_only (assessment_of f.mirrors (Whole xs ys)).status) (whole-status f.mirrors xs ys)
  formed c (Whole xs ys) false = accepting c _ (assessment_of f.mirrors (Whole xs ys)) (whole-status f.mirrors xs ys)

  pub return-does : (n c : ℕ) (t : Stateid) (p : Report) → Does d f (answered_by f (return_outcome n d c t p f))
  unfolding return_on
  return-does n c t p = by (eqb (bar_on n c t f) 0) refl
    where
      by : (b : Bool) → eqb (bar_on n c t f) 0 ≡ b → Does d f (returned c (cond b (in_edition d (assessment_of f.mirrors p)) (status_only (bar_on n c t f))))
      by true e = formed c p d.old
      by false e = rw e (refusing c (bar_on n c t f))
