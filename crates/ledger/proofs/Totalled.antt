-- The totals that a LAYOUTRETURN is answered with are the ledger's (Tickets 3 and 7), and so is the stateid of its reply (Ticket 13). In this order: a file's report; the
-- record's.
use mathlib.Core.Path.{◌≡◌, refl, ap, ap₂, sym, ◌∙◌}
use mathlib.Core.List.{List, [], ◌∷◌, ◌++◌, map}
use mathlib.Core.Bool.{Bool, true, false, cond}
use Prim.Native.Nat.{ℕ}
use lib.ListN.{replicate}
use lib.Dec.{eqb}
use borrow.Author.Tests.{eq-eqb}
use Rattle.statuses.specs.Rules.{refused}
use Rattle.reports.specs.Statistics.{Statistic}
use Rattle.reports.specs.Report.{DeviceError, Report, Whole, Malformed}
use Rattle.places.specs.Lists.{any, has, fill}
use Rattle.places.specs.Places.{first}
use Rattle.intents.specs.Intents.{is_intent}
use Rattle.places.proofs.Slots.{missing, found}
use Rattle.places.proofs.Sets.{true-false}
use Rattle.wire.specs.Stateid.{stateid_bytes, raised_stateid}
use Rattle.wire.specs.declared.stateid.Stateid.{Stateid}
use Rattle.mirroring.specs.Blame.{errors_assessed, assessment_of}
use Rattle.mirroring.specs.Totals.{cut_sums, sum_of, proxy_sum, no_totals, totals_of}
use Rattle.mirroring.specs.TotalsSteps.{sum_at, mirror_totals}
use Rattle.mirroring.specs.declared.mirrors.Mirror.{Mirror}
use Rattle.mirroring.specs.declared.blame.Assessment.{Assessment}
use Rattle.mirroring.specs.declared.totals.Totals.{Totals}
use Rattle.mirroring.proofs.Copies.{sums-of}
use Rattle.files.specs.File.{no_file, is_file}
use Rattle.files.specs.Head.{is_old}
use Rattle.files.specs.declared.head.Head.{Head}
use Rattle.files.specs.declared.head.Edition.{Edition}
use Rattle.files.specs.declared.head.Edition.TheVariants.{Current, Old}
use Rattle.layoutreturn.specs.LayoutReturn.{of_client, of_intent, report_on, held_on, in_edition, return_on}
use Rattle.files.specs.declared.file.File.{File}
use Rattle.recovery.specs.Record.{file_at}
use Rattle.recovery.specs.declared.record.Record.{Record}
use Rattle.ledger.specs.Ledger.{Layout, Row, Ledger, new_row, registered, row_of, layout_of, raised_layout, layout_bytes, intent_rules, body_rules, report_rules, return_rules, is_stranger, row_totals, totals_in}
use Rattle.ledger.proofs.Relation.{LayoutIs, FileIs, Matches}
use Rattle.ledger.proofs.Reported.{Assesses, named, mirrors-only, assesses-report, whole-report, malformed-report}
use Rattle.ledger.proofs.OneFile.{AtIntent, at-intent}
use Rattle.ledger.proofs.Stated.{raised-bytes, held_on_lem, barred, Step4, passes, stops, step4, return-stops, return-passes, bar-none, bar-one, malformed-in}
use Rattle.ledger.proofs.Calls.{AtFile, at-file, not_there, here, it-is}

-- ---- a file's report
unknown-by : {ms : List Mirror} {h : Assessment} {w : Row} {xs : List DeviceError} {bs : List ℕ} {b : Bool} → Assesses ms h w xs bs b → h.change.unknown ≡ any (is_stranger w) xs
unknown-by (named p q) = q ∙ sym p
unknown-by (mirrors-only p q) = q.unknown ∙ sym p

mirror-totals : {g : Bool} {f : File} {w : Row} (xs : List DeviceError) (ys : List Statistic) → FileIs g f w → mirror_totals f.mirrors (Whole xs ys) ≡ totals_of ys w.mirrors w.proxy
unfolding mirror_totals totals_of
mirror-totals {g} {f} {w} xs ys k = ap₂ {C = Totals} (λ (r s : List ℕ). record { read = cut_sums r; written = cut_sums s }) (by_place (λ y. y.read)) (by_place (λ y. y.written))
  where
    by_place : (p : Statistic → ℕ) → map (sum_at p ys) f.mirrors ≡ fill (map (λ d. sum_of p d ys) w.mirrors) (replicate 4 0) ++ proxy_sum p w.proxy ys ∷ []
    by_place p = sums-of p ys k.copies.places

file-totals : {g : Bool} {f : File} {w : Row} (xs : List DeviceError) (ys : List Statistic) → FileIs g f w → (assessment_of f.mirrors (Whole xs ys)).totals ≡ row_totals (Whole xs ys) w
unfolding assessment_of errors_assessed
file-totals {g} {f} {w} xs ys k = ap₂ (λ (b : Bool) (t : Totals). cond b no_totals t) (unknown-by (assesses-report xs k)) (mirror-totals xs ys k)

-- step 6, on the file
at-client : {g : Bool} {f : File} {w : Row} (c : ℕ) (xs : List DeviceError) (ys : List Statistic) → FileIs g f w → AtIntent c g f w
    → (of_client (assessment_of f.mirrors (Whole xs ys)) (first (is_intent c) f.intents)).totals ≡ cond (eqb (refused (intent_rules c w)) 0) (row_totals (Whole xs ys) w) no_totals
unfolding has
at-client c xs ys k (missing a b) = rw (a, b)
at-client c xs ys k (found i y t) = rw (t.at, t.there) (file-totals xs ys k)

-- an ordinary return, on the file: an old record reads the body for its form alone
edition-totals : {g : Bool} {f : File} {w : Row} (d : Head) (ed : Edition) (p : Report) → d.old ≡ is_old ed → FileIs g f w
    → (in_edition d (assessment_of f.mirrors p)).totals ≡ cond (eqb (refused (body_rules p)) 0) (totals_in ed p w) no_totals
edition-totals {f = f} d ed Malformed o k = ap (λ (h : Assessment). h.totals) (malformed-in d f.mirrors)
edition-totals d Current (Whole xs ys) o k = rw o (file-totals xs ys k)
edition-totals d Old (Whole xs ys) o k = rw o

module _ {g : Bool} {f : File} {w : Row} (n c : ℕ) (t : Stateid) (d : Head) (ed : Edition) (p : Report) (o : d.old ≡ is_old ed) (i : is_file n f ≡ true) (h : FileIs g f w) where
  totals-by : Step4 t (held_on c f) (layout_of c w) → (return_on n d c t p f).totals ≡ cond (eqb (barred t (layout_of c w) (refused (body_rules p))) 0) (totals_in ed p w) no_totals
  totals-by (passes e z k) = rw (return-passes n c t d p f (bar-one n c t f i ∙ e), k (refused (body_rules p))) (edition-totals d ed p o h)
  totals-by (stops s e q k) = rw (return-stops n c t d p f s (bar-one n c t f i ∙ e) q, k (refused (body_rules p)), q)

  totals-on : (return_on n d c t p f).totals ≡ cond (eqb (barred t (layout_of c w) (refused (body_rules p))) 0) (totals_in ed p w) no_totals
  totals-on = totals-by (step4 t (held_on_lem c h))

-- the reply's stateid
not-zero : {A : Type 0} (s : ℕ) → eqb s 0 ≡ false → s ≡ 0 → A
not-zero s e q = true-false (sym (eq-eqb s 0 q) ∙ e)

stateid-by : {u : Stateid} {y : Layout} (t : Stateid) (k : ℕ) → LayoutIs u y → Step4 t u y → barred t y k ≡ 0 → stateid_bytes (raised_stateid u) ≡ layout_bytes (raised_layout y)
stateid-by t k h (passes e z q) a = raised-bytes h z
stateid-by t k h (stops s e z q) a = not-zero s z (sym (q k) ∙ a)

-- ---- the record's
module _ {r : Record} {l : Ledger} (m : Matches r l) (n c : ℕ) where
  on_row : (xs : List DeviceError) (ys : List Statistic) → AtFile n r l
      → (of_intent n c (file_at n r) (assessment_of (file_at n r).mirrors (Whole xs ys))).totals
      ≡ cond (eqb (refused (report_rules l n c (Whole xs ys))) 0) (row_totals (Whole xs ys) (row_of n l)) no_totals
  unfolding registered row_of
  on_row xs ys (missing a b) = rw (not_there r n a, b)
  on_row xs ys (found i w z) =
      rw (here n r l i w z, z.there, z.the (new_row n []), it-is n r l i w z) (at-client c xs ys (z.pair no_file) (at-intent c (z.pair no_file)))

  pub report-totals : (p : Report) → (report_on n c p (file_at n r)).totals ≡ cond (eqb (refused (report_rules l n c p)) 0) (row_totals p (row_of n l)) no_totals
  report-totals Malformed = ap (λ (h : Assessment). h.totals) (malformed-report n c (file_at n r))
  report-totals (Whole xs ys) = ap (λ (h : Assessment). h.totals) (whole-report n c xs ys (file_at n r)) ∙ on_row xs ys (at-file n m)

  -- an ordinary return
  return-on : (t : Stateid) (p : Report) → AtFile n r l
      → (return_on n r.head c t p (file_at n r)).totals ≡ cond (eqb (refused (return_rules l n c t p)) 0) (totals_in l.edition p (row_of n l)) no_totals
  unfolding registered row_of
  return-on t p (missing a b) = rw (return-stops n c t r.head p (file_at n r) 70 (bar-none n c t (file_at n r) (not_there r n a)) refl, b)
  return-on t p (found i w z) = rw (here n r l i w z, z.there, z.the (new_row n [])) (totals-on n c t r.head l.edition p m.old (it-is n r l i w z) (z.pair no_file))

  pub return-totals : (t : Stateid) (p : Report) → (return_on n r.head c t p (file_at n r)).totals ≡ cond (eqb (refused (return_rules l n c t p)) 0) (totals_in l.edition p (row_of n l)) no_totals
  return-totals t p = return-on t p (at-file n m)

  stateid-on : (t : Stateid) (p : Report) → AtFile n r l → refused (return_rules l n c t p) ≡ 0 → stateid_bytes (raised_stateid (held_on c (file_at n r))) ≡ layout_bytes (raised_layout (layout_of c (row_of n l)))
  unfolding registered row_of
  stateid-on t p (missing a b) e = not-zero 70 refl (rw b at e)
  stateid-on t p (found i w z) e =
      let h = held_on_lem c (z.pair no_file) in
      rw (here n r l i w z, z.the (new_row n [])) (stateid-by t (refused (body_rules p)) h (step4 t h) (rw (z.there, z.the (new_row n [])) at e))

  pub return-stateid : (t : Stateid) (p : Report) → refused (return_rules l n c t p) ≡ 0 → stateid_bytes (raised_stateid (held_on c (file_at n r))) ≡ layout_bytes (raised_layout (layout_of c (row_of n l)))
  return-stateid t p = stateid-on t p (at-file n m)
