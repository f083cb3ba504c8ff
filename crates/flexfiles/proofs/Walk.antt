-- What C's walks of a body hand out: `handed_out`. In this order: any such calls; those for device errors; those for statistics records; the claim.
use Prim.Native.Nat.{ℕ, zero, suc, ◌-◌, ◌<◌}
use mathlib.Core.Path.{◌≡◌, refl, sym, ap, ◌∙◌}
use mathlib.Core.List.{List, [], ◌∷◌}
use mathlib.Core.Bool.{Bool, true, false}
use native.Mathlib.Omega.{arith}
use lib.ListN.{length, take, drop}
use lib.Dec.{eqb}
use borrow.Author.Tests.{eq-eqb, ne_eqb, eqb-true, eqb-false}
use Rattle.reports.specs.Report.{Report, Whole, report_of, status_of, without_statistics, without_errors}
use Rattle.reports.specs.StatisticsSteps.{counting, next_of, statistics_from}
use Rattle.reports.specs.ReportSteps.{naming, end_of}
use Rattle.reports.specs.declared.cursor.Cursor.{Cursor}
use Rattle.reports.specs.StatisticsSteps.{Item}
use Rattle.reports.specs.StatisticsSteps as item
use Rattle.reports.proofs.Statuses.{named-status, counted-status, errors-status, statistics-status}
use Rattle.reports.proofs.StatisticsWalk.{goes-forward}
use Rattle.reports.proofs.Walk.{errors-whole, statistics-whole}
use Rattle.flexfiles.specs.Handed.{first_at, Numbers, resumed_at, numbers_of, handed, StatisticNumbers, resumed_tail, statistic_numbers, handed_statistic}
use Rattle.flexfiles.specs.declared.ErrorCursor.{ErrorCursor}
use Rattle.flexfiles.specs.Handed.{Answer, Error, Done}
use Rattle.flexfiles.specs.Walk.{Calls, ends, gives, error_call, errors_left, seen, statistic_call, statistics_left, seen_statistic, HandsOut, HandedOut}
use Rattle.flexfiles.proofs.FirstError.{errors_on, first-onward, first_ends}
use Rattle.flexfiles.proofs.Handed.{handed-begins, resumes, after_handed, handed-over, statistics-begin, tail-resumes, after_statistic, statistic-over}

-- ---- any calls: `from` is the half of the report from a cursor on, `whole` one that holds xs, and `size` what is left
record Laws {C N X : Type 0} (call : C → N) (answer : N → ℕ) (left : N → C) (sees : N → X) (adding : X → Report → Report) (whole : List X → Report) (from : C → Report) (size : C → ℕ) : Type 0 where
  given : (c : C) → answer (call c) ≡ 1 → from c ≡ adding (sees (call c)) (from (left (call c)))
  less : (c : C) → answer (call c) ≡ 1 → size (left (call c)) < size c
  ended : (c : C) → (answer (call c) ≡ 1 → ⊥) → from c ≡ end_of (answer (call c))
  status : (c : C) → (answer (call c) ≡ 1 → ⊥) → status_of (end_of (answer (call c))) ≡ answer (call c)
  added-status : (x : X) (p : Report) → status_of (adding x p) ≡ status_of p
  added : (x : X) (xs : List X) → adding x (whole xs) ≡ whole (x ∷ xs)
  none : whole [] ≡ Whole [] []
  whole-status : (xs : List X) → status_of (whole xs) ≡ 0
  same : (xs ys : List X) → whole xs ≡ whole ys → xs ≡ ys

module _ {C N X : Type 0} {call : C → N} {answer : N → ℕ} {left : N → C} {sees : N → X} {adding : X → Report → Report} {whole : List X → Report} {from : C → Report} {size : C → ℕ} (w : Laws call answer left sees adding whole from size) where
  abbrev From : C → List X → ℕ → Type 0
  From c xs k = Calls call answer left sees c xs k

  last-is : {c : C} {xs : List X} {k : ℕ} → From c xs k → k ≡ status_of (from c)
  last-is (ends {c = c} {k = k} e z) =
      let n : answer (call c) ≡ 1 → ⊥ = λ q. z (sym e ∙ q) in
      sym e ∙ sym (w.status c n) ∙ sym (ap status_of (w.ended c n))
  last-is (gives {c = c} e h) = last-is h ∙ sym (ap status_of (w.given c e) ∙ w.added-status (sees (call c)) (from (left (call c))))

  all_are : {c : C} {xs : List X} {k : ℕ} → From c xs k → k ≡ 0 → from c ≡ whole xs
  all_are (ends {c = c} e z) q = w.ended c (λ r. z (sym e ∙ r)) ∙ ap end_of (e ∙ q) ∙ sym w.none
  all_are (gives {c = c} {xs = xs} e h) q = w.given c e ∙ ap (adding (sees (call c))) (all_are h q) ∙ w.added (sees (call c)) xs

  go_on : (n : ℕ) (c : C) → size c < suc n → ((d : C) → size d < n → (xs : List X) × ((k : ℕ) × From d xs k)) → (b : Bool) → eqb (answer (call c)) 1 ≡ b → (xs : List X) × ((k : ℕ) × From c xs k)
  go_on n c h go true e =
      let q : answer (call c) ≡ 1 = eqb-true (answer (call c)) 1 e in
      let l : size (left (call c)) < size c = w.less c q in
      let r = go (left (call c)) (omega arith) in
      (_, (r.1.0, gives q r.1.1))
  go_on n c h go false e = ([], (answer (call c), ends refl (eqb-false (answer (call c)) 1 e)))

  finishes : (n : ℕ) (c : C) → size c < n → (xs : List X) × ((k : ℕ) × From c xs k)
  finishes zero c h = absurd (omega arith)
  finishes (suc n) c h = go_on n c h (finishes n) (eqb (answer (call c)) 1) refl

  -- from the cursor at the start; `half` is the half of a report that the calls walk
  module _ (c : C) where
    all_end : (xs : List X) × ((k : ℕ) × From c xs k)
    all_end = finishes (suc (size c)) c (omega arith)

    all-handed : (xs : List X) → from c ≡ whole xs → From c xs 0
    all-handed xs e =
        let k : all_end.1.0 ≡ 0 = last-is all_end.1.1 ∙ ap status_of e ∙ w.whole-status xs in
        let v : From c all_end.0 0 = rw k at all_end.1.1 in
        let q : all_end.0 ≡ xs = w.same all_end.0 xs (sym (all_are v refl) ∙ e) in
        rw q at v

    hands_out : (s : List ℕ) (half : Report → Report) (Holds : List X → Type 0) → from c ≡ half (report_of s) → ((p : Report) → status_of (half p) ≡ status_of p)
        → ((xs : List X) → half (report_of s) ≡ whole xs → Holds xs) → ((xs : List X) → Holds xs → half (report_of s) ≡ whole xs) → HandsOut s (From c) Holds
    hands_out s half Holds b t f g = record {
      finite = all_end;
      last = λ xs k h. last-is h ∙ ap status_of b ∙ t (report_of s);
      each = λ xs. (λ h. f xs (sym b ∙ all_are h refl), λ h. all-handed xs (b ∙ g xs h));
    }

-- ---- device errors
module _ (s : List ℕ) where
  abbrev resumed : ErrorCursor → ErrorCursor
  resumed c = resumed_at s c.at c.records c.devices

  error-given : (c : ErrorCursor) → (error_call s c).answer ≡ 1 → errors_on s (resumed c) ≡ naming (seen s (error_call s c) ∷ []) (errors_on s (resumed (errors_left (error_call s c))))
  error-given c e =
      let n = error_call s c in
      let h = handed-over s c.at c.records c.devices in
      h.walks ∙ ap (after_handed s n) (eq-eqb n.answer 1 e)
      ∙ ap (λ (k : ℕ). naming (record { device = take 16 (drop n.device s); status = k } ∷ []) (errors_on s (resumed (errors_left n)))) (h.status e)

  error-ended : (c : ErrorCursor) → ((error_call s c).answer ≡ 1 → ⊥) → errors_on s (resumed c) ≡ end_of (error_call s c).answer
  error-ended c z =
      let n = error_call s c in
      (handed-over s c.at c.records c.devices).walks ∙ ap (after_handed s n) (ne_eqb n.answer 1 z)

  error-less : (c : ErrorCursor) → (error_call s c).answer ≡ 1 → length s - (resumed (errors_left (error_call s c))).at < length s - (resumed c).at
  unfolding handed
  error-less c = by (first_at s (resumed c)) refl
    where
      by : (f : Answer) → first_at s (resumed c) ≡ f → (numbers_of c.at c.records c.devices f).answer ≡ 1
          → length s - (resumed (errors_left (numbers_of c.at c.records c.devices f))).at < length s - (resumed c).at
      by (Error i st next) e q =
          let g = first-onward s (resumed c) e in
          rw (resumes s next (omega arith)) (omega arith)
      by (Done k) e q = absurd ((first_ends s (resumed c) e).other q)

  error-status : (c : ErrorCursor) → ((error_call s c).answer ≡ 1 → ⊥) → status_of (end_of (error_call s c).answer) ≡ (error_call s c).answer
  unfolding handed
  error-status c = by (first_at s (resumed c)) refl
    where
      by : (f : Answer) → first_at s (resumed c) ≡ f → ((numbers_of c.at c.records c.devices f).answer ≡ 1 → ⊥)
          → status_of (end_of (numbers_of c.at c.records c.devices f).answer) ≡ (numbers_of c.at c.records c.devices f).answer
      by (Error i st next) e z = absurd (z refl)
      by (Done k) e z = (first_ends s (resumed c) e).status

  error-laws : Laws (error_call s) (λ (n : Numbers). n.answer) errors_left (seen s) (λ x. naming (x ∷ [])) (λ xs. Whole xs []) (λ c. errors_on s (resumed c)) (λ c. length s - (resumed c).at)
  error-laws = record {
    given = error-given;
    less = error-less;
    ended = error-ended;
    status = error-status;
    added-status = λ x. named-status (x ∷ []);
    added = λ x xs. refl;
    none = refl;
    whole-status = λ xs. refl;
    same = λ xs ys e. cc;
  }

-- ---- statistics records
module _ (s : List ℕ) where
  abbrev resumed' : Cursor → Cursor
  resumed' c = resumed_tail s c.at c.left

  statistic-less : (c : Cursor) → (statistic_call s c).answer ≡ 1 → length s - (resumed' (statistics_left (statistic_call s c))).at < length s - (resumed' c).at
  unfolding handed_statistic
  statistic-less c = by (next_of s (resumed' c)) refl
    where
      by : (x : Item) → next_of s (resumed' c) ≡ x → (statistic_numbers c.at c.left (resumed' c) x).answer ≡ 1
          → length s - (resumed' (statistics_left (statistic_numbers c.at c.left (resumed' c) x))).at < length s - (resumed' c).at
      by (item.Given h l r w next) e q =
          let g = goes-forward s (resumed' c) e in
          rw (tail-resumes s next (omega arith)) (omega arith)
      by item.End e q = omega arith
      by item.Malformed e q = omega arith

  statistic-status : (c : Cursor) → ((statistic_call s c).answer ≡ 1 → ⊥) → status_of (end_of (statistic_call s c).answer) ≡ (statistic_call s c).answer
  unfolding handed_statistic
  statistic-status c = by (next_of s (resumed' c))
    where
      by : (x : Item) → ((statistic_numbers c.at c.left (resumed' c) x).answer ≡ 1 → ⊥)
          → status_of (end_of (statistic_numbers c.at c.left (resumed' c) x).answer) ≡ (statistic_numbers c.at c.left (resumed' c) x).answer
      by (item.Given h l r w next) z = absurd (z refl)
      by item.End z = refl
      by item.Malformed z = refl

  statistic-laws : Laws (statistic_call s) (λ (n : StatisticNumbers). n.answer) statistics_left (seen_statistic s) counting (λ ys. Whole [] ys) (λ c. statistics_from s (resumed' c)) (λ c. length s - (resumed' c).at)
  statistic-laws = record {
    given = λ c e. statistic-over s c.at c.left ∙ ap (after_statistic s (statistic_call s c)) (eq-eqb (statistic_call s c).answer 1 e);
    less = statistic-less;
    ended = λ c z. statistic-over s c.at c.left ∙ ap (after_statistic s (statistic_call s c)) (ne_eqb (statistic_call s c).answer 1 z);
    status = statistic-status;
    added-status = counted-status;
    added = λ x xs. refl;
    none = refl;
    whole-status = λ xs. refl;
    same = λ xs ys e. cc;
  }

-- ---- the claim
pub handed_out : (s : List ℕ) → HandedOut s
handed_out s = record {
  errors = λ r d. hands_out (error-laws s) (record { at = 0; records = r; devices = d }) s without_statistics _ (handed-begins s r d) errors-status (errors-whole (report_of s)) (λ xs h. ap without_statistics h.1);
  statistics = λ n. hands_out (statistic-laws s) (record { at = 0; left = n }) s without_errors _ (statistics-begin s n) statistics-status (statistics-whole (report_of s)) (λ ys h. ap without_errors h.1);
}
