-- C's calls walk a report: by the laws of the first device error from a cursor on, and by those of crate `reports` for the statistics record at one.
use Prim.Native.Nat.{ℕ, ◌≤◌}
use mathlib.Core.Path.{◌≡◌, refl, sym, ap, ◌∙◌}
use mathlib.Core.List.{List, [], ◌∷◌}
use mathlib.Core.Bool.{Bool, true, false}
use native.Mathlib.Omega.{arith}
use lib.ListN.{take, drop}
use lib.Seq.{drop-drop}
use lib.Dec.{eqb}
use borrow.Author.Tests.{ne_eqb}
use Rattle.reports.specs.Report.{Report, report_of, without_statistics, without_errors}
use Rattle.reports.specs.Cursors.{cursor_at}
use Rattle.reports.specs.StatisticsSteps.{counting, next_of, statistics_from}
use Rattle.reports.specs.ReportSteps.{naming, error_in, end_of}
use Rattle.reports.proofs.Reports.{begins}
use Rattle.reports.specs.declared.cursor.Cursor.{Cursor}
use Rattle.reports.specs.StatisticsSteps.{Item}
use Rattle.reports.specs.StatisticsSteps as item
use Rattle.reports.proofs.StatisticsWalk as statistics
use Rattle.reports.proofs.StatisticsWalk.{unrolled, goes-forward, stated}
use Rattle.flexfiles.specs.Handed.{first_at, Numbers, resumed_at, numbers_of, handed, StatisticNumbers, resumed_tail, statistic_numbers, handed_statistic}
use Rattle.flexfiles.specs.declared.ErrorCursor.{ErrorCursor}
use Rattle.flexfiles.specs.Handed.{Answer, Error, Done}
use Rattle.flexfiles.proofs.FirstError.{errors_on, at_records, first_walks, first-onward, first_ends}

-- what C is handed, from the cursor that its numbers are
pub handed-is : (s : List ℕ) (at r d : ℕ) {c : ErrorCursor} {f g : Answer} → c ≡ resumed_at s at r d → f ≡ first_at s c → f ≡ g → handed s at r d ≡ numbers_of at r d g
unfolding handed
handed-is s at r d e h k = ap (numbers_of at r d) (ap (first_at s) (sym e) ∙ sym h ∙ k)

-- C's walk: it begins with the whole report, but for its statistics records, and each call hands over the device error that the report from C's cursor on begins with
pub handed-begins : (s : List ℕ) (r d : ℕ) → errors_on s (resumed_at s 0 r d) ≡ without_statistics (report_of s)
unfolding resumed_at
handed-begins s r d = at_records s (record { at = (cursor_at s 0).at; records = (cursor_at s 0).left; devices = 0 }) refl ∙ ap without_statistics (begins s)

pub resumes : (s : List ℕ) (c : ErrorCursor) → 24 ≤ c.at → resumed_at s c.at c.records c.devices ≡ c
unfolding resumed_at
resumes s c h = rw (ne_eqb c.at 0 (λ z. omega arith))

-- the device errors from C's cursor on, by what C is handed
abbrev pub after_handed : List ℕ → Numbers → Bool → Report
after_handed s n true = naming (error_in (drop n.device s) ∷ []) (errors_on s (resumed_at s n.at n.records n.devices))
after_handed s n false = end_of n.answer

pub record HandedOver (s : List ℕ) (c : ErrorCursor) (n : Numbers) : Type 0 where
  pub walks : errors_on s c ≡ after_handed s n (eqb n.answer 1)
  pub status : n.answer ≡ 1 → (error_in (drop n.device s)).status ≡ n.status

over-found : (s : List ℕ) (at r d : ℕ) (c : ErrorCursor) (f : Answer) → first_at s c ≡ f → HandedOver s c (numbers_of at r d f)
over-found s at r d c (Error i st next) e =
    let g = first-onward s c e in
    record { walks = first_walks s c ∙ rw (e, resumes s next (omega arith)); status = λ z. g.status }
over-found s at r d c (Done k) e =
    let l = first_ends s c e in
    record { walks = first_walks s c ∙ rw (e, ne_eqb k 1 l.other); status = λ y. absurd (l.other y) }

pub handed-over : (s : List ℕ) (at r d : ℕ) → HandedOver s (resumed_at s at r d) (handed s at r d)
unfolding handed
handed-over s at r d = over-found s at r d (resumed_at s at r d) (first_at s (resumed_at s at r d)) refl

-- ---- statistics records
pub statistic-is : (s : List ℕ) (at n : ℕ) {c : Cursor} {x y : Item} → c ≡ resumed_tail s at n → x ≡ next_of s c → x ≡ y → handed_statistic s at n ≡ statistic_numbers at n c y
unfolding handed_statistic
statistic-is s at n {c} e h k = ap (λ (d : Cursor). statistic_numbers at n d (next_of s d)) (sym e) ∙ ap (statistic_numbers at n c) (sym h ∙ k)

-- C's walk: it begins with all statistics records of the report, and each call hands over the one that those from C's cursor on begin with
pub statistics-begin : (s : List ℕ) (n : ℕ) → statistics_from s (resumed_tail s 0 n) ≡ without_errors (report_of s)
unfolding resumed_tail
statistics-begin s n = statistics.begins s

pub tail-resumes : (s : List ℕ) (c : Cursor) → 80 ≤ c.at → resumed_tail s c.at c.left ≡ c
unfolding resumed_tail
tail-resumes s c h = rw (ne_eqb c.at 0 (λ z. omega arith))

-- the statistics records from C's cursor on, by what C is handed
abbrev pub after_statistic : List ℕ → StatisticNumbers → Bool → Report
after_statistic s n true =
    counting (record { device = take 16 (drop n.device s); read = n.read; written = n.written }) (statistics_from s (resumed_tail s n.at n.left))
after_statistic s n false = end_of n.answer

statistic-found : (s : List ℕ) (at n : ℕ) (c : Cursor) (x : Item) → next_of s c ≡ x
    → statistics_from s c ≡ after_statistic s (statistic_numbers at n c x) (eqb (statistic_numbers at n c x).answer 1)
statistic-found s at n c (item.Given h l r w next) e =
    let f = goes-forward s c e in
    let t = stated s c e in
    unrolled s c ∙ rw (e, tail-resumes s next (omega arith), drop-drop 64 c.at s, t.read, t.written)
statistic-found s at n c item.End e = unrolled s c ∙ rw e
statistic-found s at n c item.Malformed e = unrolled s c ∙ rw e

pub statistic-over : (s : List ℕ) (at n : ℕ) → statistics_from s (resumed_tail s at n) ≡ after_statistic s (handed_statistic s at n) (eqb (handed_statistic s at n).answer 1)
unfolding handed_statistic
statistic-over s at n = statistic-found s at n (resumed_tail s at n) (next_of s (resumed_tail s at n)) refl
