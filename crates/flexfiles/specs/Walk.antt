-- DEFINITION. What C's walks of a body hand out (Rules 7.4): `sc_report_next` the device errors and `sc_statistics_next` the
-- statistics records, each called until it answers other than 1, the place of its cursor 0 at first.
--     Calls                                       such calls from a cursor on: what they hand out, and the last answer
--     error_call, errors_left, seen, ErrorCalls     a call of the one function, the cursor that it leaves, what C sees by its numbers, and calls of it
--     statistic_call ..                            the same of the other
--     HandedOut                                   the claim, which proofs/Walk.antt proves
use Rattle.std.specs.Prelude.{ℕ, ◌≡◌, ◌↔◌, List, [], ◌∷◌, take, drop}
use Rattle.reports.specs.Statistics.{Statistic}
use Rattle.reports.specs.Report.{Whole, DeviceError, report_of, status_of}
use Rattle.reports.specs.declared.cursor.Cursor.{Cursor}
use Rattle.flexfiles.specs.declared.ErrorCursor.{ErrorCursor}
use Rattle.flexfiles.specs.Handed.{Numbers, handed, StatisticNumbers, handed_statistic}

-- the next call gets the cursor that the last one left
pub data Calls {C N X : Type 0} (call : C → N) (answer : N → ℕ) (left : N → C) (sees : N → X) : C → List X → (last : ℕ) → Type 0 where
  ends : {c : C} {k : ℕ} → answer (call c) ≡ k → (k ≡ 1 → ⊥) → Calls call answer left sees c [] k
  gives : {c : C} {k : ℕ} {xs : List X} → answer (call c) ≡ 1 → Calls call answer left sees (left (call c)) xs k → Calls call answer left sees c (sees (call c) ∷ xs) k

-- ---- device errors
abbrev pub error_call : List ℕ → ErrorCursor → Numbers
error_call s c = handed s c.at c.records c.devices

abbrev pub errors_left : Numbers → ErrorCursor
errors_left n = record { at = n.at; records = n.records; devices = n.devices }

-- the sixteen bytes of the body at `device`, and its status
abbrev pub seen : List ℕ → Numbers → DeviceError
seen s n = record { device = take 16 (drop n.device s); status = n.status }

abbrev pub ErrorCalls : List ℕ → ErrorCursor → List DeviceError → ℕ → Type 0
ErrorCalls s c xs k = Calls (error_call s) (λ n. n.answer) errors_left (seen s) c xs k

-- ---- statistics records
abbrev pub statistic_call : List ℕ → Cursor → StatisticNumbers
statistic_call s c = handed_statistic s c.at c.left

abbrev pub statistics_left : StatisticNumbers → Cursor
statistics_left n = record { at = n.at; left = n.left }

-- the sixteen bytes of the body at `device`, and its bytes read and written
abbrev pub seen_statistic : List ℕ → StatisticNumbers → Statistic
seen_statistic s n = record { device = take 16 (drop n.device s); read = n.read; written = n.written }

abbrev pub StatisticCalls : List ℕ → Cursor → List Statistic → ℕ → Type 0
StatisticCalls s c ys k = Calls (statistic_call s) (λ n. n.answer) statistics_left (seen_statistic s) c ys k

-- ---- the claim
-- the calls end, whatever the body; the last answer is step 5's; and they hand out xs and end with 0 exactly when xs are what the report holds, so each once and in
-- their order
pub record HandsOut {X : Type 0} (s : List ℕ) (From : List X → ℕ → Type 0) (Holds : List X → Type 0) : Type 0 where
  pub finite : (xs : List X) × ((k : ℕ) × From xs k)
  pub last : (xs : List X) (k : ℕ) → From xs k → k ≡ status_of (report_of s)
  pub each : (xs : List X) → From xs 0 ↔ Holds xs

pub record HandedOut (s : List ℕ) : Type 0 where
  pub errors : (r d : ℕ) → HandsOut s (ErrorCalls s (record { at = 0; records = r; devices = d })) (λ xs. (ys : List Statistic) × (report_of s ≡ Whole xs ys))
  pub statistics : (n : ℕ) → HandsOut s (StatisticCalls s (record { at = 0; left = n })) (λ ys. (xs : List DeviceError) × (report_of s ≡ Whole xs ys))
