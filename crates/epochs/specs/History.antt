-- DEFINITION. Histories of calls on a fresh epoch record, and what holds after any of them (Rules 6.5). In this order:
--     Call, called     a call, and what it answers and leaves: the very definition that its function's contract cites
--     after            the record after a list of calls
--     raises, raised   whether a call is a start that is accepted where R is 0; how many of a list are
--     Sound            what holds of a record
--     AfterAnyCalls    the claim of any history
--     RefusedUnchanged     the claim of a refused call on any record
-- proofs/History.antt proves both claims.
use Rattle.std.specs.Prelude.{ℕ, ◌+◌, ◌-◌, ◌≡◌, ◌⊎◌, ◌↔◌, Bool, true, false, cond, ◌&&◌, List, [], ◌∷◌, eqb}
use Rattle.epochs.specs.declared.Epochs.{Epochs}
use Rattle.epochs.specs.Epochs.{Answered, Yes, member, needs, enforces, no_grace, fresh, join_of, leave_of, start_of, enforce_of, finish_of, stop_of, may_reclaim_of, reclaim_number}

pub data Call : Type 0 where
  join leave start enforce finish stop_enforcing may_reclaim : (node : ℕ) → Call

abbrev pub called : Epochs → Call → Answered
called e (join node) = join_of e node
called e (leave node) = leave_of e node
called e (start node) = start_of e node
called e (enforce node) = enforce_of e node
called e (finish node) = finish_of e node
called e (stop_enforcing node) = stop_of e node
called e (may_reclaim node) = record { status = reclaim_number (may_reclaim_of e node); epochs = e }

unfoldable pub after : Epochs → List Call → Epochs
after e [] = e
after e (c ∷ cs) = after (called e c).epochs cs

abbrev pub is_start : Call → Bool
is_start (join node) = false
is_start (leave node) = false
is_start (start node) = true
is_start (enforce node) = false
is_start (finish node) = false
is_start (stop_enforcing node) = false
is_start (may_reclaim node) = false

abbrev pub raises : Epochs → Call → Bool
raises e c = is_start c && (eqb (called e c).status 0 && no_grace e)

unfoldable pub raised : Epochs → List Call → ℕ
raised e [] = 0
raised e (c ∷ cs) = cond (raises e c) 1 0 + raised (called e c).epochs cs

pub record Sound (e : Epochs) (starts : ℕ) : Type 0 where
  -- R is 0 or C - 1
  pub recovery : (e.recovery ≡ 0) ⊎ (e.recovery ≡ e.current - 1)
  -- R isn't 0 exactly when some member has NEED
  pub grace : (e.recovery ≡ 0 → ⊥) ↔ ((node : ℕ) × (member e node ≡ true) × (needs e node ≡ true))
  -- C is 1 plus the starts accepted at R = 0
  pub current : e.current ≡ 1 + starts
  -- flags are members' flags
  pub need-members : (node : ℕ) → needs e node ≡ true → member e node ≡ true
  pub enforcing-members : (node : ℕ) → enforces e node ≡ true → member e node ≡ true
  -- may reclaim: yes exactly when R isn't 0, the node has NEED, and every member enforces
  pub reclaim : (node : ℕ) → (may_reclaim_of e node ≡ Yes) ↔ ((e.recovery ≡ 0 → ⊥) × (needs e node ≡ true) × ((other : ℕ) → member e other ≡ true → enforces e other ≡ true))

unfoldable pub AfterAnyCalls : Type 0
AfterAnyCalls = (calls : List Call) → Sound (after fresh calls) (raised fresh calls)

-- a refused call leaves the record as it was, of EVERY record value and not only of those that a history leads to
abbrev pub RefusedUnchanged : Type 0
RefusedUnchanged = (e : Epochs) (c : Call) → ((called e c).status ≡ 0 → ⊥) → (called e c).epochs ≡ e
