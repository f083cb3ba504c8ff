-- DEFINITION. Cluster grace epochs (Rules 6.1 to 6.4): what each call on a node's epoch record answers, and the record afterwards. In this order:
--     above31, member, needs, enforces     what a number and a record say of a node.        no_grace, last_epoch, all_enforce     and of the cluster
--     fresh                    the record that a history begins with
--     join_rules ..             each call's refusals in order, a condition and its number (`Rule` of the crate statuses)
--     joined ..                the record that an accepted call leaves
--     Answered, answered        an answer and the record afterwards, and what the code says of them
--     judged, join_of ..        each call
--     MayReclaim, reclaim_answer, may_reclaim_of, reclaim_number     the call that only asks, and the number of each of its answers
-- A record's three sets of nodes are masks: `has`, `plus`, `minus`, `empty` and `within` of the crate masks say which nodes are in them.
use Rattle.std.specs.Prelude.{ℕ, ◌+◌, ◌-◌, ◌^◌, Bool, true, false, not, cond, ◌&&◌, List, [], ◌∷◌, eqb, leb, Result, Ok, Err}
use Rattle.statuses.specs.Numbers.{number}
use Rattle.statuses.specs.declared.Status.{Status}
use Rattle.statuses.specs.declared.Status.TheVariants.{Inval}
use Rattle.statuses.specs.Rules.{Rule, ◌⇒◌, decided}
use Rattle.masks.specs.Mask.{has, plus, minus, empty, within}
use Rattle.epochs.specs.declared.Epochs.{Epochs}

-- ---- what a record says
-- a number that is no node's
abbrev pub above31 : ℕ → Bool
above31 node = leb 32 node

abbrev pub member : Epochs → ℕ → Bool
member e node = has e.members node

-- the flags NEED and ENFORCING of a node
abbrev pub needs : Epochs → ℕ → Bool
needs e node = has e.need node

abbrev pub enforces : Epochs → ℕ → Bool
enforces e node = has e.enforcing node

-- R is 0
abbrev pub no_grace : Epochs → Bool
no_grace e = eqb e.recovery 0

-- C is 2^64 - 1
abbrev pub last_epoch : Epochs → Bool
last_epoch e = eqb e.current (2 ^ 64 - 1)

-- every member enforces
abbrev pub all_enforce : Epochs → Bool
all_enforce e = within e.members e.enforcing

-- C = 1, R = 0, no members
abbrev pub fresh : Epochs
fresh = record { current = 1; recovery = 0; members = 0; need = 0; enforcing = 0 }

-- ---- the refusals of each call, in order: a condition, and its number
abbrev pub join_rules : Epochs → ℕ → List (Rule ℕ)
join_rules e node = above31 node ⇒ 22 ∷ member e node ⇒ 17 ∷ []

abbrev pub leave_rules : Epochs → ℕ → List (Rule ℕ)
leave_rules e node = above31 node ⇒ 22 ∷ not (member e node) ⇒ 2 ∷ needs e node ⇒ 10013 ∷ []

abbrev pub start_rules : Epochs → ℕ → List (Rule ℕ)
start_rules e node = above31 node ⇒ 22 ∷ not (member e node) ⇒ 2 ∷ (no_grace e && last_epoch e) ⇒ 28 ∷ []

abbrev pub enforce_rules : Epochs → ℕ → List (Rule ℕ)
enforce_rules e node = above31 node ⇒ 22 ∷ not (member e node) ⇒ 2 ∷ no_grace e ⇒ 10033 ∷ []

abbrev pub finish_rules : Epochs → ℕ → List (Rule ℕ)
finish_rules e node = above31 node ⇒ 22 ∷ not (member e node) ⇒ 2 ∷ not (needs e node) ⇒ 22 ∷ []

abbrev pub stop_rules : Epochs → ℕ → List (Rule ℕ)
stop_rules e node = above31 node ⇒ 22 ∷ not (member e node) ⇒ 2 ∷ not (no_grace e) ⇒ 10013 ∷ []

-- ---- the record that an accepted call leaves
-- a member, with no flags
abbrev pub joined : Epochs → ℕ → Epochs
joined e node = record { current = e.current; recovery = e.recovery; members = plus e.members node; need = minus e.need node; enforcing = minus e.enforcing node }

-- no member, and no flags: it had no NEED
abbrev pub departed : Epochs → ℕ → Epochs
departed e node = record { current = e.current; recovery = e.recovery; members = minus e.members node; need = e.need; enforcing = minus e.enforcing node }

-- where R = 0: R = C, and C rises by 1
abbrev pub new_epoch : Epochs → Epochs
new_epoch e = record { current = e.current + 1; recovery = e.current; members = e.members; need = e.need; enforcing = e.enforcing }

abbrev pub begun : Epochs → Epochs
begun e = cond (no_grace e) (new_epoch e) e

-- both flags are set
abbrev pub flagged : Epochs → ℕ → Epochs
flagged e node = record { current = e.current; recovery = e.recovery; members = e.members; need = plus e.need node; enforcing = plus e.enforcing node }

-- ENFORCING is set
abbrev pub enforced : Epochs → ℕ → Epochs
enforced e node = record { current = e.current; recovery = e.recovery; members = e.members; need = e.need; enforcing = plus e.enforcing node }

-- NEED is cleared, and the last one sets R = 0
abbrev pub finished : Epochs → ℕ → Epochs
finished e node = record { current = e.current; recovery = cond (empty (minus e.need node)) 0 e.recovery; members = e.members; need = minus e.need node; enforcing = e.enforcing }

-- ENFORCING is cleared
abbrev pub stopped : Epochs → ℕ → Epochs
stopped e node = record { current = e.current; recovery = e.recovery; members = e.members; need = e.need; enforcing = minus e.enforcing node }

-- ---- the calls: the first refusal that applies, which changes nothing, or else 0
-- what a call answers, and the record afterwards
pub record Answered : Type 0 where
  pub status : ℕ
  pub epochs : Epochs

abbrev pub accepted : Epochs → Answered
accepted next = record { status = 0; epochs = next }

abbrev pub refused : ℕ → Epochs → Answered
refused s e = record { status = s; epochs = e }

-- what the code answers to a call on e
abbrev pub answered : Epochs → Result Epochs Status → Answered
answered e (Ok next) = accepted next
answered e (Err s) = refused (number s) e

unfoldable pub judged : Epochs → List (Rule ℕ) → Epochs → Answered
judged e rules next = decided (λ s. refused s e) rules (accepted next)

unfoldable pub join_of : Epochs → ℕ → Answered
join_of e node = judged e (join_rules e node) (joined e node)

unfoldable pub leave_of : Epochs → ℕ → Answered
leave_of e node = judged e (leave_rules e node) (departed e node)

unfoldable pub start_of : Epochs → ℕ → Answered
start_of e node = judged e (start_rules e node) (flagged (begun e) node)

unfoldable pub enforce_of : Epochs → ℕ → Answered
enforce_of e node = judged e (enforce_rules e node) (enforced e node)

unfoldable pub finish_of : Epochs → ℕ → Answered
finish_of e node = judged e (finish_rules e node) (finished e node)

unfoldable pub stop_of : Epochs → ℕ → Answered
stop_of e node = judged e (stop_rules e node) (stopped e node)

pub data MayReclaim : Type 0 where
  Yes No NoSuchNode : MayReclaim

-- as the code answers it
abbrev pub reclaim_answer : MayReclaim → Result Bool Status
reclaim_answer Yes = Ok true
reclaim_answer No = Ok false
reclaim_answer NoSuchNode = Err Inval

-- yes exactly when R isn't 0, the node, a member, has NEED, and every member enforces
unfoldable pub may_reclaim_of : Epochs → ℕ → MayReclaim
may_reclaim_of e node = cond (above31 node) NoSuchNode (cond (not (no_grace e) && (member e node && (needs e node && all_enforce e))) Yes No)

-- the number of each answer in C
abbrev pub reclaim_number : MayReclaim → ℕ
reclaim_number No = 0
reclaim_number Yes = 1
reclaim_number NoSuchNode = 22
