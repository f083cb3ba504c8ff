-- DEFINITION. A history (Rules 5.1): any list of calls, each on the record that the last one left, and the ledger that goes along with it. In this
-- order: a step; the record's side of a history; the ledger's side.
use Rattle.std.specs.Prelude.{List, [], ◌∷◌, cond}
use Rattle.statuses.specs.Names.{Bytes}
use Rattle.recovery.specs.Calls.{Call, register, opening, set_up, reclaim, close, repaired, add_proxy, remove_proxy, forget, end_grace, restart, layout_return, listing, Answer, said, replied, handed_on}
use Rattle.ledger.specs.Ledger.{Ledger, judge, feed}
use Rattle.recovery.specs.Record.{register_of, open_of, set_up_of, reclaim_of, close_of, repaired_of, add_proxy_of, remove_proxy_of, forget_of, end_of, restart_of, listing_of, Answered}
use Rattle.recovery.specs.LayoutReturn.{layoutreturn_of, reply_after}
use Rattle.recovery.specs.declared.record.Record.{Record}
use Rattle.recovery.specs.declared.returns.Returned.{Returned}

-- ---- a step: a call is the method of that name, and each line cites the definition that the method's promise says its answer equals
pub record Step : Type 0 where
  pub answer : Answer
  pub after : Record

abbrev pub step_of : Answered → Step
step_of a = record { answer = said a.status; after = a.after }

-- d is the reply buffer afterwards
abbrev pub return_step : Returned → Bytes → Step
return_step a d = record { answer = cond a.handed (handed_on a.totals d) (replied a.status a.totals d); after = a.after }

unfoldable pub step : Record → Call → Step
step r (register n s) = step_of (register_of n s r)
step r (opening n c) = step_of (open_of n c r)
step r (set_up n c s) = step_of (set_up_of n c s r)
step r (reclaim n c) = step_of (reclaim_of n c r)
step r (close n c) = step_of (close_of n c r)
step r (repaired n) = step_of (repaired_of n r)
step r (add_proxy n s) = step_of (add_proxy_of n s r)
step r (remove_proxy n) = step_of (remove_proxy_of n r)
step r (forget n) = step_of (forget_of n r)
step r end_grace = step_of (end_of r)
step r restart = step_of (restart_of r)
step r (layout_return n c s d) = return_step (layoutreturn_of n c s d r) (reply_after n c s d r)
step r (listing k e a b) = record { answer = listing_of k e r a b; after = r }

-- ---- a history
-- the record's answers, in order, and the record after all calls
unfoldable pub answers : Record → List Call → List Answer
answers r [] = []
answers r (x ∷ xs) = (step r x).answer ∷ answers (step r x).after xs

unfoldable pub record_after : Record → List Call → Record
record_after r [] = r
record_after r (x ∷ xs) = record_after (step r x).after xs

-- what the ledger says before each call, and the ledger after all calls; it is fed the calls and the answers, and nothing else
unfoldable pub verdicts : Ledger → List Call → List Answer → List Answer
verdicts l [] given = []
verdicts l (x ∷ xs) [] = []
verdicts l (x ∷ xs) (a ∷ given) = judge l x ∷ verdicts (feed l x a) xs given

unfoldable pub ledger_after : Ledger → List Call → List Answer → Ledger
ledger_after l [] given = l
ledger_after l (x ∷ xs) [] = l
ledger_after l (x ∷ xs) (a ∷ given) = ledger_after (feed l x a) xs given
