-- DEFINITION. What leaves the record as it was (Rules 4.7), of EVERY record value and not only of those that a history leads
-- to. In this order: any call that is refused, handed on or a listing; open where the intent is held; reclaim again. Proved in proofs/Unchanged.antt.
use Rattle.std.specs.Prelude.{◌≡◌, Bool, true, false, not, cond}
use Rattle.statuses.specs.Names.{Client, FileNumber}
use Rattle.places.specs.Lists.{any}
use Rattle.intents.specs.Intents.{is_intent}
use Rattle.intents.specs.declared.Intent.{Intent}
use Rattle.files.specs.File.{is_file}
use Rattle.recovery.specs.Calls.{Call, opening, reclaim}
use Rattle.recovery.specs.Record.{answered, file_at}
use Rattle.recovery.specs.declared.record.Record.{Record}
use Rattle.ledger.specs.Ledger.{accepted}
use Rattle.ledger.specs.History.{step_of, step}

-- "Refused, handed on, or a listing: no change"
abbrev pub RefusedUnchanged : Type 0
RefusedUnchanged = (r : Record) (x : Call) → accepted (step r x).answer ≡ false → (step r x).after ≡ r

-- whether the client c has an intent on the file n, and whether it has one there that it has not reclaimed
abbrev pub holds_intent : FileNumber → Client → Record → Bool
holds_intent n c r = cond (is_file n (file_at n r)) (any (is_intent c) (file_at n r).intents) false

abbrev pub owes_reclaim : FileNumber → Client → Record → Bool
owes_reclaim n c r = any (λ (x : Intent). cond (is_intent c x) (not x.reclaimed) false) (file_at n r).intents

-- open, not in grace: "held already: 0, no change"
abbrev pub HeldUnchanged : Type 0
HeldUnchanged = (r : Record) (n : FileNumber) (c : Client) → r.head.grace ≡ false → holds_intent n c r ≡ true → step r (opening n c) ≡ step_of (answered 0 r)

-- reclaim, in grace: "again: 0, no change"
abbrev pub AgainUnchanged : Type 0
AgainUnchanged = (r : Record) (n : FileNumber) (c : Client) → r.head.grace ≡ true → holds_intent n c r ≡ true → owes_reclaim n c r ≡ false → step r (reclaim n c) ≡ step_of (answered 0 r)

-- all three
pub record Unchanged : Type 0 where
  pub refused : RefusedUnchanged
  pub held : HeldUnchanged
  pub again : AgainUnchanged
