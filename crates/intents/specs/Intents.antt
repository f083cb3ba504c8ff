-- MODEL. A file's eight places for intents, in this order: one place; tests; stateids; all eight; changes.
use Rattle.std.specs.Prelude.{ℕ, List, Bool, true, false, not, cond, get_or, replicate, eqb, Option, Some, None}
use Rattle.statuses.specs.Names.{Client}
use Rattle.wire.specs.Stateid.{no_stateid, has_other}
use Rattle.wire.specs.declared.stateid.Stateid.{Stateid}
use Rattle.intents.specs.declared.Intent.{Intent}

abbrev pub no_intent : Intent
no_intent = record { client = 0; stateid = no_stateid; taken = false; reclaimed = false }

abbrev pub intent_of : Client → Intent
intent_of c = record { client = c; stateid = no_stateid; taken = true; reclaimed = false }

-- one that stays at the end of grace, or a free place; in grace nobody has a stateid
abbrev pub stayed_of : Client → Bool → Intent
stayed_of c b = record { client = c; stateid = no_stateid; taken = b; reclaimed = b }

abbrev pub client_of : Intent → Client
client_of x = x.client

abbrev pub no_intents : List Intent
no_intents = replicate 8 no_intent

-- ---- tests
abbrev pub is_intent : Client → Intent → Bool
is_intent c x = cond x.taken (eqb x.client c) false

abbrev pub is_free : Intent → Bool
is_free x = not x.taken

abbrev pub is_kept : Intent → Bool
is_kept x = cond x.taken x.reclaimed false

-- one that was not reclaimed (Rules 4.6)
abbrev pub is_lost : Intent → Bool
is_lost x = cond x.taken (not x.reclaimed) false

-- ---- stateids (02, Ticket 13), of which one with the seqid 0 is none
abbrev pub is_stated : Stateid → Bool
is_stated t = not (eqb t.seqid 0)

-- whether a place has the `other` of t
abbrev pub uses_other : Stateid → Intent → Bool
uses_other t x = cond x.taken (cond (is_stated x.stateid) (has_other t x.stateid) false) false

-- whether it has the first 8 bytes of that `other`, whatever else it has
abbrev pub is_near : Stateid → Intent → Bool
is_near t x = eqb x.stateid.high t.high

-- the stateid of the place that was found
abbrev pub stateid_at : List Intent → Option ℕ → Stateid
stateid_at xs None = no_stateid
stateid_at xs (Some i) = (get_or xs i no_intent).stateid

-- ---- all eight
-- the free places are last
abbrev pub first_taken : List Intent → Bool
first_taken xs = (get_or xs 0 no_intent).taken

-- ---- changes
abbrev pub with_reclaimed : Bool → Intent → Intent
with_reclaimed b x = record { client = x.client; stateid = x.stateid; taken = x.taken; reclaimed = b }

-- every place of the client is changed, so that nothing hangs on there being one only
abbrev pub reclaimed_if : Client → Intent → Intent
reclaimed_if c x = with_reclaimed (cond (is_intent c x) true x.reclaimed) x

-- a restart ends the stateid too
abbrev pub unreclaimed_intent : Intent → Intent
unreclaimed_intent x = record { client = x.client; stateid = no_stateid; taken = x.taken; reclaimed = false }

-- the intent of one that stays at the end of grace
abbrev pub stayed_intent : Intent → Intent
stayed_intent x = stayed_of (client_of x) true

-- the client's places get the stateid t (02, Ticket 13)
abbrev pub stated_if : Client → Stateid → Intent → Intent
stated_if c t x = record { client = x.client; stateid = cond (is_intent c x) t x.stateid; taken = x.taken; reclaimed = x.reclaimed }
