-- MODEL. What the code answers, which has no number for 0, as the record that the definitions of the calls answer (specs/Record.antt).
use Rattle.std.specs.Prelude.{ℕ, List, Result, Ok, Err}
use Rattle.statuses.specs.Names.{FileNumber}
use Rattle.statuses.specs.Numbers.{number, code}
use Rattle.statuses.specs.declared.Status.{Status}
use Rattle.recovery.specs.Calls.{Answer, listed}
use Rattle.recovery.specs.Record as model
use Rattle.recovery.specs.Record.{answered}
use Rattle.recovery.specs.declared.record.Answered.{Answered}
use Rattle.recovery.specs.declared.record.Record.{Record}

abbrev pub answer_as : Answered → model.Answered
answer_as a = answered (code a.answer) a.after

-- the record that a call leaves, or that it is refused on, r
abbrev pub left_as : Record → Result Record Status → model.Answered
left_as r (Ok after) = answered 0 after
left_as r (Err s) = answered (number s) r

-- a listing: how many places it filled, or a refusal; and both slices afterwards
abbrev pub listed_as : Result ℕ Status → List FileNumber → List ℕ → Answer
listed_as (Ok n) a b = listed 0 n a b
listed_as (Err s) a b = listed (number s) 0 a b
