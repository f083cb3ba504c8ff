-- MODEL. What the code answers, which has no number for 0, as the data that the definitions answer: what is decided before any file is looked at, and what a file
-- says of a return's client.
use Rattle.std.specs.Prelude.{ℕ, Bool, cond, Result, Ok, Err}
use Rattle.statuses.specs.Numbers.{number, code}
use Rattle.statuses.specs.declared.Status.{Status}
use Rattle.layoutreturn.specs.LayoutReturn as model
use Rattle.layoutreturn.specs.OneWalk as walk
use Rattle.layoutreturn.specs.declared.Claim.{Claim}
use Rattle.layoutreturn.specs.declared.Decision.{Decision}
use Rattle.layoutreturn.specs.declared.Decision.TheVariants.{HandedOn, ReadBody, ReturnBody}

abbrev pub decision_as : Result Decision Status → model.Decision
decision_as (Ok HandedOn) = model.HandedOn
decision_as (Ok (ReadBody len)) = model.ReadBody len
decision_as (Ok (ReturnBody len)) = model.ReturnBody len
decision_as (Err s) = model.Answered (number s)

-- what is handed in, where what is answered is any number, of a status or not
abbrev pub numbered_as : Result Decision ℕ → model.Decision
numbered_as (Ok d) = decision_as (Ok d)
numbered_as (Err k) = model.Answered k

-- a body of so many bytes is read, by an ordinary return or another
abbrev pub body_of : Bool → ℕ → model.Decision
body_of b len = cond b (model.ReturnBody len) (model.ReadBody len)

abbrev pub claim_as : Claim → walk.Claim
claim_as c = record { barred = code c.barred; late = code c.late; own = c.own }
