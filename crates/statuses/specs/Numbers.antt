-- DEFINITION. The numbers of statuses (RFC 8881, 15.1), and the number of an answer: 0, or that of the refusal.
use Rattle.std.specs.Prelude.{ℕ, Result, Ok, Err}
use Rattle.statuses.specs.declared.Status.{Status}
use Rattle.statuses.specs.declared.Status.TheVariants.{NoEnt, Exist, Inval, NoSpc, Stale, Delay, Grace, OldStateid, BadStateid, NoGrace, ReclaimBad, BadXdr, BadIomode, UnknownLayoutType}

abbrev pub number : Status → ℕ
number NoEnt = 2
number Exist = 17
number Inval = 22
number NoSpc = 28
number Stale = 70
number Delay = 10008
number Grace = 10013
number OldStateid = 10024
number BadStateid = 10025
number NoGrace = 10033
number ReclaimBad = 10034
number BadXdr = 10036
number BadIomode = 10049
number UnknownLayoutType = 10062

abbrev pub code : {A : Type 0} → Result A Status → ℕ
code (Ok _) = 0
code (Err status) = number status
