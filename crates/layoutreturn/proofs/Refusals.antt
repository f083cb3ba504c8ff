-- No refusal is 0.
use Rattle.std.proofs.Common.{◌≡◌, false, eqb, refl}
use Rattle.statuses.specs.Numbers.{number}
use Rattle.statuses.specs.declared.Status.{Status}
use Rattle.statuses.specs.declared.Status.TheVariants.{NoEnt, Exist, Inval, NoSpc, Stale, Delay, Grace, OldStateid, BadStateid, NoGrace, ReclaimBad, BadXdr, BadIomode, UnknownLayoutType}

pub refusal : (s : Status) → eqb (number s) 0 ≡ false
refusal NoEnt = refl
refusal Exist = refl
refusal Inval = refl
refusal NoSpc = refl
refusal Stale = refl
refusal Delay = refl
refusal Grace = refl
refusal OldStateid = refl
refusal BadStateid = refl
refusal NoGrace = refl
refusal ReclaimBad = refl
refusal BadXdr = refl
refusal BadIomode = refl
refusal UnknownLayoutType = refl
