-- From the index on the loop leads where it leads from the first place.
use Rattle.std.proofs.Common.{◌-◌, ◌≡◌}
use Rattle.capi.specs.Whole.{last_in, last_sought}
use Rattle.capi.proofs.last.Given as goal

abbrev pub invariant-loop-i : goal.invariant-loop-i
invariant-loop-i l = last_in l.r.files (63 - l.i) l.i ≡ last_sought l.r l.at
