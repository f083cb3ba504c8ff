-- The files before the index are changed.
use Rattle.std.proofs.Common.{◌≡◌}
use Rattle.records.proofs.Each.{done}
use Rattle.capi.specs.Whole.{emptied_file}
use Rattle.capi.proofs.set_up.Given as goal

abbrev pub invariant-loop-f : goal.invariant-loop-f
invariant-loop-f l = l.f-items ≡ done emptied_file l.f-index l.initial.f-items
