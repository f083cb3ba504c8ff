-- The files before the index are changed.
use Rattle.std.proofs.Common.{◌≡◌}
use Rattle.records.proofs.Each.{done}
use Rattle.files.specs.File.{restarted_file}
use Rattle.capi.proofs.sc_record_restart.Given as goal

abbrev pub invariant-loop-f : goal.invariant-loop-f
invariant-loop-f l = l.f-items ≡ done restarted_file l.f-index l.initial.f-items
