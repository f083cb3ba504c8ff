-- The files before the index are changed and counted.
use Rattle.std.proofs.Common.{◌≡◌, map, take}
use Rattle.records.proofs.Each.{done}
use Rattle.records.proofs.Tallied.{tallied}
use Rattle.files.specs.File.{ended_file, counted_head}
use Rattle.capi.proofs.end_each.Given as goal

abbrev pub invariant-loop-f : goal.invariant-loop-f
invariant-loop-f l = (l.f-items ≡ done ended_file l.f-index l.initial.f-items) × (l.head ≡ tallied (λ f d. counted_head d f) (map ended_file (take l.f-index l.initial.f-items)) l.initial.head)
