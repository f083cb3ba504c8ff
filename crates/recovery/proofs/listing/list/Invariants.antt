-- The loop writes what is chosen to the front of both slices: `Counting` and two `Filling` hold at its head.
use Prim.Native.Nat.{◌≤◌}
use Rattle.places.proofs.Loops.{Counting, Filling}
use Rattle.files.specs.File.{source_of}
use Rattle.recovery.specs.Record.{is_wanted, number_of}
use Rattle.recovery.proofs.listing.list.Given as goal

abbrev pub invariant-loop-f : goal.invariant-loop-f
invariant-loop-f l = (l.k ≤ l.f-index) × Counting (is_wanted l.which) l.files l.f-index l.k × Filling (is_wanted l.which) number_of l.files l.f-index l.initial.numbers l.numbers × Filling (is_wanted l.which) (source_of l.direction) l.files l.f-index l.initial.sources l.sources
