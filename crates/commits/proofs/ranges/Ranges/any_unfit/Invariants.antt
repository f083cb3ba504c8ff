-- any_unfit: at each turn what is refused of the ranges to come is what is refused of all.
use Prim.Native.Nat.{◌-◌}
use mathlib.Core.Path.{◌≡◌}
use Rattle.extents.specs.Extents.{list_from}
use Rattle.committing.specs.Ranges.{range_at, any_unfit}
use Rattle.commits.proofs.ranges.Ranges.any_unfit.Given as goal

abbrev pub invariant-loop-k : goal.invariant-loop-k
invariant-loop-k l = any_unfit l.block l.before (list_from (range_at l.self.list.now) (l.self.count - l.k) l.k) ≡ any_unfit l.block 0 (list_from (range_at l.self.list.now) l.self.count 0)
