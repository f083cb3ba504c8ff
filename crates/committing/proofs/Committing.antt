-- TICKET 10 is proved here, of the list after a commit: `committing : Committing`. Ticket 9's theorem gives all but the meaning.
use Prim.Native.Nat.{ℕ}
use mathlib.Core.Path.{◌≡◌}
use mathlib.Core.List.{List}
use native.Mathlib.Omega.{arith}
use lib.ListN.{length}
use Rattle.extents.specs.declared.Extent.{Extent}
use Rattle.merging.specs.Meaning.{stored}
use Rattle.merging.proofs.Rules.{passes-valid, valid-passes}
use Rattle.merging.proofs.Merging.{merging}
use Rattle.committing.specs.Ranges.{Range}
use Rattle.committing.specs.Commit.{sweep, all_cuts}
use Rattle.committing.specs.Committing.{Turned, AfterCommit, turned, kept, Committing}
use Rattle.committing.proofs.Sweep.{swept-valid, swept-says}

-- of a committed byte that was invalid nothing says that it is read
not-read : (rs : List Range) (es : List Extent) (x : ℕ) (device other : List ℕ) (byte at : ℕ) → Turned rs es x device byte → AfterCommit rs es x (stored 1 other at) → ⊥
not-read rs es x device other byte at t (turned d b u q) =
    let z : ◌≡◌ {A = ℕ} 1 0 = cc in
    omega arith
not-read rs es x device other byte at t (kept n s) = n device byte t

pub committing : Committing
committing rs es h =
    let swept : List Extent = sweep rs es (all_cuts rs es) in
    let joins = merging swept (valid-passes swept (swept-valid rs es (passes-valid es (length es) h))) in
    record {
      means = λ x m. (λ s. (swept-says rs es x m).0 ((joins.keeps x m).1 s), λ s. (joins.keeps x m).0 ((swept-says rs es x m).1 s));
      no_read = λ x device other byte at t s. not-read rs es x device other byte at t ((swept-says rs es x (stored 1 other at)).0 ((joins.keeps x (stored 1 other at)).1 s));
      passes = joins.passes;
      shortest = joins.shortest;
      settled = joins.settled;
    }
