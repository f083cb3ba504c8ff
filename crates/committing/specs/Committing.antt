-- DEFINITION. What is asked of the list after a LAYOUTCOMMIT (Rules 2.17, 2.18; Ticket 10), for every commit list and every list that passes the checks. In this
-- order: the meaning of a byte after the commit; the sentences; the claim.
use Rattle.std.specs.Prelude.{ℕ, ◌≡◌, List, ◌↔◌}
use Rattle.extents.specs.declared.Extent.{Extent}
use Rattle.merging.specs.Meaning.{Meaning, stored, Says}
use Rattle.merging.specs.Merged.{merged}
use Rattle.merging.specs.Merging.{Passes, Shortest}
use Rattle.committing.specs.Ranges.{Range, Committed}
use Rattle.committing.specs.Commit.{committed}

-- the byte x is committed, and was invalid (state 2)
pub record Turned (rs : List Range) (es : List Extent) (x : ℕ) (device : List ℕ) (byte : ℕ) : Type 0 where
  pub in-range : Committed rs x
  pub was-invalid : Says es x (stored 2 device byte)

-- such a byte is read-write (state 0) at its own storage, and nothing else is said of it; all others keep their meaning
pub data AfterCommit (rs : List Range) (es : List Extent) (x : ℕ) (m : Meaning) : Type 0 where
  turned : (device : List ℕ) (byte : ℕ) → Turned rs es x device byte → m ≡ stored 0 device byte → AfterCommit rs es x m
  kept : ((device : List ℕ) (byte : ℕ) → Turned rs es x device byte → ⊥) → Says es x m → AfterCommit rs es x m

pub record Commits (rs : List Range) (es : List Extent) : Type 0 where
  -- every file byte has its meaning after the commit
  pub means : (x : ℕ) (m : Meaning) → Says (committed rs es) x m ↔ AfterCommit rs es x m
  -- so no read extent (state 1) covers a committed byte that was invalid
  pub no_read : (x : ℕ) (device other : List ℕ) (byte at : ℕ) → Turned rs es x device byte → Says (committed rs es) x (stored 1 other at) → ⊥
  -- the result passes the checks
  pub passes : Passes (committed rs es)
  -- no list that passes them and has the same meaning is shorter
  pub shortest : Shortest (committed rs es)
  -- and merging it changes nothing
  pub settled : merged (committed rs es) ≡ committed rs es

abbrev pub Committing : Type 0
Committing = (rs : List Range) (es : List Extent) → Passes es → Commits rs es
