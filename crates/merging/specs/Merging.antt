-- DEFINITION. What is asked of the merged list (Rules 2.14; Ticket 9), for every list that passes the checks. In this order: a list that passes rules 3 to 7; one that no
-- list of its meaning is shorter than, whatever that list's length; the four sentences; the claim. The limits on a list's length are the call's.
use Rattle.std.specs.Prelude.{◌≡◌, List, [], ◌≤◌, length}
use Rattle.extents.specs.Extents.{verdict}
use Rattle.extents.specs.declared.Extent.{Extent}
use Rattle.extents.specs.Verdict.{Accepted}
use Rattle.merging.specs.Meaning.{SameMeaning}
use Rattle.merging.specs.Merged.{merged}

-- the checks' own definition accepts it
abbrev pub Passes : List Extent → Type 0
Passes es = verdict [] 0 es ≡ Accepted (length es)

-- no list that passes and has the same meaning is shorter
abbrev pub Shortest : List Extent → Type 0
Shortest es = (fs : List Extent) → Passes fs → SameMeaning es fs → length es ≤ length fs

pub record Merges (es : List Extent) : Type 0 where
  -- every file byte keeps its meaning
  pub keeps : SameMeaning es (merged es)
  -- the result passes the checks
  pub passes : Passes (merged es)
  -- no list that passes them and has the same meaning is shorter
  pub shortest : Shortest (merged es)
  -- merging again changes nothing
  pub settled : merged (merged es) ≡ merged es

abbrev pub Merging : Type 0
Merging = (es : List Extent) → Passes es → Merges es
