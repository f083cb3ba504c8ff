-- DEFINITION. A list that C asks for by the number of a direction (Rules 5.7, 7.7; 02, Ticket 11): 0 asks for none, which is the highest; 1 is the lowest and 2 the
-- highest; any other gets 22, count 0 and both slices as they were.
use Rattle.std.specs.Prelude.{ℕ, Bool, cond, not, List, [], ◌∷◌, ◌==◌, nat_le, Result, Ok, Err}
use Rattle.statuses.specs.Names.{FileNumber}
use Rattle.statuses.specs.declared.Status.{Status}
use Rattle.statuses.specs.declared.Status.TheVariants.{Inval}
use Rattle.statuses.specs.Rules.{◌⇒◌, first_of}
use Rattle.mirroring.specs.declared.source.Direction.{Direction}
use Rattle.mirroring.specs.declared.source.Direction.TheVariants.{Lowest, Highest}
use Rattle.recovery.specs.Calls.{Answer, listed}
use Rattle.recovery.specs.Record.{listing_of}
use Rattle.recovery.specs.declared.listing.Listing.{Listing}
use Rattle.recovery.specs.declared.record.Record.{Record}

abbrev pub is_direction : ℕ → Bool
is_direction n = nat_le n 2

abbrev pub direction_of : ℕ → Direction
direction_of n = cond (n == 1) Lowest Highest

-- what the code answers: a direction, or a refusal
abbrev pub asked_by : ℕ → Result Direction Status
asked_by n = cond (is_direction n) (Ok (direction_of n)) (Err Inval)

unfoldable pub listing_by : Listing → ℕ → Record → List FileNumber → List ℕ → Answer
listing_by k n r a b = first_of (not (is_direction n) ⇒ listed 22 0 a b ∷ []) (listing_of k (direction_of n) r a b)
