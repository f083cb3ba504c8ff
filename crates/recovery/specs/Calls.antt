-- DEFINITION. The calls of a history, with what the host passes and the buffers that it lends, what each call is answered, and how a listing fills its
-- slices (Rules 5.1), in this order.
use Rattle.std.specs.Prelude.{List, cond, ℕ, length, leb}
use Rattle.statuses.specs.Names.{Bytes, Status, Client, FileNumber}
use Rattle.places.specs.Lists.{fill}
use Rattle.mirroring.specs.declared.totals.Totals.{Totals}
use Rattle.mirroring.specs.declared.source.Direction.{Direction}
use Rattle.recovery.specs.declared.listing.Listing.{Listing}

-- the mirrors are 16 bytes a device, and a proxy's device is 16 (Rules 4.9); a client's stateid is set up by an `other` of 12 (Rules 4.12); a listing is told which list is meant and by which direction a source is looked for, and lent a slice of file numbers and a slice of sources
pub data Call : Type 0 where
  register : (file : FileNumber) (mirrors : Bytes) → Call
  opening reclaim close : (file : FileNumber) (client : Client) → Call
  set_up : (file : FileNumber) (client : Client) (other : Bytes) → Call
  repaired remove_proxy forget : (file : FileNumber) → Call
  add_proxy : (file : FileNumber) (device : Bytes) → Call
  end_grace restart : Call
  layout_return : (file : FileNumber) (client : Client) (request reply : Bytes) → Call
  listing : (which : Listing) (direction : Direction) (numbers : List FileNumber) (sources : List ℕ) → Call

-- a LAYOUTRETURN answers a status, or is handed on, with its report's totals by mirror (Rules 3.11) and the reply buffer afterwards; a listing its status, its
-- count and both slices afterwards
pub data Answer : Type 0 where
  said : (status : Status) → Answer
  replied : (status : Status) (totals : Totals) (reply : Bytes) → Answer
  handed_on : (totals : Totals) (reply : Bytes) → Answer
  listed : (status : Status) (count : ℕ) (numbers : List FileNumber) (sources : List ℕ) → Answer

-- a listing fills the two slices that it is lent, a and b, or neither; later places stay
unfoldable pub lend : List FileNumber → List ℕ → List FileNumber → List ℕ → Answer
lend ns ss a b =
    cond (leb (length ns) (length a))
    (cond (leb (length ns) (length b)) (listed 0 (length ns) (fill ns a) (fill ss b)) (listed 28 0 a b))
    (listed 28 0 a b)
