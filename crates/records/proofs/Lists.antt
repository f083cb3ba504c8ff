-- A test that is known to hold.
use Rattle.std.proofs.Common.{◌≡◌, Bool, true, false, refl}
use lib.Dec.{T as Tᵇ}

pub holds : (t : Bool) → Tᵇ t → t ≡ true
holds true _ = refl
holds false a = absurd a
