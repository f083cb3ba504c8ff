-- No place's sum passes.
use mathlib.Core.Path.{refl}
use Rattle.masks.specs.Mask.{set_of}
use Rattle.mirroring.proofs.totals.Sums.none.Goals as goal

pub returns : goal.returns
unfolding set_of
returns c = refl
