-- MODEL. The source among a file's places: those of ordinary mirrors, those of them that can be copied from, and the first by the direction.
use Rattle.std.specs.Prelude.{List, [], ◌∷◌, cond, ℕ, suc, take}
use Rattle.mirroring.specs.Direction.{first_by}
use Rattle.mirroring.specs.Mirrors.{is_good}
use Rattle.mirroring.specs.declared.mirrors.Mirror.{Mirror}
use Rattle.mirroring.specs.declared.source.Direction.{Direction}

-- the first four places, so that the proxy's is never the source
abbrev pub ordinary : List Mirror → List Mirror
ordinary ms = take 4 ms

-- the list's first is place k
unfoldable pub good_from : ℕ → List Mirror → List ℕ
good_from k [] = []
good_from k (m ∷ ms) = cond (is_good m) (k ∷ good_from (suc k) ms) (good_from (suc k) ms)

unfoldable pub source_in : Direction → List Mirror → ℕ
source_in d ms = first_by d (good_from 0 (ordinary ms))
