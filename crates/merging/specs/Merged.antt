-- DEFINITION. Extents that belong together (Rules 2.13). In this order: a hole without device and storage; when one extent begins just where another
-- ends; the two as one; one more extent among the runs, wherever in the list the one that it follows stands; the merged list.
use Rattle.std.specs.Prelude.{◌+◌, List, [], ◌∷◌, map, Bool, cond, ◌&&◌, ◌||◌, replicate, eqb}
use Rattle.xdr.specs.Reader.{same_bytes}
use Rattle.extents.specs.declared.Extent.{Extent}

-- every hole carries device and storage offset 0
unfoldable pub plain : Extent → Extent
plain e =
    cond (eqb e.state 3)
    (record { device = replicate 16 0; offset = e.offset; len = e.len; storage = 0; state = e.state })
    e

-- of the same state and device, e begins, in the file and in storage, just where a ends; for holes only file ranges count
unfoldable pub follows : Extent → Extent → Bool
follows a e =
    eqb a.state e.state
    && (eqb (a.offset + a.len) e.offset
    && (eqb e.state 3 || same_bytes a.device e.device && eqb (a.storage + a.len) e.storage))

-- a and what follows it, as one
abbrev pub grown : Extent → Extent → Extent
grown a e = record { device = a.device; offset = a.offset; len = a.len + e.len; storage = a.storage; state = a.state }

-- one more extent: it lengthens the run that it follows, or else starts a run
unfoldable pub place : Extent → List Extent → List Extent
place e [] = e ∷ []
place e (a ∷ runs) = cond (follows a e) (grown a e ∷ runs) (a ∷ place e runs)

-- extent by extent
unfoldable pub joined : List Extent → List Extent → List Extent
joined runs [] = runs
joined runs (e ∷ es) = joined (place e runs) es

abbrev pub merged : List Extent → List Extent
merged es = joined [] (map plain es)
