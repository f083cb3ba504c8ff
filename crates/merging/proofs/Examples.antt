-- Ticket 9 on small lists, computed. In this order: the ticket's own, in which the two that belong together do not stand side by side; two devices; a gap in
-- storage; a gap in the file; read and invalid; holes.
use Prim.Native.Nat.{ℕ}
use mathlib.Core.Path.{◌≡◌, refl}
use mathlib.Core.List.{[], ◌∷◌}
use lib.ListN.{replicate}
use Rattle.xdr.specs.Reader.{same_bytes}
use Rattle.extents.specs.declared.Extent.{Extent}
use Rattle.merging.specs.Merged.{plain, follows, place, joined, merged}

-- an extent: its state, the byte that its device is made of, offset, length, storage offset
abbrev extent : ℕ → ℕ → ℕ → ℕ → ℕ → Extent
extent st dev off len sto = record { device = replicate 16 dev; offset = off; len = len; storage = sto; state = st }

pub not-side-by-side : merged (extent 1 7 0 10 100 ∷ extent 2 7 0 5 500 ∷ extent 1 7 10 10 110 ∷ []) ≡ extent 1 7 0 20 100 ∷ extent 2 7 0 5 500 ∷ []
unfolding same_bytes plain follows place joined
not-side-by-side = refl

pub two-devices : merged (extent 0 7 0 10 100 ∷ extent 0 8 10 10 110 ∷ []) ≡ extent 0 7 0 10 100 ∷ extent 0 8 10 10 110 ∷ []
unfolding same_bytes plain follows place joined
two-devices = refl

pub gap-in-storage : merged (extent 0 7 0 10 100 ∷ extent 0 7 10 10 111 ∷ []) ≡ extent 0 7 0 10 100 ∷ extent 0 7 10 10 111 ∷ []
unfolding same_bytes plain follows place joined
gap-in-storage = refl

pub gap-in-file : merged (extent 0 7 0 10 100 ∷ extent 0 7 11 10 110 ∷ []) ≡ extent 0 7 0 10 100 ∷ extent 0 7 11 10 110 ∷ []
unfolding same_bytes plain follows place joined
gap-in-file = refl

pub read-and-invalid : merged (extent 1 7 0 10 100 ∷ extent 2 7 10 10 110 ∷ []) ≡ extent 1 7 0 10 100 ∷ extent 2 7 10 10 110 ∷ []
unfolding same_bytes plain follows place joined
read-and-invalid = refl

pub holes : merged (extent 3 7 0 10 100 ∷ extent 3 8 10 10 5 ∷ []) ≡ extent 3 0 0 20 0 ∷ []
unfolding same_bytes plain follows place joined
holes = refl
