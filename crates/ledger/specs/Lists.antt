-- DEFINITION. The list rule as what it means (Rules 5.6, 5.7): the resilver list gives each file that needs repair once, by rising number, with
-- its source; the other list keeps only files with no intent.
use Rattle.std.specs.Prelude.{◌≡◌, List, [], ◌∷◌, Bool, true, false, cond, ℕ, ◌<◌, length}
use Rattle.statuses.specs.Names.{FileNumber}
use Rattle.places.specs.Lists.{has, Rising}
use Rattle.mirroring.specs.declared.source.Direction.{Direction}
use Rattle.mirroring.specs.declared.source.Direction.TheVariants.{Lowest, Highest}
use Rattle.ledger.specs.Ledger.{Row, Ledger, registered, row_of, numbers, sources}

-- whether the place i comes before s by a direction
abbrev pub Nearer : Direction → ℕ → ℕ → Type 0
Nearer Lowest i s = i < s
Nearer Highest i s = s < i

-- s is the source of a row: the first mirror place not blamed, by the direction, or 255 if there is none; an ordinary mirror is meant, and never the proxy
pub data IsSource (d : Direction) (w : Row) (s : ℕ) : Type 0 where
  foremost : s < length w.mirrors → has s w.blamed ≡ false → ((i : ℕ) → i < length w.mirrors → Nearer d i s → has i w.blamed ≡ true) → IsSource d w s
  nowhere : s ≡ 255 → ((i : ℕ) → i < length w.mirrors → has i w.blamed ≡ true) → IsSource d w s

-- each file of a list with its source
pub data Sources (d : Direction) (l : Ledger) : List FileNumber → List ℕ → Type 0 where
  sources-nil : Sources d l [] []
  sources-cons : {n : FileNumber} {s : ℕ} {ns : List FileNumber} {ss : List ℕ} → IsSource d (row_of n l) s → Sources d l ns ss → Sources d l (n ∷ ns) (s ∷ ss)

-- whether the file n has a row, and one that passes
abbrev pub row_passes : (Row → Bool) → FileNumber → Ledger → Bool
row_passes q n l = cond (registered n l) (q (row_of n l)) false

-- ns and ss are the list of those that pass: strictly rising, a file is there exactly when its row passes, and each has its source
pub record IsList (d : Direction) (q : Row → Bool) (l : Ledger) (ns : List FileNumber) (ss : List ℕ) : Type 0 where
  pub rising : Rising ns
  pub exactly : (n : FileNumber) → has n ns ≡ row_passes q n l
  pub each : Sources d l ns ss

-- the list is such a list, and there is no other
pub record OneList (d : Direction) (q : Row → Bool) (l : Ledger) (ws : List Row) : Type 0 where
  pub is : IsList d q l (numbers ws) (sources d ws)
  pub only : (ns : List FileNumber) (ss : List ℕ) → IsList d q l ns ss → (ns ≡ numbers ws) × (ss ≡ sources d ws)
