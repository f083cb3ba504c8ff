-- DEFINITION. Refusal 10034 of a LAYOUTCOMMIT (Rules 2.19): a committed byte is under neither invalid nor read-write. In this order: the sentence over bytes; the
-- same as a test at the cuts of the definition (`all_cuts`); the claim that the two are equal.
use Rattle.std.specs.Prelude.{ℕ, ◌≡◌, List, [], ◌∷◌, ◌⊎◌, ◌↔◌, Bool, true, false, not, ◌&&◌, ◌||◌, eqb}
use Rattle.extents.specs.Extents.{any_of}
use Rattle.extents.specs.Sentences.{Covers}
use Rattle.extents.specs.declared.Extent.{Extent}
use Rattle.merging.specs.Meaning.{Some}
use Rattle.committing.specs.Ranges.{Range, Committed}
use Rattle.committing.specs.Commit.{is_committed, lies, all_cuts}

-- an extent over the byte x that is read-write or invalid
pub record Writable (x : ℕ) (e : Extent) : Type 0 where
  pub state-is : (e.state ≡ 0) ⊎ (e.state ≡ 2)
  pub over : Covers e x

-- some byte is committed, and no such extent lies over it
pub record Bare (rs : List Range) (es : List Extent) : Type 0 where
  pub byte : ℕ
  pub in-range : Committed rs byte
  pub neither : Some (Writable byte) es → ⊥

-- the same at one byte, as a test
abbrev pub writable_at : ℕ → Extent → Bool
writable_at x e = (eqb e.state 0 || eqb e.state 2) && lies x e

abbrev pub bare_at : List Range → List Extent → ℕ → Bool
bare_at rs es x = is_committed rs x && not (any_of (writable_at x) es)

-- at each cut that another comes after
unfoldable pub bare_from : List Range → List Extent → ℕ → List ℕ → Bool
bare_from rs es a [] = false
bare_from rs es a (b ∷ cuts) = bare_at rs es a || bare_from rs es b cuts

unfoldable pub bare_over : List Range → List Extent → List ℕ → Bool
bare_over rs es [] = false
bare_over rs es (a ∷ cuts) = bare_from rs es a cuts

abbrev pub is_bare : List Range → List Extent → Bool
is_bare rs es = bare_over rs es (all_cuts rs es)

-- the test is true just where some byte is bare
abbrev pub BareTold : Type 0
BareTold = (rs : List Range) (es : List Extent) → (is_bare rs es ≡ true) ↔ Bare rs es
