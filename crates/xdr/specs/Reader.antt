-- DEFINITION. XDR (RFC 4506; Rules 1) as a list of bytes holds it, read a field at a time in the order of a structure's fields.
--     Read, Reader               a value and the bytes after it, or bytes that are not of the form; what reads one
--     ◌>>=◌, give, only          one reader after another (the lines of a `do`); a value that takes no bytes; the same under a test
--     number, opaque, boolean    fields of fixed size
--     padding, bounded           an opaque field of variable size
--     in_turn, counted            a counted list
use Rattle.std.specs.Prelude.{ℕ, zero, suc, ◌-◌, ◌%◌, List, [], ◌∷◌, Bool, true, false, cond, ◌&&◌, length, take, drop, replicate, ltb, leb, eqb}
use Rattle.xdr.specs.Be.{be_nat}

-- the same bytes, and as many
unfoldable pub same_bytes : List ℕ → List ℕ → Bool
same_bytes [] [] = true
same_bytes [] (b ∷ m) = false
same_bytes (a ∷ l) [] = false
same_bytes (a ∷ l) (b ∷ m) = eqb a b && same_bytes l m

abbrev pub zeros : ℕ → List ℕ
zeros n = replicate n 0

-- ---- readers
pub data Read (A : Type 0) : Type 0 where
  Got : A → List ℕ → Read A
  Bad : Read A

abbrev pub Reader : Type 0 → Type 0
Reader A = List ℕ → Read A

abbrev pub onward : {A B : Type 0} → Read A → (A → Reader B) → Read B
onward (Got a t) k = k a t
onward Bad k = Bad

infixr 5 ◌>>=◌
abbrev pub ◌>>=◌ : {A B : Type 0} → Reader A → (A → Reader B) → Reader B
◌>>=◌ p k s = onward (p s) k

abbrev pub give : {A : Type 0} → A → Reader A
give a s = Got a s

abbrev pub only : {A : Type 0} → Bool → A → Reader A
only b a s = cond b (Got a s) Bad

-- ---- fields
-- an unsigned number of w bytes
unfoldable pub number : ℕ → Reader ℕ
number w s = cond (ltb (length s) w) Bad (Got (be_nat w s) (drop w s))

-- w bytes as they stand
unfoldable pub opaque : ℕ → Reader (List ℕ)
opaque w s = cond (ltb (length s) w) Bad (Got (take w s) (drop w s))

-- 0 or 1
unfoldable pub boolean : Reader ℕ
boolean = do
  x ← number 4
  only (leb x 1) x

-- how many zero bytes follow an opaque field of n bytes
abbrev pub padding : ℕ → ℕ
padding n = (4 - n % 4) % 4

-- an opaque field of at most `limit` bytes: its length, its bytes and its padding
unfoldable pub bounded : ℕ → Reader (List ℕ)
bounded limit = do
  n ← number 4
  size ← only (leb n limit) n
  bytes ← opaque size
  pad ← opaque (padding size)
  only (same_bytes pad (zeros (padding size))) bytes

-- n values in a row
unfoldable pub in_turn : {A : Type 0} → ℕ → Reader A → Reader (List A)
in_turn zero p = give []
in_turn (suc n) p = do
  x ← p
  xs ← in_turn n p
  give (x ∷ xs)

-- a count, and that many values
abbrev pub counted : {A : Type 0} → Reader A → Reader (List A)
counted p = do
  n ← number 4
  in_turn n p
