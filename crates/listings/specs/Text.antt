-- DEFINITION. What list_layout and list_rdma_layout print (Rules 2.11), as bytes. In this order: a number in decimal; an extent's line; the text of an
-- accepted body and of a refusal; the text of an input (over 65,536 bytes: refusal 1); the front of a buffer; a text stored in a buffer.
use Rattle.std.specs.Prelude.{ℕ, zero, suc, ◌+◌, ◌/◌, ◌%◌, ◌≤◌, ◌≡◌, List, [], ◌∷◌, ◌++◌, cond, length, take, ltb}
use Rattle.std.proofs.lemmas.List.Edits.{sets}
use Rattle.extents.specs.Verdict.{Verdict, Accepted, Refused}
use Rattle.layouts.specs.declared.kinds.Kind.{Kind}
use Rattle.layouts.specs.declared.kinds.Kind.TheVariants.{Scsi, Rdma}
use Rattle.statuses.specs.Names.{Bytes}
use Rattle.layouts.specs.Layout.{Row, rows_of, check_body}

-- the decimal digits of a number of at most k digits, with no zero in front
unfoldable pub digits : ℕ → ℕ → Bytes
digits zero x = []
digits (suc k) x = cond (ltb x 10) ((48 + x) ∷ []) (digits k (x / 10) ++ ((48 + x % 10) ∷ []))

-- a 64-bit number has at most 20 digits
abbrev pub decimal : ℕ → Bytes
decimal x = digits 20 x

-- a number, and the byte after it: 32 is a space, 10 the line's end
unfoldable pub number_text : ℕ → ℕ → Bytes
number_text x after = decimal x ++ (after ∷ [])

-- an extent's line: file offset, length, storage offset, state and, of an RDMA extent, the handle
unfoldable pub last_of : Kind → ℕ → ℕ → Bytes
last_of Scsi state handle = number_text state 10
last_of Rdma state handle = number_text state 32 ++ number_text handle 10

unfoldable pub line_of : Kind → Row → Bytes
line_of k r = number_text r.extent.offset 32 ++ (number_text r.extent.len 32 ++ (number_text r.extent.storage 32 ++ last_of k r.extent.state r.handle))

unfoldable pub lines_of : Kind → List Row → Bytes
lines_of k [] = []
lines_of k (r ∷ rs) = line_of k r ++ lines_of k rs

-- `extents N`, and a line each
unfoldable pub accepted_text : Kind → ℕ → List Row → Bytes
accepted_text k n rs = (101 ∷ 120 ∷ 116 ∷ 101 ∷ 110 ∷ 116 ∷ 115 ∷ 32 ∷ []) ++ (number_text n 10 ++ lines_of k rs)

-- `refused NUMBER at PLACE`
unfoldable pub refused_text : ℕ → ℕ → Bytes
refused_text k i = (114 ∷ 101 ∷ 102 ∷ 117 ∷ 115 ∷ 101 ∷ 100 ∷ 32 ∷ []) ++ (number_text k 32 ++ ((97 ∷ 116 ∷ 32 ∷ []) ++ number_text i 10))

abbrev pub text_of : Kind → Verdict → Bytes → Bytes
text_of k (Accepted n) s = accepted_text k n (rows_of k s n)
text_of k (Refused rule place) s = refused_text rule place

-- the whole output for an input that is read as a body of the kind k
unfoldable pub listed : Kind → Bytes → Bytes
listed k s = cond (ltb 65536 (length s)) (refused_text 1 0) (text_of k (check_body k s) s)

-- the first n bytes of a buffer are within it, and are n
abbrev pub IsPrefixLen : ℕ → Bytes → Type 0
IsPrefixLen n xs = (n ≤ length xs) × (n ≡ length (take n xs))

-- the text stands in the buffer from `at` on, the rest is as it was, and r is where the text ends
pub record Put (before : Bytes) (at : ℕ) (text after : Bytes) (r : ℕ) : Type 0 where
  pub ends : r ≡ at + length text
  pub holds : after ≡ sets before at text

-- the text for the input s at the start of the buffer, and its length; a buffer under 109,568 bytes, which no text passes, stays as it was
pub record Listing (k : Kind) (s before after : Bytes) (r : ℕ) : Type 0 where
  pub length-is : r ≡ cond (ltb (length before) 109568) 0 (length (listed k s))
  pub bytes-are : after ≡ cond (ltb (length before) 109568) before (sets before 0 (listed k s))
