-- DEFINITION. The arguments of a LAYOUTRETURN (LAYOUTRETURN4args, RFC 8881) and steps 1 to 3 (Rules 3.1, 3.2, 3.7).
--     Arguments, arguments     the structures, a line a field
--     refusal_of                step 2
--     Request, answer_of         the answer of steps 1 to 3, and what the code says of it
--     request_of                the answer of steps 1 to 3
--     number_of, kind_of         the same as numbers
--     part_of, body_of           a part of a length from where a body begins; the body, as the part of the request where it lies
use Rattle.std.specs.Prelude.{ℕ, ◌+◌, cond, ◌&&◌, List, [], ◌∷◌, length, take, drop, ◌==◌, nat_le, nat_lt, Result, Ok, Err}
use Rattle.statuses.specs.Names.{Bytes}
use Rattle.statuses.specs.Numbers.{number as status_number}
use Rattle.statuses.specs.declared.Status.{Status}
use Rattle.xdr.specs.Reader.{Read, Got, Bad, Reader, ◌>>=◌, give, only, number, opaque, boolean, bounded}
use Rattle.wire.specs.Stateid.{stateid_kind, kind_number}
use Rattle.wire.specs.declared.request.Kind.{Kind}
use Rattle.wire.specs.declared.request.Request as declared
use Rattle.wire.specs.declared.request.Request.TheVariants as asks

-- what is returned: a file's layout (return type 1), or all of a file system's or of the server's (2, 3)
pub data Returned : Type 0 where
  of_file : (stateid body : List ℕ) → Returned
  of_many : Returned

pub record Arguments : Type 0 where
  pub layout : ℕ
  pub iomode : ℕ
  pub returned : Returned

-- layoutreturn_file4; offset and length are not judged; the body has at most 4,096 bytes
unfoldable pub file_return : Reader Returned
file_return = do
  offset ← number 8
  len ← number 8
  stateid ← opaque 16
  body ← bounded 4096
  give (of_file stateid body)

-- layoutreturn4, by its return type
unfoldable pub return_of : ℕ → Reader Returned
return_of type = cond (type == 1) file_return (only (nat_le 2 type && nat_le type 3) of_many)

-- LAYOUTRETURN4args; the reclaim flag is a boolean that is not judged
unfoldable pub arguments : Reader Arguments
arguments = do
  reclaim ← boolean
  layout ← number 4
  iomode ← number 4
  type ← number 4
  returned ← return_of type
  give (record { layout = layout; iomode = iomode; returned = returned })

-- ---- step 2: the layout type is 4, the iomode 1 to 3; 0 is no refusal
unfoldable pub refusal_of : ℕ → ℕ → ℕ
refusal_of layout iomode = cond (layout == 4) (cond (nat_le 1 iomode && nat_le iomode 3) 0 10049) 10062

-- ---- steps 1 to 3
-- refused in step 1 or 2, with the number; return type 2 or 3, which is handed on; a file's return, with the kind of its stateid and the length of its body
pub data Request : Type 0 where
  Refused : ℕ → Request
  Bulk : Request
  File : Kind → ℕ → Request

-- what the code answers
abbrev pub answer_of : Result declared.Request Status → Request
answer_of (Ok asks.Bulk) = Bulk
answer_of (Ok (asks.File kind n)) = File kind n
answer_of (Err status) = Refused (status_number status)

abbrev pub asked : Returned → Request
asked (of_file stateid body) = File (stateid_kind stateid) (length body)
asked of_many = Bulk

-- what is asked, unless there is a refusal
unfoldable pub unless : ℕ → Request → Request
unless k r = cond (k == 0) r (Refused k)

-- bytes that are not of the form, and spare bytes, are refused before all else
abbrev pub answered : Read Arguments → Request
answered Bad = Refused 10036
answered (Got a (x ∷ rest)) = Refused 10036
answered (Got a []) = unless (refusal_of a.layout a.iomode) (asked a.returned)

unfoldable pub request_of : List ℕ → Request
request_of s = answered (arguments s)

-- the number of a refusal, or 0
abbrev pub number_of : Request → ℕ
number_of (Refused k) = k
number_of Bulk = 0
number_of (File kind n) = 0

-- 0 refused, 1 handed on; from 2 on a file's return, by the kind of its stateid
abbrev pub kind_of : Request → ℕ
kind_of (Refused k) = 0
kind_of Bulk = 1
kind_of (File kind n) = kind_number kind

-- ---- the body lies in the request from byte 52 on; no other request has one
abbrev pub body_at : Request → ℕ
body_at (Refused k) = 0
body_at Bulk = 0
body_at (File kind n) = 52

abbrev pub body_length : Request → ℕ
body_length (Refused k) = 0
body_length Bulk = 0
body_length (File kind n) = n

-- the part of n bytes from there on; empty where it is not all there
unfoldable pub part_of : ℕ → Bytes → Bytes
part_of n s = cond (nat_lt (length s) (52 + n)) [] (take n (drop 52 s))

unfoldable pub body_of : Bytes → Bytes
body_of s = take (body_length (request_of s)) (drop (body_at (request_of s)) s)
