-- MODEL of the code: the tests of a request at the places of its fields. proofs/RequestModel.antt proves that they give `request_of`.
--     file_as, form_as               what `file_laid_out` and `laid_out` answer, as a form
--     file_form, form_of             step 1, as `file_laid_out` and `laid_out` answer it
--     kind_in, judged_in             the stateid, layout type and iomode in their places
--     kind_of_numbers                the kind of a stateid by its numbers, as `kind_of` tests them; proofs/Stateids.antt proves that it is `stateid_kind`
--     request_in                    steps 1 to 3 from these
use Rattle.std.specs.Prelude.{ℕ, ◌+◌, ◌-◌, ◌^◌, false, cond, ◌&&◌, List, length, take, drop, ◌==◌, nat_le, nat_lt, Option, Some, None}
use Rattle.xdr.specs.Be.{be_nat}
use Rattle.xdr.specs.Reader.{same_bytes, zeros, padding}
use Rattle.wire.specs.Stateid.{stateid_kind}
use Rattle.wire.specs.Request.{Request, Refused, Bulk, File, refusal_of, unless}
use Rattle.wire.specs.Form.{Form}
use Rattle.wire.specs.Form as form
use Rattle.wire.specs.declared.request.Form as declared
use Rattle.wire.specs.declared.request.Form.TheVariants as laid
use Rattle.wire.specs.declared.request.Kind.{Kind}
use Rattle.wire.specs.declared.request.Kind.TheVariants.{Anonymous, Bypass, Current, Invalid, Ordinary}
use Rattle.wire.specs.declared.stateid.Stateid.{Stateid}

-- what the code says of step 1, for return type 1 and for any
abbrev pub file_as : Option ℕ → Form
file_as None = form.Malformed
file_as (Some n) = form.File n

abbrev pub form_as : Option declared.Form → Form
form_as None = form.Malformed
form_as (Some laid.Bulk) = form.Bulk
form_as (Some (laid.File n)) = form.File n

-- return type 1: at most 4,096 bytes of body, its padding, and nothing more
unfoldable pub file_form : List ℕ → Form
file_form s =
    cond (nat_lt (length s) 52) form.Malformed
    (cond (nat_lt 4096 (be_nat 4 (drop 48 s))) form.Malformed
    (cond (nat_lt (length s) (52 + be_nat 4 (drop 48 s))) form.Malformed
    (cond (same_bytes (drop (52 + be_nat 4 (drop 48 s)) s) (zeros (padding (be_nat 4 (drop 48 s))))) (form.File (be_nat 4 (drop 48 s))) form.Malformed)))

unfoldable pub form_of : List ℕ → Form
form_of s =
    cond (nat_lt (length s) 16) form.Malformed
    (cond (nat_lt 1 (be_nat 4 s)) form.Malformed
    (cond (be_nat 4 (drop 12 s) == 1) (file_form s)
    (cond (nat_le 2 (be_nat 4 (drop 12 s)) && nat_le (be_nat 4 (drop 12 s)) 3) (cond (length s == 16) form.Bulk form.Malformed) form.Malformed)))

-- the stateid lies from byte 32 on
unfoldable pub kind_in : List ℕ → Kind
kind_in s = stateid_kind (take 16 (drop 32 s))

-- whether the `other` is all zeros, then whether it is all ones, then the seqid
unfoldable pub kind_of_numbers : Stateid → Kind
kind_of_numbers t =
    cond (cond (t.high == 0) (t.low == 0) false) (cond (t.seqid == 0) Anonymous (cond (t.seqid == 1) Current Invalid))
    (cond (cond (t.high == 2 ^ 64 - 1) (t.low == 2 ^ 32 - 1) false) (cond (t.seqid == 2 ^ 32 - 1) Bypass Invalid) Ordinary)

-- layout type and iomode lie from bytes 4 and 8 on
unfoldable pub judged_in : List ℕ → Request → Request
judged_in s r = unless (refusal_of (be_nat 4 (drop 4 s)) (be_nat 4 (drop 8 s))) r

abbrev pub answer_in : List ℕ → Form → Request
answer_in s form.Malformed = Refused 10036
answer_in s form.Bulk = judged_in s Bulk
answer_in s (form.File n) = judged_in s (File (kind_in s) n)

unfoldable pub request_in : List ℕ → Request
request_in s = answer_in s (form_of s)
