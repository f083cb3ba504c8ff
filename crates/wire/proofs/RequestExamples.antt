-- The definition's answers on a few requests, computed: the 120-byte request of paper 01, the order of steps 1 to 3, and the kinds of stateid.
use Rattle.std.proofs.Common.{◌≡◌, ℕ, List, [], ◌∷◌, ◌++◌, map, length, refl}
use Rattle.xdr.specs.Be.{be_nat}
use Rattle.xdr.specs.Reader.{same_bytes, number, opaque, boolean, bounded}
use Rattle.wire.specs.Request.{Refused, Bulk, File, file_return, return_of, arguments, refusal_of, unless, request_of, body_of}
use Rattle.wire.specs.Stateid.{ones, stateid_kind}
use Rattle.wire.specs.declared.request.Kind.TheVariants.{Anonymous, Bypass, Current, Invalid, Ordinary}
use Rattle.reports.proofs.ReportExamples.{blank, one}

abbrev word : ℕ → List ℕ
word n = 0 ∷ 0 ∷ 0 ∷ n ∷ []

-- reclaim flag, layout type, iomode and return type
abbrev head : ℕ → ℕ → ℕ → ℕ → List ℕ
head flag layout iomode type = word flag ++ (word layout ++ (word iomode ++ word type))

-- an ordinary return whose stateid ends in b, with a body of one record and one device error
abbrev whole : ℕ → ℕ → ℕ → List ℕ
whole layout iomode b = head 0 layout iomode 1 ++ (blank 16 ++ (blank 15 ++ (b ∷ (word 68 ++ one))))

pub size_is : length (whole 4 3 0) ≡ 120
size_is = refl

-- in order: the request of 120 bytes; another stateid; the layout type before the iomode; the iomode; spare bytes before both; return type 3;
-- a reclaim flag that is no boolean; return type 4
pub answers :
    map request_of
    (whole 4 3 0
    ∷ whole 4 1 1
    ∷ whole 1 0 0
    ∷ whole 4 4 0
    ∷ (whole 1 0 0 ++ (0 ∷ []))
    ∷ head 1 4 2 3
    ∷ head 2 4 2 3
    ∷ head 0 4 2 4
    ∷ [])
    ≡ File Anonymous 68 ∷ File Ordinary 68 ∷ Refused 10062 ∷ Refused 10049 ∷ Refused 10036 ∷ Bulk ∷ Refused 10036 ∷ Refused 10036 ∷ []
unfolding request_of arguments return_of file_return bounded boolean number opaque refusal_of stateid_kind unless same_bytes be_nat
answers = refl

pub body_is : body_of (whole 4 3 0) ≡ one
unfolding body_of request_of arguments return_of file_return bounded boolean number opaque refusal_of stateid_kind unless same_bytes be_nat
body_is = refl

-- in order: anonymous; read bypass; current; `other` all zeros with seqids 2 and 2^32 - 1; `other` all ones with seqids 0 and 1; one byte of `other` off, the
-- first and the last
pub kinds :
    map stateid_kind
    (blank 16
    ∷ ones 16
    ∷ (word 1 ++ blank 12)
    ∷ (word 2 ++ blank 12)
    ∷ (ones 4 ++ blank 12)
    ∷ (blank 4 ++ ones 12)
    ∷ (word 1 ++ ones 12)
    ∷ (blank 4 ++ (1 ∷ blank 11))
    ∷ (ones 15 ++ (254 ∷ []))
    ∷ [])
    ≡ Anonymous ∷ Bypass ∷ Current ∷ Invalid ∷ Invalid ∷ Invalid ∷ Invalid ∷ Ordinary ∷ Ordinary ∷ []
unfolding stateid_kind same_bytes
kinds = refl
