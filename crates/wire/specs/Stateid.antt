-- DEFINITION. The kinds of stateid (stateid4, RFC 8881, 8.2.3; Rules 3.13): sixteen bytes, a seqid of 4 and an `other` of 12. In this order:
--     seqid, other, ones, current     the two fields; bytes that are all ones; the string of the current stateid
--     stateid_kind            which kind a stateid is: the first of the fixed strings that its bytes, or those of its `other`, are
--     kind_number             the number of a kind in C
--     stateid_of, stateid_bytes         the two fields as numbers (the `other` as its first 8 and last 4 bytes), from sixteen bytes and back
--     stateid_in                       the stateid of a request, which lies from byte 32 on; zeros where it is not all there
--     new_stateid, bad_other            the first stateid of an `other` that a caller gives; one that is not 12 bytes, all zeros or all ones (02, Ticket 13)
--     has_other, raised_stateid         whether a stateid has another's `other`; the one with the next seqid
--     Is, OneKind            what the RFC says of each kind, by seqid and `other`; the claim that each stateid is of exactly one kind, the one that
--                            `stateid_kind` names. proofs/Stateids.antt proves it
use Rattle.std.specs.Prelude.{◌≡◌, ℕ, ◌-◌, ◌^◌, ◌<◌, Bool, true, false, cond, not, ◌⊎◌, ◌↔◌, [], ◌∷◌, ◌++◌, length, drop, replicate, ◌==◌, ◌≢◌, nat_lt, slice_index}
use Rattle.statuses.specs.Names.{Bytes}
use Rattle.statuses.specs.Rules.{◌⇒◌, first_of}
use Rattle.xdr.specs.Be.{be_nat, be_bytes}
use Rattle.xdr.specs.Reader.{same_bytes, zeros}
use Rattle.wire.specs.Seqid.{raised_seqid}
use Rattle.wire.specs.declared.request.Kind.{Kind}
use Rattle.wire.specs.declared.request.Kind.TheVariants.{Anonymous, Bypass, Current, Invalid, Ordinary}
use Rattle.wire.specs.declared.stateid.Stateid as declared

abbrev pub seqid : Bytes → ℕ
seqid s = be_nat 4 s

abbrev pub other : Bytes → Bytes
other s = drop 4 s

abbrev pub ones : ℕ → Bytes
ones n = replicate n 255

-- seqid 1 and `other` all zeros
abbrev pub current : Bytes
current = 0 ∷ 0 ∷ 0 ∷ 1 ∷ zeros 12

unfoldable pub stateid_kind : Bytes → Kind
stateid_kind s =
    first_of
    (same_bytes s (zeros 16) ⇒ Anonymous
    ∷ same_bytes s (ones 16) ⇒ Bypass
    ∷ same_bytes s current ⇒ Current
    ∷ same_bytes (other s) (zeros 12) ⇒ Invalid
    ∷ same_bytes (other s) (ones 12) ⇒ Invalid
    ∷ [])
    Ordinary

abbrev pub kind_number : Kind → ℕ
kind_number Ordinary = 2
kind_number Anonymous = 3
kind_number Bypass = 4
kind_number Current = 5
kind_number Invalid = 6

-- ---- as numbers
abbrev pub no_stateid : declared.Stateid
no_stateid = record { high = 0; low = 0; seqid = 0 }

unfoldable pub stateid_of : Bytes → declared.Stateid
stateid_of s = record { high = be_nat 8 (drop 4 s); low = be_nat 4 (drop 12 s); seqid = be_nat 4 s }

unfoldable pub stateid_bytes : declared.Stateid → Bytes
stateid_bytes t = be_bytes 4 t.seqid ++ be_bytes 8 t.high ++ be_bytes 4 t.low

unfoldable pub stateid_in : Bytes → declared.Stateid
stateid_in s = cond (nat_lt (length s) 48) no_stateid (stateid_of (drop 32 s))

unfoldable pub new_stateid : Bytes → declared.Stateid
new_stateid s = cond (length s == 12) (record { high = be_nat 8 s; low = be_nat 4 (drop 8 s); seqid = 1 }) no_stateid

unfoldable pub bad_other : Bytes → Bool
bad_other s = cond (not (length s == 12)) true (cond (same_bytes s (zeros 12)) true (same_bytes s (ones 12)))

abbrev pub has_other : declared.Stateid → declared.Stateid → Bool
has_other t u = cond (u.high == t.high) (u.low == t.low) false

abbrev pub raised_stateid : declared.Stateid → declared.Stateid
raised_stateid t = record { high = t.high; low = t.low; seqid = raised_seqid t.seqid }

-- ---- the RFC's words: both fields all zeros; both all ones (read bypass); `other` all zeros with seqid 1; `other` all zeros or all ones with any other
-- seqid; the rest
abbrev pub Is : Kind → Bytes → Type 0
Is Anonymous s = (seqid s ≡ 0) × (other s ≡ zeros 12)
Is Bypass s = (seqid s ≡ 2 ^ 32 - 1) × (other s ≡ ones 12)
Is Current s = (seqid s ≡ 1) × (other s ≡ zeros 12)
Is Invalid s = ((other s ≡ zeros 12) × (seqid s ≢ 0) × (seqid s ≢ 1)) ⊎ ((other s ≡ ones 12) × (seqid s ≢ 2 ^ 32 - 1))
Is Ordinary s = (other s ≢ zeros 12) × (other s ≢ ones 12)

-- sixteen bytes
pub record Stateid (s : Bytes) : Type 0 where
  pub size : length s ≡ 16
  pub small : (k : ℕ) → slice_index s k < 256

abbrev pub OneKind : Type 0
OneKind = (s : Bytes) → Stateid s → (k : Kind) → Is k s ↔ (stateid_kind s ≡ k)
