-- DEFINITION. Seqids (RFC 8881, 8.2.2; Rules 3.14), numbers modulo 2^32. In this order:
--     behind               how far a given seqid is behind the latest
--     Behind               the claim that it is the number that takes the one to the other, the skipped zero counted as a step. proofs/Seqids.antt proves it
--     age_of, raised_seqid   the same, older or newer; the next one
use Rattle.std.specs.Prelude.{◌≡◌, ℕ, ◌+◌, ◌-◌, ◌%◌, ◌^◌, ◌<◌, cond, [], ◌∷◌, ◌==◌, nat_eq, nat_lt}
use Rattle.statuses.specs.Rules.{◌⇒◌, first_of}
use Rattle.wire.specs.declared.seqid.Age.{Age}
use Rattle.wire.specs.declared.seqid.Age.TheVariants.{Same, Older, Newer}

unfoldable pub behind : ℕ → ℕ → ℕ
behind latest given = (latest + (2 ^ 32 - given)) % 2 ^ 32

-- the one number below 2^32 that, added to the given seqid, gives the latest
abbrev pub Behind : Type 0
Behind = (latest given n : ℕ) → latest < 2 ^ 32 → given < 2 ^ 32 → n < 2 ^ 32 → (n + given) % 2 ^ 32 ≡ latest → n ≡ behind latest given

-- 0 means the latest; below 2^31 behind is older, and what is further behind is newer
unfoldable pub age_of : ℕ → ℕ → Age
age_of latest given =
    first_of
    (nat_eq given 0 ⇒ Same
    ∷ nat_eq (behind latest given) 0 ⇒ Same
    ∷ nat_lt (behind latest given) (2 ^ 31) ⇒ Older
    ∷ [])
    Newer

-- after 4294967295 comes 1
unfoldable pub raised_seqid : ℕ → ℕ
raised_seqid n = cond (n == 4294967295) 1 (n + 1)
