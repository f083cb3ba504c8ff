-- What the stores of a reply leave in the lent buffer.
use mathlib.Core.Bool.{true≢false}
use Rattle.std.proofs.Common.{◌&&◌, ◌≡◌, ℕ, ◌+◌, ◌<◌, ◌≤◌, Bool, true, false, cond, eqb, List, ◌++◌, length, sym, refl, ◌∙◌, append_assoc, le-ltb, lt-ltb, eq-eqb, eqb-true}
use lib.Seq.{sets}
use Rattle.xdr.specs.Be.{be_bytes}
use Rattle.xdr.proofs.Be.{length-bytes, sets-append}
use Rattle.xdr.specs.Reader.{zeros}
use Rattle.wire.specs.Stateid.{no_stateid, stateid_bytes}
use Rattle.wire.specs.Reply.{reply_with, reply_in_with, reply_answer}
use Rattle.wire.specs.declared.stateid.Stateid.{Stateid}

-- sixteen zero bytes
pub none-bytes : stateid_bytes no_stateid ≡ zeros 16
unfolding be_bytes stateid_bytes
none-bytes = refl

-- stateids that `==` finds the same are the same
pub same_are : (t u : Stateid) → true ≡ (eqb t.high u.high && (eqb t.low u.low && eqb t.seqid u.seqid)) → t ≡ u
same_are t u e = by (eqb t.high u.high) (eqb t.low u.low) (eqb t.seqid u.seqid) refl refl refl e
  where
    by : (a b c : Bool) → eqb t.high u.high ≡ a → eqb t.low u.low ≡ b → eqb t.seqid u.seqid ≡ c → true ≡ (a && (b && c)) → t ≡ u
    by true true true h l s e = λ i. record { high = eqb-true t.high u.high h i; low = eqb-true t.low u.low l i; seqid = eqb-true t.seqid u.seqid s i }
    by true true false h l s e = absurd (true≢false e)
    by true false c h l s e = absurd (true≢false e)
    by false b c h l s e = absurd (true≢false e)

-- the stateid of three zeros is none
pub none_is : (t : Stateid) → cond (eqb t.high 0) (cond (eqb t.low 0) (eqb t.seqid 0) false) false ≡ true → no_stateid ≡ t
none_is t e = sym (same_are t no_stateid (sym e ∙ nested (eqb t.high 0) (eqb t.low 0) (eqb t.seqid 0)))
  where
    nested : (a b c : Bool) → cond a (cond b c false) false ≡ (a && (b && c))
    nested true true c = refl
    nested true false c = refl
    nested false b c = refl

-- two numbers stored one after the other
next-store : (w x : ℕ) (d : List ℕ) (at : ℕ) (t : List ℕ) → sets d at (be_bytes w x ++ t) ≡ sets (sets d at (be_bytes w x)) (at + w) t
next-store w x d at t = rw (sets-append, length-bytes)

pub stateid-stored : (d : List ℕ) (t : Stateid) → sets (sets (sets d 8 (be_bytes 4 t.seqid)) 12 (be_bytes 8 t.high)) 20 (be_bytes 4 t.low) ≡ sets d 8 (stateid_bytes t)
unfolding stateid_bytes
stateid-stored d t = rw (append_assoc, next-store 4 t.seqid, next-store 8 t.high)

pub accepts : (d : List ℕ) (status : ℕ) (t : List ℕ) → 24 ≤ length d → status ≡ 0 → sets (sets (sets d 0 (be_bytes 4 status)) 4 (be_bytes 4 1)) 8 t ≡ reply_in_with status t d
unfolding reply_in_with reply_with
accepts d status t h z = rw (le-ltb (length d) 24 h, eq-eqb status 0 z, next-store 4 status d 0, next-store 4 1)

-- a buffer that is too short for a reply stays as it was
pub too_short : (d : List ℕ) (status : ℕ) (t : List ℕ) → length d < 24 → (28 ≡ reply_answer status d) × (d ≡ reply_in_with status t d)
unfolding reply_answer reply_in_with
too_short d status t h = (rw (lt-ltb (length d) 24 h), rw (lt-ltb (length d) 24 h))
