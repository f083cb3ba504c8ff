-- The bytes of the ledger's stateids: `bytewise : Bytewise`.
use mathlib.Core.Path.{◌≡◌, refl, sym, ap, ap₂, ◌∙◌}
use mathlib.Core.Bool.{Bool, true, false, cond}
use mathlib.Core.List.{List, ◌++◌, append_assoc}
use Prim.Native.Nat.{ℕ, ◌+◌}
use native.Mathlib.Omega.{arith}
use lib.ListN.{length, take, drop, length-drop, take-append-drop}
use lib.Seq.{get_or-drop, drop-drop, drop_at, take_all}
use lib.Dec.{eqb}
use borrow.Author.Tests.{eq-eqb, eqb-true}
use Rattle.xdr.specs.Be.{be_nat, be_bytes}
use Rattle.xdr.proofs.Be.{written_back, written_at, length-bytes}
use Rattle.wire.specs.Stateid.{Stateid, other, stateid_of, stateid_bytes, new_stateid, has_other, raised_stateid}
use Rattle.wire.specs.declared.stateid.Stateid as declared
use Rattle.places.proofs.Sets.{true-false}
use Rattle.ledger.specs.Others.{Other, Bytewise}

-- ---- twelve bytes and their two numbers
numbers : (s : List ℕ) → Other s → be_bytes 8 (be_nat 8 s) ++ be_bytes 4 (be_nat 4 (drop 8 s)) ≡ s
numbers s h =
    let last : take 4 (drop 8 s) ≡ drop 8 s = take_all 4 (drop 8 s) (rw length-drop (omega (arith, h.size))) in
    rw (written_back 8 s (omega (arith, h.size)) h.small, written_at 4 8 s (omega (arith, h.size)) h.small, last) (take-append-drop 8 s)

rest : (s : List ℕ) → Stateid s → Other (other s)
rest s h = record { size = rw length-drop (omega (arith, h.size)); small = λ k. rw get_or-drop (h.small (4 + k)) }

-- ---- bytes of a stateid
bytes_of : (t : declared.Stateid) → stateid_bytes t ≡ be_bytes 4 t.seqid ++ (be_bytes 8 t.high ++ be_bytes 4 t.low)
unfolding stateid_bytes
bytes_of t = append_assoc (be_bytes 4 t.seqid) (be_bytes 8 t.high) (be_bytes 4 t.low)

other-of : (t : declared.Stateid) → other (stateid_bytes t) ≡ be_bytes 8 t.high ++ be_bytes 4 t.low
other-of t = ap other (bytes_of t) ∙ drop_at (be_bytes 4 t.seqid) (be_bytes 8 t.high ++ be_bytes 4 t.low) 4 (length-bytes 4 t.seqid)

new-bytes : (s : List ℕ) → Other s → stateid_bytes (new_stateid s) ≡ be_bytes 4 1 ++ s
unfolding new_stateid
new-bytes s h = rw (eq-eqb (length s) 12 h.size) (bytes_of _ ∙ ap (λ (l : List ℕ). be_bytes 4 1 ++ l) (numbers s h))

-- the two numbers of a stateid that is sent are those of its `other`
sent-other : (s : List ℕ) → Stateid s → be_bytes 8 (stateid_of s).high ++ be_bytes 4 (stateid_of s).low ≡ other s
unfolding stateid_of
sent-other s h = rw (← drop-drop 8 4 s) (numbers (drop 4 s) (rest s h))

sent-bytes : (s : List ℕ) → Stateid s → stateid_bytes (stateid_of s) ≡ s
unfolding stateid_of
sent-bytes s h =
    bytes_of (stateid_of s) ∙ ap₂ {C = List ℕ} (λ (a b : List ℕ). a ++ b) (written_back 4 s (omega (arith, h.size)) h.small) (sent-other s h) ∙ take-append-drop 4 s

-- ---- the same `other`
by_both : (a b c d : ℕ) → cond (eqb a b) (eqb c d) false ≡ true → (b ≡ a) × (d ≡ c)
by_both a b c d e = by (eqb a b) refl e
  where
    by : (z : Bool) → eqb a b ≡ z → cond z (eqb c d) false ≡ true → (b ≡ a) × (d ≡ c)
    by true z q = (sym (eqb-true a b z), sym (eqb-true c d q))
    by false z q = true-false (sym q)

same_bytes : (s t : List ℕ) → Stateid s → Stateid t → has_other (stateid_of s) (stateid_of t) ≡ true → other s ≡ other t
same_bytes s t h k e =
    let z = by_both (stateid_of t).high (stateid_of s).high (stateid_of t).low (stateid_of s).low e in
    sym (sent-other s h) ∙ ap₂ {C = List ℕ} (λ (a b : ℕ). be_bytes 8 a ++ be_bytes 4 b) z.0 z.1 ∙ sent-other t k

same_numbers : (s t : List ℕ) → other s ≡ other t → has_other (stateid_of s) (stateid_of t) ≡ true
unfolding stateid_of
same_numbers s t e =
    let low : be_nat 4 (drop 12 t) ≡ be_nat 4 (drop 12 s) = ap (be_nat 4) (sym (drop-drop 8 4 t) ∙ ap (drop 8) (sym e) ∙ drop-drop 8 4 s) in
    rw (eq-eqb (be_nat 8 (drop 4 t)) (be_nat 8 (drop 4 s)) (ap (be_nat 8) (sym e))) (eq-eqb (be_nat 4 (drop 12 t)) (be_nat 4 (drop 12 s)) low)

pub bytewise : Bytewise
bytewise = record {
  given = new-bytes;
  sent = sent-bytes;
  kept = λ t. other-of (raised_stateid t) ∙ sym (other-of t);
  same = λ s t h k. (same_bytes s t h k, same_numbers s t);
}
