-- Each stateid is of exactly one kind: `one-kind`. In this order: a stateid of a seqid and an `other`; a kind by its tests; the claim; the kind by the numbers: `by-numbers`.
use Rattle.std.proofs.Common.{◌≡◌, ℕ, ◌+◌, ◌-◌, ◌^◌, ◌<◌, ◌≤◌, Bool, true, false, cond, eqb, List, [], ◌++◌, length, get_or, take, drop, sym, refl, ap, ◌∙◌, inl, inr, append-nil, arith, length-drop, take-append-drop, length-take-le, get_or-drop, take_all, drop-drop, drop_at, le-ltb, eqb-true}
use borrow.Author.Tests.{eqb-false}
use Rattle.xdr.specs.Be.{be_nat, be_bytes}
use Rattle.xdr.specs.Reader.{same_bytes, zeros}
use Rattle.xdr.proofs.Be.{read_back, written_back, written_at, length-bytes, number-within, take_below}
use Rattle.xdr.proofs.Bytes.{same-are, are-same, not_same, differ}
use Rattle.wire.specs.Stateid.{seqid, other, ones, current, stateid_kind, stateid_of, stateid_in, Is, Stateid, OneKind}
use Rattle.wire.specs.RequestSteps.{kind_of_numbers}
use Rattle.wire.specs.declared.request.Kind.{Kind}
use Rattle.wire.specs.declared.request.Kind.TheVariants.{Anonymous, Bypass, Current, Invalid, Ordinary}

-- ---- a stateid of seqid n and `other` r
module _ (s : List ℕ) (h : Stateid s) (n : ℕ) (small : n < 256 ^ 4) (r : List ℕ) where
  parts : s ≡ be_bytes 4 n ++ r → (seqid s ≡ n) × (other s ≡ r)
  parts e = (ap seqid e ∙ read_back 4 n r small, ap other e ∙ drop_at (be_bytes 4 n) r 4 (length-bytes 4 n))

  whole : seqid s ≡ n → other s ≡ r → s ≡ be_bytes 4 n ++ r
  whole p q =
      let f : take 4 s ≡ be_bytes 4 n = sym (written_back 4 s (omega (arith, h.size)) h.small) ∙ ap (be_bytes 4) p in
      sym (take-append-drop 4 s) ∙ rw (f, q)

-- the three fixed strings of sixteen bytes
module _ (s : List ℕ) (h : Stateid s) where
  anonymous-parts : s ≡ zeros 16 → Is Anonymous s
  unfolding be_bytes
  anonymous-parts e = parts s h 0 (omega arith) (zeros 12) e

  bypass-parts : s ≡ ones 16 → Is Bypass s
  unfolding be_bytes
  bypass-parts e = parts s h (2 ^ 32 - 1) (omega arith) (ones 12) e

  current-parts : s ≡ current → Is Current s
  unfolding be_bytes
  current-parts e = parts s h 1 (omega arith) (zeros 12) e

  anonymous-whole : Is Anonymous s → s ≡ zeros 16
  unfolding be_bytes
  anonymous-whole i = whole s h 0 (omega arith) (zeros 12) i.0 i.1

  bypass-whole : Is Bypass s → s ≡ ones 16
  unfolding be_bytes
  bypass-whole i = whole s h (2 ^ 32 - 1) (omega arith) (ones 12) i.0 i.1

  current-whole : Is Current s → s ≡ current
  unfolding be_bytes
  current-whole i = whole s h 1 (omega arith) (zeros 12) i.0 i.1

zeros-ones : zeros 12 ≡ ones 12 → ⊥
zeros-ones e = let z : ◌≡◌ {A = ℕ} 0 255 = cc in omega arith

zero_one : ◌≡◌ {A = ℕ} 0 1 → ⊥
zero_one e = omega arith

-- ---- the kind that the tests name is as the RFC says
module _ (s : List ℕ) (h : Stateid s) where
  named : Is (stateid_kind s) s
  unfolding stateid_kind
  named = by (same_bytes s (zeros 16)) (same_bytes s (ones 16)) (same_bytes s current) (same_bytes (other s) (zeros 12)) (same_bytes (other s) (ones 12)) refl refl refl refl refl
    where
      by : (a b c z o : Bool) → same_bytes s (zeros 16) ≡ a → same_bytes s (ones 16) ≡ b → same_bytes s current ≡ c → same_bytes (other s) (zeros 12) ≡ z → same_bytes (other s) (ones 12) ≡ o
          → Is (cond a Anonymous (cond b Bypass (cond c Current (cond z Invalid (cond o Invalid Ordinary))))) s
      by true b c z o p q r t u = anonymous-parts s h (same-are s (zeros 16) p)
      by false true c z o p q r t u = bypass-parts s h (same-are s (ones 16) q)
      by false false true z o p q r t u = current-parts s h (same-are s current r)
      by false false false true o p q r t u =
          let e : other s ≡ zeros 12 = same-are (other s) (zeros 12) t in
          inl (e, λ n. not_same s (zeros 16) p (anonymous-whole s h (n, e)), λ n. not_same s current r (current-whole s h (n, e)))
      by false false false false true p q r t u =
          let e : other s ≡ ones 12 = same-are (other s) (ones 12) u in
          inr (e, λ n. not_same s (ones 16) q (bypass-whole s h (n, e)))
      by false false false false false p q r t u = (not_same (other s) (zeros 12) t, not_same (other s) (ones 12) u)

  -- and a stateid that is as the RFC says of a kind is named so
  as-named : (k : Kind) → Is k s → stateid_kind s ≡ k
  unfolding stateid_kind
  as-named Anonymous i = rw (are-same s (zeros 16) (anonymous-whole s h i))
  as-named Bypass i =
      rw (differ s (zeros 16) (λ e. zeros-ones (sym (anonymous-parts s h e).1 ∙ i.1)), are-same s (ones 16) (bypass-whole s h i))
  as-named Current i =
      rw (differ s (zeros 16) (λ e. zero_one (sym (anonymous-parts s h e).0 ∙ i.0)), differ s (ones 16) (λ e. zeros-ones (sym i.1 ∙ (bypass-parts s h e).1)), are-same s current (current-whole s h i))
  as-named Invalid (inl i) =
      rw (differ s (zeros 16) (λ e. i.1 (anonymous-parts s h e).0), differ s (ones 16) (λ e. zeros-ones (sym i.0 ∙ (bypass-parts s h e).1)), differ s current (λ e. i.2 (current-parts s h e).0), are-same (other s) (zeros 12) i.0)
  as-named Invalid (inr i) =
      rw (differ s (zeros 16) (λ e. zeros-ones (sym (anonymous-parts s h e).1 ∙ i.0)), differ s (ones 16) (λ e. i.1 (bypass-parts s h e).0), differ s current (λ e. zeros-ones (sym (current-parts s h e).1 ∙ i.0)), differ (other s) (zeros 12) (λ e. zeros-ones (sym e ∙ i.0)), are-same (other s) (ones 12) i.0)
  as-named Ordinary i =
      rw (differ s (zeros 16) (λ e. i.0 (anonymous-parts s h e).1), differ s (ones 16) (λ e. i.1 (bypass-parts s h e).1), differ s current (λ e. i.0 (current-parts s h e).1), differ (other s) (zeros 12) i.0, differ (other s) (ones 12) i.1)

-- ---- the claim
pub one-kind : OneKind
one-kind s h k = (as-named s h k, λ e. rw e at (named s h))

-- ---- the kind by the numbers

-- an `other` has the numbers m and n exactly where its bytes are theirs
module _ (s : List ℕ) (h : Stateid s) where
  of-numbers : other s ≡ be_bytes 8 (be_nat 8 (drop 4 s)) ++ be_bytes 4 (be_nat 4 (drop 12 s))
  of-numbers =
      let last : drop 8 (drop 4 s) ≡ take 4 (drop 12 s) = drop-drop 8 4 s ∙ sym (take_all 4 (drop 12 s) (rw length-drop (omega (arith, h.size)))) in
      sym (take-append-drop 8 (drop 4 s)) ∙ rw (last, written_at 8 4 s (omega (arith, h.size)) h.small, written_at 4 12 s (omega (arith, h.size)) h.small)

  module _ (m n : ℕ) (hm : m < 256 ^ 8) (hn : n < 256 ^ 4) (r : List ℕ) (q : be_bytes 8 m ++ be_bytes 4 n ≡ r) where
    numbers_of : other s ≡ r → (be_nat 8 (drop 4 s) ≡ m) × (be_nat 4 (drop 12 s) ≡ n)
    numbers_of e =
        let high : be_nat 8 (drop 4 s) ≡ m = ap (be_nat 8) (e ∙ sym q) ∙ read_back 8 m (be_bytes 4 n) hm in
        let rest : drop 12 s ≡ be_bytes 4 n ++ [] = sym (drop-drop 8 4 s) ∙ ap (drop 8) (e ∙ sym q) ∙ drop_at (be_bytes 8 m) (be_bytes 4 n) 8 (length-bytes 8 m) ∙ sym (append-nil (be_bytes 4 n)) in
        (high, ap (be_nat 4) rest ∙ read_back 4 n [] hn)

    other-is : cond (eqb (be_nat 8 (drop 4 s)) m) (eqb (be_nat 4 (drop 12 s)) n) false ≡ same_bytes (other s) r
    other-is = by (eqb (be_nat 8 (drop 4 s)) m) (eqb (be_nat 4 (drop 12 s)) n) refl refl
      where
        by : (a b : Bool) → eqb (be_nat 8 (drop 4 s)) m ≡ a → eqb (be_nat 4 (drop 12 s)) n ≡ b → cond a b false ≡ same_bytes (other s) r
        by true true x y = sym (are-same (other s) r (of-numbers ∙ rw (eqb-true (be_nat 8 (drop 4 s)) m x, eqb-true (be_nat 4 (drop 12 s)) n y) q))
        by true false x y = sym (differ (other s) r (λ e. eqb-false _ _ y (numbers_of e).1))
        by false b x y = sym (differ (other s) r (λ e. eqb-false _ _ x (numbers_of e).0))

  of-zeros : cond (eqb (be_nat 8 (drop 4 s)) 0) (eqb (be_nat 4 (drop 12 s)) 0) false ≡ same_bytes (other s) (zeros 12)
  unfolding be_bytes
  of-zeros = other-is 0 0 (omega arith) (omega arith) (zeros 12) refl

  of_ones : cond (eqb (be_nat 8 (drop 4 s)) (2 ^ 64 - 1)) (eqb (be_nat 4 (drop 12 s)) (2 ^ 32 - 1)) false ≡ same_bytes (other s) (ones 12)
  unfolding be_bytes
  of_ones = other-is (2 ^ 64 - 1) (2 ^ 32 - 1) (omega arith) (omega arith) (ones 12) refl

  -- the kind that the numbers name is as the RFC says
  as-numbered : Is (kind_of_numbers (stateid_of s)) s
  unfolding kind_of_numbers stateid_of
  as-numbered = rw (of-zeros, of_ones) (by (same_bytes (other s) (zeros 12)) (same_bytes (other s) (ones 12)) (eqb (seqid s) 0) (eqb (seqid s) 1) (eqb (seqid s) (2 ^ 32 - 1)) refl refl refl refl refl)
    where
      by : (z o a c b : Bool) → same_bytes (other s) (zeros 12) ≡ z → same_bytes (other s) (ones 12) ≡ o → eqb (seqid s) 0 ≡ a → eqb (seqid s) 1 ≡ c → eqb (seqid s) (2 ^ 32 - 1) ≡ b
          → Is (cond z (cond a Anonymous (cond c Current Invalid)) (cond o (cond b Bypass Invalid) Ordinary)) s
      by true o true c b p q t u v = (eqb-true _ _ t, same-are _ _ p)
      by true o false true b p q t u v = (eqb-true _ _ u, same-are _ _ p)
      by true o false false b p q t u v = inl (same-are _ _ p, eqb-false _ _ t, eqb-false _ _ u)
      by false true a c true p q t u v = (eqb-true _ _ v, same-are _ _ q)
      by false true a c false p q t u v = inr (same-are _ _ q, eqb-false _ _ v)
      by false false a c b p q t u v = (not_same _ _ p, not_same _ _ q)

-- the numbers of a request's stateid name its kind
pub by-numbers : (s : List ℕ) → 48 ≤ length s → ((k : ℕ) → get_or s k 0 < 256) → kind_of_numbers (stateid_in s) ≡ stateid_kind (take 16 (drop 32 s))
unfolding stateid_in stateid_of
by-numbers s h b =
    let t : List ℕ = take 16 (drop 32 s) in
    let whole : Stateid t = record { size = length-take-le 16 (drop 32 s) (rw length-drop (omega arith)); small = take_below 16 (drop 32 s) (λ k. rw get_or-drop (b (32 + k))) } in
    let same : stateid_in s ≡ stateid_of t =
    rw (le-ltb (length s) 48 h, number-within 8 4 16 (drop 32 s) (omega arith), number-within 4 12 16 (drop 32 s) (omega arith), number-within 4 0 16 (drop 32 s) (omega arith))
    in
    ap kind_of_numbers same ∙ sym (as-named t whole _ (as-numbered t whole))
