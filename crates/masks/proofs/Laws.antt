-- The laws of sets of nodes, over the node and the number of nodes: callers cite these and not the text of a definition. In this order:
--     has_of, set-lt, set-ext, of-has, is_set, has-ext     a set is its nodes, and two with the same nodes are the same
--     has-zero, has-past, has-below            no node is in 0, and none past the last
--     has-plus, has-minus, plus-lt, minus-lt  a node put in or taken out, and the others; both are masks of 32 nodes
--     empty-each, each-empty, within-each, each_within     what the two tests say of each node
--     plus-node, plus-keeps, plus-came, minus-was, minus-out, minus-keeps, minus-same, some-empty, empty-some     the same of a node that is known to be in a set
--     one_shl, shr_is, or_is, shifted_is, xor_is, clear_is, zero_is, and_is     what the code computes is what the definitions say
use mathlib.Core.Path.{◌≡◌, refl, sym, ap, ap₂, ◌∙◌, subst}
use mathlib.Core.Bool.{Bool, true, false, not, cond, ◌&&◌, ◌||◌, xor, false≢true, or-true, and-true, and-false}
use Prim.Native.Nat.{ℕ, zero, suc, ◌+◌, ◌-◌, ◌*◌, ◌/◌, ◌%◌, ◌^◌, ◌<◌, ◌≤◌, min, max, suc-le-suc}
use native.Mathlib.Nat.{zero-lt-suc, pow-suc, one-mul, mod-eq_of_lt, le_of_suc-le-suc, not-suc-le-zero, eq-or-lt_of_le}
use native.Mathlib.Numerals.{add-one}
use native.Mathlib.Omega.{arith}
use lib.Arith.{digits_div, digits_mod, digits_lt}
use lib.Dec.{eqb, leb}
use lib.Pow.{pow_pos, pow-lt, shr_lt}
use lib.Bits.{bit_and, bit_or, bit_xor, or_lt, xor_lt, and_lt}
use borrow.Author.Tests.{leb-true, leb-false, eqb-true, eqb-false, eq-eqb, ne_eqb, not-true, not-false}
use mathlib.Core.Logic.{◌≢◌, ◌⊎◌, inl, inr, ⊎_elim}
use Rattle.std.specs.Int.{w32}
use Rattle.std.proofs.lemmas.Nat.{and_le_l}
use Rattle.std.proofs.lemmas.Nat.Bits.{bit_at_lowest, bit_at-suc, bit_at-zero, bit_at-lt, bit_at_above, shr_and_one, bit_at_and, bit_at_or, bit_at_xor, bit_at-pow_same, bit_at-pow_other, bit_at_clear_same, bit_at_clear_other, same_from_bits_below}
use Rattle.masks.specs.Mask.{digit, has, set_of, all, plus, minus, empty, within}

two_pos : zero < 2
two_pos = zero-lt-suc 1

half_lt : (w m : ℕ) → m < 2 ^ suc w → m / 2 < 2 ^ w
half_lt w m h = shr_lt w 1 (subst (λ (x : ℕ). m < 2 ^ x) (sym (add-one w)) h)

-- ---- booleans, and a place below the next
and_left : (a b : Bool) → (a && b) ≡ true → a ≡ true
and_left true b e = refl
and_left false b e = e

and_right : (a b : Bool) → (a && b) ≡ true → b ≡ true
and_right true b e = e
and_right false b e = absurd (false≢true e)

implies : (a b : Bool) → (a ≡ true → b ≡ true) → (not a || b) ≡ true
implies true b f = f refl
implies false b f = refl

pub same_test : (a b : Bool) → (a ≡ true → b ≡ true) → (b ≡ true → a ≡ true) → a ≡ b
same_test true b f g = sym (f refl)
same_test false true f g = g refl
same_test false false f g = refl

no : (a : Bool) → (a ≡ true → ⊥) → a ≡ false
no true f = absurd (f refl)
no false f = refl

either : (a b : Bool) → (a || b) ≡ true → {X : Type 0} → (b ≡ true → X) → (a ≡ true) ⊎ X
either true b e f = inl refl
either false b e f = inr (f e)

absent : (a b : Bool) → (b ≡ true → a ≡ false) → (a && not b) ≡ a
absent true true f = sym (f refl)
absent true false f = refl
absent false b f = refl

-- ---- a digit
bit : Bool → ℕ
bit b = cond b 1 0

bit-lt : (b : Bool) → bit b < 2
unfolding bit
bit-lt true = omega arith
bit-lt false = omega arith

bit_is : (b : Bool) → eqb (bit b) 1 ≡ b
unfolding bit
bit_is true = refl
bit_is false = refl

is-bit : (x : ℕ) → x < 2 → bit (eqb x 1) ≡ x
unfolding bit
is-bit zero h = refl
is-bit (suc zero) h = refl
is-bit (suc (suc x)) h = absurd (not-suc-le-zero (le_of_suc-le-suc (le_of_suc-le-suc h)))

-- what two tests of a digit say
same-digit : (x y : ℕ) → x < 2 → y < 2 → eqb x 1 ≡ eqb y 1 → x ≡ y
same-digit x y hx hy e = sym (is-bit x hx) ∙ ap bit e ∙ is-bit y hy

-- the first digit of a number, and the others
has_first : (q : ℕ) (b : Bool) → has (q * 2 + bit b) zero ≡ b
unfolding has
has_first q b = ap (λ (x : ℕ). eqb x 1) (bit_at_lowest (q * 2 + bit b) ∙ digits_mod q (bit-lt b)) ∙ bit_is b

has-next : (q : ℕ) (b : Bool) (k : ℕ) → has (q * 2 + bit b) (suc k) ≡ has q k
unfolding has
has-next q b k = ap (λ (x : ℕ). eqb x 1) (bit_at-suc (q * 2 + bit b) k ∙ ap (λ (x : ℕ). digit x k) (digits_div q (bit-lt b)))

-- ---- a set is its nodes
pub has_of : (n : ℕ) (test : ℕ → Bool) (k : ℕ) → k < n → has (set_of n test) k ≡ test k
unfolding set_of bit
has_of zero test k h = absurd (not-suc-le-zero h)
has_of (suc n) test zero h = has_first (set_of n (λ j. test (suc j))) (test 0)
has_of (suc n) test (suc k) h = has-next (set_of n (λ j. test (suc j))) (test 0) k ∙ has_of n (λ j. test (suc j)) k (le_of_suc-le-suc h)

pub set-lt : (n : ℕ) (test : ℕ → Bool) → set_of n test < 2 ^ n
unfolding set_of bit
set-lt zero test = omega arith
set-lt (suc n) test = subst (λ (x : ℕ). set_of n (λ j. test (suc j)) * 2 + bit (test 0) < x) (sym (pow-suc 2 n)) (digits_lt (set-lt n (λ j. test (suc j))) (bit-lt (test 0)))

pub set-ext : (n : ℕ) (a b : ℕ → Bool) → ((k : ℕ) → k < n → a k ≡ b k) → set_of n a ≡ set_of n b
unfolding set_of bit
set-ext zero a b same = refl
set-ext (suc n) a b same = ap₂ (λ (q : ℕ) (t : Bool). q * 2 + bit t) (set-ext n (λ j. a (suc j)) (λ j. b (suc j)) (λ k h. same (suc k) (suc-le-suc h))) (same 0 (zero-lt-suc n))

-- two sets with the same nodes are the same
pub has-ext : (n a b : ℕ) → a < 2 ^ n → b < 2 ^ n → ((k : ℕ) → k < n → has a k ≡ has b k) → a ≡ b
unfolding has
has-ext n a b ha hb same = same_from_bits_below n a b ha hb (λ k h. same-digit (digit a k) (digit b k) (bit_at-lt a k) (bit_at-lt b k) (same k h))

pub of-has : (n m : ℕ) → m < 2 ^ n → set_of n (has m) ≡ m
of-has n m h = has-ext n (set_of n (has m)) m (set-lt n (has m)) h (has_of n (has m))

-- a number whose nodes are those that pass is the set of those that pass
pub is_set : (n m : ℕ) (test : ℕ → Bool) → m < 2 ^ n → ((k : ℕ) → k < n → has m k ≡ test k) → m ≡ set_of n test
is_set n m test h same = has-ext n m (set_of n test) h (set-lt n test) (λ k l. same k l ∙ sym (has_of n test k l))

pub has-zero : (k : ℕ) → has zero k ≡ false
unfolding has
has-zero k = ap (λ (x : ℕ). eqb x 1) (bit_at-zero k)

-- no node past the last
pub has-past : (n m k : ℕ) → m < 2 ^ n → n ≤ k → has m k ≡ false
unfolding has
has-past n m k h l = ap (λ (x : ℕ). eqb x 1) (bit_at_above m n k h l)

pub has-below : (n m k : ℕ) → m < 2 ^ n → has m k ≡ true → k < n
has-below n m k h inside = ⊎_elim (λ l. absurd (false≢true (sym (has-past n m k h l) ∙ inside))) (λ l. l) (le-or-lt n k)
  where
    le-or-lt : (a b : ℕ) → (a ≤ b) ⊎ (b < a)
    le-or-lt a b = tested (leb a b) refl
      where
        tested : (t : Bool) → leb a b ≡ t → (a ≤ b) ⊎ (b < a)
        tested true e = inl (leb-true a b e)
        tested false e = inr (leb-false a b e)

-- ---- a node that is put in or taken out, and the others
pub has-plus : (m node k : ℕ) → k < 32 → has (plus m node) k ≡ (has m k || eqb k node)
unfolding plus
has-plus m node k h = has_of 32 (λ j. has m j || eqb j node) k h

pub has-minus : (m node k : ℕ) → k < 32 → has (minus m node) k ≡ (has m k && not (eqb k node))
unfolding minus
has-minus m node k h = has_of 32 (λ j. has m j && not (eqb j node)) k h

pub plus-lt : (m node : ℕ) → plus m node < 2 ^ 32
unfolding plus
plus-lt m node = set-lt 32 (λ j. has m j || eqb j node)

pub minus-lt : (m node : ℕ) → minus m node < 2 ^ 32
unfolding minus
minus-lt m node = set-lt 32 (λ j. has m j && not (eqb j node))

-- ---- every node passes
pub all-each : (n : ℕ) (test : ℕ → Bool) → all n test ≡ true → (k : ℕ) → k < n → test k ≡ true
unfolding all
all-each zero test e k h = absurd (not-suc-le-zero h)
all-each (suc n) test e k h = ⊎_elim (λ eq. subst (λ (x : ℕ). test x ≡ true) (sym eq) (and_right (all n test) (test n) e)) (λ l. all-each n test (and_left (all n test) (test n) e) k l) (eq-or-lt_of_le (le_of_suc-le-suc h))

pub each_all : (n : ℕ) (test : ℕ → Bool) → ((k : ℕ) → k < n → test k ≡ true) → all n test ≡ true
unfolding all
each_all zero test f = refl
each_all (suc n) test f = ap₂ ◌&&◌ (each_all n test (λ k h. f k (omega arith))) (f n (omega arith))

all-or : (n : ℕ) (test : ℕ → Bool) → (all n test ≡ true) ⊎ ((k : ℕ) × (k < n) × (test k ≡ false))
unfolding all
all-or zero test = inl refl
all-or (suc n) test = ⊎_elim (λ before. last before (test n) refl) (λ w. inr (w.0, omega (arith, w.1), w.2)) (all-or n test)
  where
    last : all n test ≡ true → (b : Bool) → test n ≡ b → ((all n test && test n) ≡ true) ⊎ ((k : ℕ) × (k < suc n) × (test k ≡ false))
    last before true e = inl (ap₂ ◌&&◌ before e)
    last before false e = inr (n, omega arith, e)

pub empty-each : (m : ℕ) → empty m ≡ true → (k : ℕ) → k < 32 → has m k ≡ false
unfolding empty
empty-each m e k h = not-true (has m k) (all-each 32 (λ j. not (has m j)) e k h)

pub each-empty : (m : ℕ) → ((k : ℕ) → k < 32 → has m k ≡ false) → empty m ≡ true
unfolding empty
each-empty m f = each_all 32 (λ j. not (has m j)) (λ k h. ap not (f k h))

pub within-each : (m n : ℕ) → within m n ≡ true → (k : ℕ) → k < 32 → has m k ≡ true → has n k ≡ true
unfolding within
within-each m n e k h inside = sym (ap (λ (b : Bool). not b || has n k) inside) ∙ all-each 32 (λ j. not (has m j) || has n j) e k h

pub each_within : (m n : ℕ) → ((k : ℕ) → k < 32 → has m k ≡ true → has n k ≡ true) → within m n ≡ true
unfolding within
each_within m n f = each_all 32 (λ j. not (has m j) || has n j) (λ k h. implies (has m k) (has n k) (f k h))

-- ---- the same, of a node that is known to be in a set
pub plus-node : (m node : ℕ) → node < 32 → has (plus m node) node ≡ true
plus-node m node h = has-plus m node node h ∙ ap (λ (b : Bool). has m node || b) (eq-eqb node node refl) ∙ or-true (has m node)

pub plus-keeps : (m node k : ℕ) → k < 32 → has m k ≡ true → has (plus m node) k ≡ true
plus-keeps m node k h inside = has-plus m node k h ∙ ap (λ (b : Bool). b || eqb k node) inside

pub plus-came : (m node k : ℕ) → k < 32 → has (plus m node) k ≡ true → (has m k ≡ true) ⊎ (k ≡ node)
plus-came m node k h inside = either (has m k) (eqb k node) (sym (has-plus m node k h) ∙ inside) (eqb-true k node)

pub minus-was : (m node k : ℕ) → k < 32 → has (minus m node) k ≡ true → has m k ≡ true
minus-was m node k h inside = and_left (has m k) (not (eqb k node)) (sym (has-minus m node k h) ∙ inside)

pub minus-out : (m node k : ℕ) → k < 32 → has (minus m node) k ≡ true → k ≡ node → ⊥
minus-out m node k h inside = eqb-false k node (not-true (eqb k node) (and_right (has m k) (not (eqb k node)) (sym (has-minus m node k h) ∙ inside)))

pub minus-keeps : (m node k : ℕ) → k < 32 → has m k ≡ true → (k ≡ node → ⊥) → has (minus m node) k ≡ true
minus-keeps m node k h inside ne = has-minus m node k h ∙ ap₂ (λ (a b : Bool). a && not b) inside (ne_eqb k node ne)

pub minus-same : (m node : ℕ) → m < 2 ^ 32 → has m node ≡ false → minus m node ≡ m
minus-same m node hm out = has-ext 32 (minus m node) m (minus-lt m node) hm (λ k h. has-minus m node k h ∙ absent (has m k) (eqb k node) (λ e. ap (has m) (eqb-true k node e) ∙ out))

-- a set that has a node is not empty, and one that is not empty has one
pub some-empty : (m k : ℕ) → k < 32 → has m k ≡ true → empty m ≡ false
some-empty m k h inside = no (empty m) (λ e. false≢true (sym (empty-each m e k h) ∙ inside))

pub empty-some : (m : ℕ) → empty m ≡ false → (k : ℕ) × (k < 32) × (has m k ≡ true)
unfolding empty
empty-some m e = ⊎_elim (λ all-out. absurd (false≢true (sym e ∙ all-out))) (λ w. (w.0, w.1, not-false (has m w.0) w.2)) (all-or 32 (λ k. not (has m k)))

-- ---- what the code computes

-- `(m >> node) & 1 == 1`
pub shr_is : (m k : ℕ) → eqb (bit_and (m / 2 ^ k) 1) 1 ≡ has m k
unfolding has
shr_is m k = ap (λ (x : ℕ). eqb x 1) (shr_and_one m k)

-- the node itself, and the others
by-node : (P : ℕ → Type 0) (node : ℕ) → P node → ((k : ℕ) → k ≢ node → P k) → (k : ℕ) → P k
by-node P node itself others k = by (eqb k node) refl
  where
    by : (b : Bool) → eqb k node ≡ b → P k
    by true e = subst P (sym (eqb-true k node e)) itself
    by false e = others k (eqb-false k node e)

-- `1 << node`
pub one_shl : (w k : ℕ) → k < w → (1 * 2 ^ k) % 2 ^ w ≡ 2 ^ k
one_shl w k h = ap (λ (x : ℕ). x % 2 ^ w) (one-mul (2 ^ k)) ∙ mod-eq_of_lt (pow-lt h)

-- the node alone
has-pow : (node k : ℕ) → has (2 ^ node) k ≡ eqb k node
unfolding has
has-pow node = by-node (λ k. has (2 ^ node) k ≡ eqb k node) node
    (ap (λ (x : ℕ). eqb x 1) (bit_at-pow_same node) ∙ sym (eq-eqb node node refl))
    (λ k ne. ap (λ (x : ℕ). eqb x 1) (bit_at-pow_other node k ne) ∙ sym (ne_eqb k node ne))

-- a digit of either, and of one alone
most-one : (x y : ℕ) → x < 2 → y < 2 → eqb (max x y) 1 ≡ (eqb x 1 || eqb y 1)
most-one zero zero hx hy = refl
most-one zero (suc zero) hx hy = refl
most-one zero (suc (suc y)) hx hy = absurd (omega arith)
most-one (suc zero) zero hx hy = refl
most-one (suc zero) (suc zero) hx hy = refl
most-one (suc zero) (suc (suc y)) hx hy = absurd (omega arith)
most-one (suc (suc x)) y hx hy = absurd (omega arith)

odd-one : (x y : ℕ) → x < 2 → y < 2 → eqb ((x + y) % 2) 1 ≡ xor (eqb x 1) (eqb y 1)
unfolding xor
odd-one zero zero hx hy = refl
odd-one zero (suc zero) hx hy = refl
odd-one zero (suc (suc y)) hx hy = absurd (omega arith)
odd-one (suc zero) zero hx hy = refl
odd-one (suc zero) (suc zero) hx hy = refl
odd-one (suc zero) (suc (suc y)) hx hy = absurd (omega arith)
odd-one (suc (suc x)) y hx hy = absurd (omega arith)

has-or : (a b k : ℕ) → has (bit_or a b) k ≡ (has a k || has b k)
unfolding has
has-or a b k = ap (λ (x : ℕ). eqb x 1) (bit_at_or a b k) ∙ most-one (digit a k) (digit b k) (bit_at-lt a k) (bit_at-lt b k)

has-xor : (a b k : ℕ) → has (bit_xor a b) k ≡ xor (has a k) (has b k)
unfolding has
has-xor a b k = ap (λ (x : ℕ). eqb x 1) (bit_at_xor a b k) ∙ odd-one (digit a k) (digit b k) (bit_at-lt a k) (bit_at-lt b k)

-- `m | b` with b the node alone, and so `m | 1 << node`
pub or_is : (m node : ℕ) → m < 2 ^ 32 → node < 32 → bit_or m (2 ^ node) ≡ plus m node
unfolding plus
or_is m node hm hn = is_set 32 (bit_or m (2 ^ node)) (λ k. has m k || eqb k node) (or_lt 32 m (2 ^ node) hm (pow-lt hn)) (λ k _. has-or m (2 ^ node) k ∙ ap (λ (b : Bool). has m k || b) (has-pow node k))

pub shifted_is : (m node : ℕ) → m < 2 ^ 32 → node < 32 → bit_or m (1 * 2 ^ node % 2 ^ 32) ≡ plus m node
shifted_is m node hm hn = ap (bit_or m) (one_shl 32 node hn) ∙ or_is m node hm hn

-- `(m | b) ^ b` with b the node alone
pub xor_is : (m node : ℕ) → m < 2 ^ 32 → node < 32 → bit_xor (bit_or m (2 ^ node)) (2 ^ node) ≡ minus m node
unfolding minus xor
xor_is m node hm hn =
    is_set 32 (bit_xor (bit_or m (2 ^ node)) (2 ^ node)) (λ k. has m k && not (eqb k node)) (xor_lt 32 (bit_or m (2 ^ node)) (2 ^ node) (or_lt 32 m (2 ^ node) hm (pow-lt hn)) (pow-lt hn))
    (λ k _. has-xor (bit_or m (2 ^ node)) (2 ^ node) k ∙ ap₂ xor (has-or m (2 ^ node) k ∙ ap (λ (b : Bool). has m k || b) (has-pow node k)) (has-pow node k) ∙ either-less (has m k) (eqb k node))
  where
    either-less : (a b : Bool) → xor (a || b) b ≡ (a && not b)
    either-less true true = refl
    either-less true false = refl
    either-less false true = refl
    either-less false false = refl

-- `m & !(1 << node)`
pub clear_is : (m node : ℕ) → m < 2 ^ 32 → node < 32 → bit_and m (2 ^ 32 - 1 - 1 * 2 ^ node % 2 ^ 32) ≡ minus m node
unfolding minus has
clear_is m node hm hn =
    let set : ℕ = bit_and m (2 ^ 32 - 1 - 1 * 2 ^ node % 2 ^ 32) in
    is_set 32 set (λ k. has m k && not (eqb k node)) (omega (arith, and_le_l m (2 ^ 32 - 1 - 1 * 2 ^ node % 2 ^ 32)))
    (λ k hk. by-node (λ k. k < 32 → has set k ≡ (has m k && not (eqb k node))) node
    (λ _. ap (λ (x : ℕ). eqb x 1) (bit_at_clear_same w32 m node hn) ∙ sym (rw (eq-eqb node node refl) (and-false (has m node))))
    (λ k ne hk. ap (λ (x : ℕ). eqb x 1) (bit_at_clear_other w32 m node hn k hk ne) ∙ sym (rw (ne_eqb k node ne) (and-true (has m k)))) k hk)

-- `m == 0`
pub zero_is : (m : ℕ) → m < 2 ^ 32 → eqb m 0 ≡ empty m
zero_is m hm =
    same_test (eqb m 0) (empty m)
    (λ e. each-empty m (λ k _. ap (λ (x : ℕ). has x k) (eqb-true m 0 e) ∙ has-zero k))
    (λ e. eq-eqb m 0 (has-ext 32 m 0 hm (pow_pos 32) (λ k h. empty-each m e k h ∙ sym (has-zero k))))

-- a digit of both is one of each
least-one : (x y : ℕ) → x < 2 → y < 2 → eqb (min x y) 1 ≡ (eqb x 1 && eqb y 1)
least-one zero zero hx hy = refl
least-one zero (suc zero) hx hy = refl
least-one zero (suc (suc y)) hx hy = absurd (omega arith)
least-one (suc zero) zero hx hy = refl
least-one (suc zero) (suc zero) hx hy = refl
least-one (suc zero) (suc (suc y)) hx hy = absurd (omega arith)
least-one (suc (suc x)) y hx hy = absurd (omega arith)

has-and : (a b k : ℕ) → has (bit_and a b) k ≡ (has a k && has b k)
unfolding has
has-and a b k = ap (λ (x : ℕ). eqb x 1) (bit_at_and a b k) ∙ least-one (digit a k) (digit b k) (bit_at-lt a k) (bit_at-lt b k)

-- `m & n == m`
pub and_is : (m n : ℕ) → m < 2 ^ 32 → n < 2 ^ 32 → eqb (bit_and m n) m ≡ within m n
and_is m n hm hn =
    same_test (eqb (bit_and m n) m) (within m n)
    (λ e. each_within m n (λ k h inside. and_right (has m k) (has n k) (sym (has-and m n k) ∙ ap (λ (x : ℕ). has x k) (eqb-true (bit_and m n) m e) ∙ inside)))
    (λ e. eq-eqb (bit_and m n) m (has-ext 32 (bit_and m n) m (and_lt 32 m n hm hn) hm (λ k h. has-and m n k ∙ inside_both (has m k) (has n k) (within-each m n e k h))))
  where
    inside_both : (a b : Bool) → (a ≡ true → b ≡ true) → (a && b) ≡ a
    inside_both true b f = f refl
    inside_both false b f = refl
