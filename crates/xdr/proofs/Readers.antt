-- Structures of fields of fixed size: a reader that begins with them tests once that all their bytes are there. Then opaque fields of variable size.
use Prim.Native.Nat.{ℕ, ◌+◌, ◌-◌, ◌≤◌}
use mathlib.Core.Path.{◌≡◌, refl, ap, ◌∙◌}
use mathlib.Core.List.{List}
use mathlib.Core.Bool.{Bool, true, false, cond}
use native.Mathlib.Omega.{arith}
use borrow.Author.Tests.{lt-ltb, le-ltb, le-leb, lt-leb, eq-eqb, ne_eqb, ltb-true, ltb-false, eqb-true, eqb-false}
use lib.ListN.{length, take, drop, length-drop}
use lib.Seq.{drop-drop}
use lib.Dec.{ltb, leb, eqb}
use Rattle.xdr.specs.Be.{be_nat}
use Rattle.xdr.specs.Reader.{same_bytes, zeros, padding, Read, Got, Bad, Reader, onward, ◌>>=◌, give, only, number, opaque, boolean, bounded}

-- ---- tests that say the same
-- fewer bytes than v are left after w of them exactly where there are fewer than w + v
pub shifted : (n w v : ℕ) → w ≤ n → ltb (n - w) v ≡ ltb n (w + v)
shifted n w v h = by-case (ltb n (w + v)) refl
  where
    by-case : (b : Bool) → ltb n (w + v) ≡ b → ltb (n - w) v ≡ b
    by-case true g = lt-ltb (n - w) v (omega (arith, ltb-true n (w + v) g))
    by-case false g = le-ltb (n - w) v (omega (arith, ltb-false n (w + v) g))

-- nothing is left after w bytes exactly where there are w
pub none_left : (n w : ℕ) → w ≤ n → eqb (n - w) 0 ≡ eqb n w
none_left n w h = by-case (eqb n w) refl
  where
    by-case : (b : Bool) → eqb n w ≡ b → eqb (n - w) 0 ≡ b
    by-case true e = eq-eqb (n - w) 0 (omega (arith, eqb-true n w e))
    by-case false e = ne_eqb (n - w) 0 (λ z. eqb-false n w e (omega arith))

-- at most m, or above it
pub at_most : {A : Type 0} (n m : ℕ) (x y : A) → cond (leb n m) x y ≡ cond (ltb m n) y x
at_most n m x y = by-case (ltb m n) refl
  where
    by-case : (b : Bool) → ltb m n ≡ b → cond (leb n m) x y ≡ cond b y x
    by-case true e = rw (lt-leb n m (ltb-true m n e))
    by-case false e = rw (le-leb n m (ltb-false m n e))

-- what holds of both answers of a test holds of the test
pub by-test : {A : Type 0} (P : A → Type 0) (b : Bool) (x y : A) → (b ≡ true → P x) → (b ≡ false → P y) → P (cond b x y)
by-test P true x y p q = p refl
by-test P false x y p q = q refl

-- two answers after the same test agree where they do once it has failed
pub where-long : {A : Type 0} (n w : ℕ) (z : A) {x y : A} → (w ≤ n → x ≡ y) → cond (ltb n w) z x ≡ cond (ltb n w) z y
where-long n w z {x} {y} h = by-case (ltb n w) refl
  where
    by-case : (b : Bool) → ltb n w ≡ b → cond b z x ≡ cond b z y
    by-case true e = refl
    by-case false e = h (ltb-false n w e)

-- ---- p reads w bytes, too few of them are refused, and goes on as q does, which may look at those w bytes
pub record Leads {A : Type 0} (w : ℕ) (p : Reader A) (q : List ℕ → Reader A) : Type 0 where
  pub reads : (s : List ℕ) → p s ≡ cond (ltb (length s) w) Bad (q s (drop w s))

pub no_bytes : {A : Type 0} (p : Reader A) → Leads 0 p (λ _. p)
no_bytes p = record { reads = λ s. rw (le-ltb (length s) 0 (omega arith)) }

pub number-first : (w : ℕ) → Leads w (number w) (λ s. give (be_nat w s))
unfolding number
number-first w = record { reads = λ s. refl }

pub opaque-first : (w : ℕ) → Leads w (opaque w) (λ s. give (take w s))
unfolding opaque
opaque-first w = record { reads = λ s. refl }

module _ {A B : Type 0} (w v : ℕ) (f : List ℕ → A) (k : A → Reader B) (q : A → List ℕ → Reader B) (h : (a : A) → Leads v (k a) (q a)) (s : List ℕ) where
  joint : (b : Bool) → ltb (length s) w ≡ b
      → onward (cond b Bad (give (f s) (drop w s))) k ≡ cond (ltb (length s) (w + v)) Bad (q (f s) (drop w s) (drop (w + v) s))
  joint true e = rw (lt-ltb (length s) (w + v) (omega (arith, ltb-true (length s) w e)))
  joint false e =
      let g : w ≤ length s = ltb-false (length s) w e in
      (h (f s)).reads (drop w s) ∙ rw (length-drop, shifted (length s) w v g, drop-drop)

-- a field, and then what follows it
pub then : {A B : Type 0} {w v : ℕ} {p : Reader A} {f : List ℕ → A} {k : A → Reader B} {q : A → List ℕ → Reader B}
    → Leads w p (λ s. give (f s)) → ((a : A) → Leads v (k a) (q a)) → Leads (w + v) (p >>= k) (λ s. q (f s) (drop w s))
then {A} {B} {w} {v} {p} {f} {k} {q} g h =
    record { reads = λ s. ap (λ (r : Read A). onward r k) (g.reads s) ∙ joint w v f k q h s (ltb (length s) w) refl }

-- a test, and then what follows it
pub tested : {A B : Type 0} {v : ℕ} (b : Bool) (a : A) (k : A → Reader B) (q : List ℕ → Reader B) → Leads v (k a) q
    → Leads v (only b a >>= k) (λ s t. cond b (q s t) Bad)
tested true a k q h = h
tested {v = v} false a k q h = record { reads = λ s. by_size (ltb (length s) v) }
  where
    by_size : {B : Type 0} (b : Bool) → ◌≡◌ {A = Read B} Bad (cond b Bad Bad)
    by_size true = refl
    by_size false = refl

-- two readers and a third, as one and two
pub regrouped : {A B C : Type 0} (r : Read A) (f : A → Reader B) (k : B → Reader C) → onward (onward r f) k ≡ onward r (λ a. f a >>= k)
regrouped (Got a t) f k = refl
regrouped Bad f k = refl

pub boolean-first : {B : Type 0} {v : ℕ} (k : ℕ → Reader B) (q : ℕ → List ℕ → Reader B) → ((x : ℕ) → Leads v (k x) (q x))
    → Leads (4 + v) (boolean >>= k) (λ s t. cond (leb (be_nat 4 s) 1) (q (be_nat 4 s) (drop 4 s) t) Bad)
unfolding boolean
boolean-first k q h =
    let g = then (number-first 4) (λ x. tested (leb x 1) x k (q x) (h x)) in
    record { reads = λ s. regrouped (number 4 s) (λ x. only (leb x 1) x) k ∙ g.reads s }

-- ---- an opaque field of variable size: four bytes of length, and then its bytes and its padding
-- a reader and what follows it, by the reader's test
pub after_test : {A B : Type 0} (b : Bool) (a : A) (t : List ℕ) (k : A → Reader B) → onward (cond b Bad (Got a t)) k ≡ cond b Bad (k a t)
after_test true a t k = refl
after_test false a t k = refl

pub after-only : {A B : Type 0} (b : Bool) (a : A) (t : List ℕ) (k : A → Reader B) → onward (cond b (Got a t) Bad) k ≡ cond b (k a t) Bad
after-only true a t k = refl
after-only false a t k = refl

unfoldable pub bounded_rest : ℕ → ℕ → Reader (List ℕ)
bounded_rest limit n = do
  size ← only (leb n limit) n
  bytes ← opaque size
  pad ← opaque (padding size)
  only (same_bytes pad (zeros (padding size))) bytes

pub bounded-first : {B : Type 0} (limit : ℕ) (k : List ℕ → Reader B)
    → Leads 4 (bounded limit >>= k) (λ s t. onward (bounded_rest limit (be_nat 4 s) t) k)
unfolding bounded bounded_rest
bounded-first limit k =
    let g = then (number-first 4) (λ n. no_bytes (bounded_rest limit n >>= k)) in
    record { reads = λ s. regrouped (number 4 s) (bounded_rest limit) k ∙ g.reads s }

pub rest-tests : (limit n : ℕ) (u : List ℕ) → bounded_rest limit n u
    ≡ cond (ltb limit n) Bad
    (cond (ltb (length u) n) Bad
    (cond (ltb (length (drop n u)) (padding n)) Bad
    (cond (same_bytes (take (padding n) (drop n u)) (zeros (padding n))) (Got (take n u) (drop (padding n) (drop n u))) Bad)))
unfolding bounded_rest opaque
rest-tests limit n u =
    rw (after-only (leb n limit), at_most n limit, after_test (ltb (length u) n), after_test (ltb (length (drop n u)) (padding n)))
