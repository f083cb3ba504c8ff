-- What a reader leaves is an end of what it was given, so the place past what was read says what is left.
-- In order: ends of lists; readers that leave an end; places.
use Prim.Native.Nat.{ℕ, zero, suc, ◌+◌, ◌-◌, ◌≤◌, ◌<◌}
use mathlib.Core.Path.{◌≡◌, refl, sym, ap, ◌∙◌}
use mathlib.Core.List.{List, [], ◌∷◌}
use mathlib.Core.Bool.{Bool, true, false, cond}
use native.Mathlib.Omega.{arith}
use borrow.Author.Tests.{leb-true, leb-false}
use lib.ListN.{length, drop, length-drop, drop_of_length-le}
use lib.Seq.{drop-drop}
use lib.Dec.{ltb, leb}
use Rattle.xdr.specs.Reader.{same_bytes, zeros, padding, Read, Got, Bad, Reader, onward, ◌>>=◌, give, only, number, opaque, boolean, bounded, in_turn, counted}
use Rattle.xdr.specs.Past.{past_of}
use Rattle.std.specs.Prelude.{Option, Some, None}
use Rattle.xdr.proofs.Readers.{by-test}

-- ---- ends
pub record EndOf (t s : List ℕ) : Type 0 where
  pub lies : drop (length s - length t) s ≡ t

pub end-drop : (k : ℕ) (s : List ℕ) → EndOf (drop k s) s
end-drop k s = record { lies = rw length-drop (by_size (leb k (length s)) refl) }
  where
    by_size : (b : Bool) → leb k (length s) ≡ b → drop (length s - (length s - k)) s ≡ drop k s
    by_size true e =
        let h : k ≤ length s = leb-true k (length s) e in
        let q : length s - (length s - k) ≡ k = omega arith in
        rw q
    by_size false e =
        let h : length s < k = leb-false k (length s) e in
        rw (drop_of_length-le s {i = length s - (length s - k)} (omega arith), drop_of_length-le s {i = k} (omega arith))

pub end-of-end : {t u s : List ℕ} → EndOf t u → EndOf u s → EndOf t s
end-of-end {t} {u} {s} g h =
    let q : drop ((length s - length u) + (length u - length t)) s ≡ t = sym (drop-drop (length u - length t) (length s - length u) s) ∙ rw h.lies g.lies in
    rw q at (end-drop ((length s - length u) + (length u - length t)) s)

pub end-shorter : {t s : List ℕ} → EndOf t s → length t ≤ length s
end-shorter {t} {s} g =
    let q : length s - (length s - length t) ≡ length t = sym (length-drop (length s - length t) s) ∙ ap length g.lies in
    omega arith

-- ---- readers
abbrev pub Leaves : {A : Type 0} → List ℕ → Read A → Type 0
Leaves s Bad = Unit
Leaves s (Got a t) = EndOf t s

pub record Ends {A : Type 0} (p : Reader A) : Type 0 where
  pub leaves : (s : List ℕ) → Leaves s (p s)

pub number-ends : (w : ℕ) → Ends (number w)
unfolding number
number-ends w = record { leaves = λ s. by-test (Leaves s) (ltb (length s) w) Bad _ (λ _. tt) (λ _. end-drop w s) }

pub opaque-ends : (w : ℕ) → Ends (opaque w)
unfolding opaque
opaque-ends w = record { leaves = λ s. by-test (Leaves s) (ltb (length s) w) Bad _ (λ _. tt) (λ _. end-drop w s) }

pub give-ends : {A : Type 0} (a : A) → Ends (give a)
give-ends a = record { leaves = λ s. end-drop 0 s }

pub only-ends : {A : Type 0} (b : Bool) (a : A) → Ends (only b a)
only-ends b a = record { leaves = λ s. by-test (Leaves s) b (Got a s) Bad (λ _. end-drop 0 s) (λ _. tt) }

later : {B : Type 0} {t s : List ℕ} (r : Read B) → EndOf t s → Leaves t r → Leaves s r
later Bad e h = tt
later (Got b u) e h = end-of-end h e

then-leaves : {A B : Type 0} (s : List ℕ) (r : Read A) (k : A → Reader B) → Leaves s r → ((a : A) → Ends (k a)) → Leaves s (onward r k)
then-leaves s Bad k g h = tt
then-leaves s (Got a t) k g h = later (k a t) g ((h a).leaves t)

pub then-ends : {A B : Type 0} {p : Reader A} {k : A → Reader B} → Ends p → ((a : A) → Ends (k a)) → Ends (p >>= k)
then-ends {A} {B} {p} {k} g h = record { leaves = λ s. then-leaves s (p s) k (g.leaves s) h }

pub boolean-ends : Ends boolean
unfolding boolean
boolean-ends = then-ends (number-ends 4) (λ x. only-ends (leb x 1) x)

pub bounded-ends : (limit : ℕ) → Ends (bounded limit)
unfolding bounded
bounded-ends limit =
    then-ends (number-ends 4)
    (λ n. then-ends (only-ends (leb n limit) n)
    (λ size. then-ends (opaque-ends size)
    (λ bytes. then-ends (opaque-ends (padding size)) (λ pad. only-ends (same_bytes pad (zeros (padding size))) bytes))))

pub turn-ends : {A : Type 0} (p : Reader A) → Ends p → (n : ℕ) → Ends (in_turn n p)
unfolding in_turn
turn-ends p h zero = give-ends []
turn-ends p h (suc n) = then-ends h (λ x. then-ends (turn-ends p h n) (λ xs. give-ends (x ∷ xs)))

pub counted-ends : {A : Type 0} (p : Reader A) → Ends p → Ends (counted p)
counted-ends p h = then-ends (number-ends 4) (λ n. turn-ends p h n)

-- ---- places
place_of : ℕ → Option ℕ → ℕ
place_of d None = d
place_of d (Some e) = e

malformed-no-place : {e : ℕ} → Some e ≡ None → ⊥
unfolding place_of
malformed-no-place {e} h =
    let p : e ≡ suc e = ap (place_of (suc e)) h in
    omega arith

-- what was read up to a place: some value, and what is left lies from there on
pub record Reached {A : Type 0} (r : Read A) (t : List ℕ) : Type 0 where
  pub value : A
  pub is : r ≡ Got value t

module _ {A : Type 0} (s : List ℕ) (at : ℕ) where
  pub reached : {e : ℕ} (r : Read A) → Leaves (drop at s) r → Some e ≡ past_of (length s) r → Reached r (drop e s)
  unfolding place_of
  reached Bad l h = absurd (malformed-no-place h)
  reached {e} (Got a t) l h =
      let q : e ≡ length s - length t = ap (place_of 0) h in
      record { value = a; is = ap (Got a) (sym (end-of-end l (end-drop at s)).lies ∙ ap (λ (k : ℕ). drop k s) (sym q)) }

  pub further : {e : ℕ} (r : Read A) → Leaves (drop at s) r → Some e ≡ past_of (length s) r → at ≤ length s → (at ≤ e) × (e ≤ length s)
  unfolding place_of
  further Bad l h g = absurd (malformed-no-place h)
  further {e} (Got a t) l h g =
      let q : e ≡ length s - length t = ap (place_of 0) h in
      let k : length t ≤ length s - at = rw length-drop at (end-shorter l) in
      (omega arith, omega arith)

pub unread : {A : Type 0} (n : ℕ) (r : Read A) → None ≡ past_of n r → r ≡ Bad
unread n Bad h = refl
unread n (Got a t) h = absurd (malformed-no-place (sym h))

-- a reader whose value does not matter, and then another
module _ {A B : Type 0} {p : Reader A} (g : Ends p) (k : Reader B) (s : List ℕ) (at : ℕ) {r : Option ℕ} (i : r ≡ past_of (length s) (p (drop at s))) where
  pub goes_on : {e : ℕ} → r ≡ Some e → past_of (length s) (k (drop e s)) ≡ past_of (length s) ((p >>= λ _. k) (drop at s))
  goes_on h = rw (reached s at (p (drop at s)) (g.leaves (drop at s)) (sym h ∙ i)).is

  pub goes-nowhere : r ≡ None → None ≡ past_of (length s) ((p >>= λ _. k) (drop at s))
  goes-nowhere h = rw (unread (length s) (p (drop at s)) (sym h ∙ i))

pub past-if : {A : Type 0} (n : ℕ) (b : Bool) (x y : Read A) → past_of n (cond b x y) ≡ cond b (past_of n x) (past_of n y)
past-if n true x y = refl
past-if n false x y = refl
