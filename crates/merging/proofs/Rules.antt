-- The rules on a list as a relation of two extents. In this order: lists; one extent by itself; one extent before another; a valid list; that a
-- list passes exactly when it is valid.
use Prim.Native.Nat.{ℕ, zero, suc, ◌+◌, ◌-◌, ◌^◌, ◌<◌, ◌≤◌}
use mathlib.Core.Path.{◌≡◌, refl, sym, ap, ◌∙◌}
use mathlib.Core.List.{List, [], ◌∷◌, ◌++◌}
use mathlib.Core.Logic.{◌⊎◌, inl, inr}
use mathlib.Core.Bool.{Bool, true, false, not, ◌&&◌, ◌||◌, true≢false}
use native.Mathlib.Omega.{arith}
use native.Mathlib.Decide.{dec_le, ℕ_discrete}
use borrow.Author.Tests.{le-ltb, eq-eqb, ne_eqb, ltb-false, eqb-true, eqb-false}
use lib.Dec.{ltb, eqb}
use lib.ListN.{length}
use Rattle.extents.specs.Extents.{unknown_state, no_length, too_far, out_of_order, clash, any_of, first_rule, refusal, answer, verdict}
use Rattle.extents.specs.Sentences.{Covers, ReadAndInvalid}
use Rattle.extents.specs.declared.Extent.{Extent}
use Rattle.extents.specs.Verdict.{Verdict, Accepted}
use Rattle.extents.proofs.OnePass.{or_left}
use Rattle.extents.proofs.Sentences.{and_both, by_cases, said, holds}
use Rattle.merging.specs.Meaning.{Some, All}

-- ---- lists
module _ {A : Type 0} where
  pub all_map : {P Q : A → Type 0} → ((e : A) → P e → Q e) → (es : List A) → All P es → All Q es
  all_map f [] h = tt
  all_map f (e ∷ es) h = (f e h.0, all_map f es h.1)

  pub all-map₂ : {P Q R : A → Type 0} → ((e : A) → P e → Q e → R e) → (es : List A) → All P es → All Q es → All R es
  all-map₂ f [] h g = tt
  all-map₂ f (e ∷ es) h g = (f e h.0 g.0, all-map₂ f es h.1 g.1)

  pub all_append : (P : A → Type 0) (es fs : List A) → All P es → All P fs → All P (es ++ fs)
  all_append P [] fs h g = g
  all_append P (e ∷ es) fs h g = (h.0, all_append P es fs h.1 g)

  pub some-map : {P Q : A → Type 0} → ((e : A) → P e → Q e) → (es : List A) → Some P es → Some Q es
  some-map f [] x = elim x [ ]
  some-map f (e ∷ es) (inl h) = inl (f e h)
  some-map f (e ∷ es) (inr h) = inr (some-map f es h)

  pub some_left : (P : A → Type 0) (es fs : List A) → Some P es → Some P (es ++ fs)
  some_left P [] fs x = elim x [ ]
  some_left P (e ∷ es) fs (inl h) = inl h
  some_left P (e ∷ es) fs (inr h) = inr (some_left P es fs h)

  pub some_right : (P : A → Type 0) (es fs : List A) → Some P fs → Some P (es ++ fs)
  some_right P [] fs h = h
  some_right P (e ∷ es) fs h = inr (some_right P es fs h)

  pub some-append : (P : A → Type 0) (es fs : List A) → Some P (es ++ fs) → Some P es ⊎ Some P fs
  some-append P [] fs h = inr h
  some-append P (e ∷ es) fs (inl h) = inl (inl h)
  some-append P (e ∷ es) fs (inr h) = by (some-append P es fs h)
    where
      by : Some P es ⊎ Some P fs → Some P (e ∷ es) ⊎ Some P fs
      by (inl g) = inl (inr g)
      by (inr g) = inr g

  pub some-either : {P Q R : A → Type 0} → ((e : A) → P e → Q e ⊎ R e) → (es : List A) → Some P es → Some Q es ⊎ Some R es
  some-either f [] x = elim x [ ]
  some-either {P} {Q} {R} f (e ∷ es) (inl h) = by (f e h)
    where
      by : Q e ⊎ R e → Some Q (e ∷ es) ⊎ Some R (e ∷ es)
      by (inl g) = inl (inl g)
      by (inr g) = inr (inl g)
  some-either {P} {Q} {R} f (e ∷ es) (inr h) = by (some-either f es h)
    where
      by : Some Q es ⊎ Some R es → Some Q (e ∷ es) ⊎ Some R (e ∷ es)
      by (inl g) = inl (inr g)
      by (inr g) = inr (inr g)

  pub some-all : {P Q R : A → Type 0} → ((e : A) → P e → Q e → R e) → (es : List A) → All P es → Some Q es → Some R es
  some-all f [] h x = elim x [ ]
  some-all f (e ∷ es) h (inl q) = inl (f e h.0 q)
  some-all f (e ∷ es) h (inr q) = inr (some-all f es h.1 q)

  -- one that is among all
  pub met : {P Q : A → Type 0} {R : Type 0} → ((e : A) → P e → Q e → R) → (es : List A) → All P es → Some Q es → R
  met f [] h x = elim x [ ]
  met f (e ∷ es) h (inl q) = f e h.0 q
  met f (e ∷ es) h (inr q) = met f es h.1 q

-- ---- one extent: rules 3, 4 and 5
pub record Sound (e : Extent) : Type 0 where
  pub known : e.state ≤ 3
  pub some : 0 < e.len
  pub in-file : e.offset + e.len < 2 ^ 64
  pub in-storage : (e.state ≡ 3) ⊎ (e.storage + e.len < 2 ^ 64)

-- ---- one extent before another: rules 6 and 7
pub data Before (a e : Extent) : Type 0 where
  apart : a.offset + a.len ≤ e.offset → Before a e
  read_first : a.state ≡ 1 → e.state ≡ 2 → a.offset ≤ e.offset → Before a e
  invalid-first : a.state ≡ 2 → e.state ≡ 1 → a.offset < e.offset → Before a e

pub in_order : (a e : Extent) → Before a e → a.offset ≤ e.offset
in_order a e (apart h) = omega arith
in_order a e (read_first p q h) = h
in_order a e (invalid-first p q h) = omega arith

-- ---- a valid list
abbrev pub Valid : List Extent → Type 0
Valid [] = Unit {0}
Valid (e ∷ es) = Sound e × All (Before e) es × Valid es

pub valid-append : (es fs : List Extent) → Valid es → Valid fs → All (λ e. All (Before e) fs) es → Valid (es ++ fs)
valid-append [] fs v w b = w
valid-append (e ∷ es) fs v w b = (v.0, all_append (Before e) es fs v.1 b.0, valid-append es fs v.2 w b.1)

pub sounds : (es : List Extent) → Valid es → All Sound es
sounds [] v = tt
sounds (e ∷ es) v = (v.0, sounds es v.2)

-- the extents passed, the latest first
abbrev Past : List Extent → Type 0
Past [] = Unit {0}
Past (p ∷ earlier) = Sound p × All (λ a. Before a p) earlier × Past earlier

-- ---- tests
pub or-rest : (a b : Bool) → (a || b) ≡ false → b ≡ false
or-rest true b h = absurd (true≢false h)
or-rest false b h = h

none : (t3 t4 t5 t6 t7 : Bool) → first_rule t3 t4 t5 t6 t7 ≡ 0 → (t3 ≡ false) × (t4 ≡ false) × (t5 ≡ false) × (t6 ≡ false) × (t7 ≡ false)
none true t4 t5 t6 t7 h = absurd (omega arith)
none false true t5 t6 t7 h = absurd (omega arith)
none false false true t6 t7 h = absurd (omega arith)
none false false false true t7 h = absurd (omega arith)
none false false false false true h = absurd (omega arith)
none false false false false false h = (refl, refl, refl, refl, refl)

pub none_any : (p : Extent → Bool) (es : List Extent) → any_of p es ≡ false → All (λ a. p a ≡ false) es
unfolding any_of
none_any p [] h = tt
none_any p (a ∷ es) h = (or_left (p a) _ h, none_any p es (or-rest (p a) _ h))

pub any_none : (p : Extent → Bool) (es : List Extent) → All (λ a. p a ≡ false) es → any_of p es ≡ false
unfolding any_of
any_none p [] h = refl
any_none p (a ∷ es) h = rw (h.0, any_none p es h.1)

-- ---- rules 3, 4 and 5
sound : (e : Extent) → unknown_state e ≡ false → no_length e ≡ false → too_far e ≡ false → Sound e
unfolding too_far
sound e h3 h4 h5 =
    let known : e.state ≤ 3 = ltb-false 3 e.state h3 in
    let some : e.len ≡ 0 → ⊥ = eqb-false e.len 0 h4 in
    let file : e.offset + e.len ≤ 2 ^ 64 - 1 = ltb-false (2 ^ 64 - 1) (e.offset + e.len) (or_left (ltb (2 ^ 64 - 1) (e.offset + e.len)) _ h5) in
    record { known = known; some = omega arith; in-file = omega arith; in-storage = by (eqb e.state 3) refl (or-rest (ltb (2 ^ 64 - 1) (e.offset + e.len)) _ h5) }
  where
    by : (t : Bool) → eqb e.state 3 ≡ t → (not t && ltb (2 ^ 64 - 1) (e.storage + e.len)) ≡ false → (e.state ≡ 3) ⊎ (e.storage + e.len < 2 ^ 64)
    by true q h = inl (eqb-true e.state 3 q)
    by false q h =
        let le : e.storage + e.len ≤ 2 ^ 64 - 1 = ltb-false (2 ^ 64 - 1) (e.storage + e.len) h in
        inr (omega arith)

sound-far : (e : Extent) → Sound e → too_far e ≡ false
unfolding too_far
sound-far e s = rw (le-ltb (2 ^ 64 - 1) (e.offset + e.len) (omega (arith, s.in-file))) (by s.in-storage)
  where
    by : (e.state ≡ 3) ⊎ (e.storage + e.len < 2 ^ 64) → (not (eqb e.state 3) && ltb (2 ^ 64 - 1) (e.storage + e.len)) ≡ false
    by (inl q) = rw (eq-eqb e.state 3 q)
    by (inr h) = at (eqb e.state 3)
      where
        at : (t : Bool) → (not t && ltb (2 ^ 64 - 1) (e.storage + e.len)) ≡ false
        at true = refl
        at false = le-ltb (2 ^ 64 - 1) (e.storage + e.len) (omega arith)

-- ---- rules 6 and 7 on two extents: e is judged after a
module _ (a e : Extent) where
  clash-before : Sound a → Sound e → a.offset ≤ e.offset → (a.state ≡ 2 → e.state ≡ 1 → e.offset ≡ a.offset → ⊥) → clash e a ≡ false → Before a e
  clash-before sa se o tie c = by (dec_le (a.offset + a.len) e.offset)
    where
      shared : (a.offset + a.len ≤ e.offset → ⊥) → (ReadAndInvalid e a → ⊥) → ⊥
      shared h n =
          true≢false
          (sym
          (holds e a e.offset (record { from = o; below = omega arith }) (record { from = omega arith; below = omega (arith, se.some) }) n)
          ∙ c)

      by-states : (a.offset + a.len ≤ e.offset → ⊥) → Dec (a.state ≡ 1) → Dec (e.state ≡ 2) → Dec (a.state ≡ 2) → Dec (e.state ≡ 1) → Before a e
      by-states h (yes p) (yes q) d f = read_first p q o
      by-states h (yes p) (no q) d f = absurd (shared h (λ r. two r))
        where
          two : ReadAndInvalid e a → ⊥
          two (inl (x, y)) = omega arith
          two (inr (x, y)) = q x
      by-states h (no p) d (yes q) (yes r) = invalid-first q r (let ne : e.offset ≡ a.offset → ⊥ = tie q r in omega arith)
      by-states h (no p) d (yes q) (no r) = absurd (shared h (λ r'. two r'))
        where
          two : ReadAndInvalid e a → ⊥
          two (inl (x, y)) = r x
          two (inr (x, y)) = p y
      by-states h (no p) d (no q) f = absurd (shared h (λ r'. two r'))
        where
          two : ReadAndInvalid e a → ⊥
          two (inl (x, y)) = q y
          two (inr (x, y)) = p y

      by : Dec (a.offset + a.len ≤ e.offset) → Before a e
      by (yes h) = apart h
      by (no h) = by-states h (ℕ_discrete a.state 1) (ℕ_discrete e.state 2) (ℕ_discrete a.state 2) (ℕ_discrete e.state 1)

  before-clash : Before a e → clash e a ≡ false
  before-clash b =
      by_cases (clash e a) (λ c.
      let s = said e a c in
      no-share b s.0 s.1 s.2 s.3)
    where
      no-share : Before a e → (x : ℕ) → Covers a x → Covers e x → (ReadAndInvalid e a → ⊥) → ⊥
      no-share (apart h) x c d n = omega arith
      no-share (read_first p q h) x c d n = n (inr (q, p))
      no-share (invalid-first p q h) x c d n = n (inl (q, p))

  -- of two extents at one offset the first is read
  no_tie : Sound a → Before a e → a.state ≡ 2 → e.offset ≡ a.offset → ⊥
  no_tie s (apart h) q o = omega (arith, s.some)
  no_tie s (read_first p r h) q o = omega arith
  no_tie s (invalid-first p r h) q o = omega arith

-- ---- rule 6 after all the extents passed
order-tests : (x y : ℕ) (t : Bool) → (ltb x y || t) ≡ false → y ≤ x
order-tests x y t h = ltb-false x y (or_left (ltb x y) t h)

tie-tests : (p s x y : ℕ) → (eqb p 2 && (eqb s 1 && eqb x y)) ≡ false → p ≡ 2 → s ≡ 1 → x ≡ y → ⊥
tie-tests p s x y h p2 s1 xy =
    let q : (true && (true && true)) ≡ false = rw (eq-eqb p 2 p2, eq-eqb s 1 s1, eq-eqb x y xy) at h in
    true≢false q

judged : (earlier : List Extent) (e : Extent) → Past earlier → Sound e → out_of_order earlier e ≡ false → All (λ a. clash e a ≡ false) earlier → All (λ a. Before a e) earlier
unfolding out_of_order
judged [] e past s o c = tt
judged (p ∷ earlier) e past s o c =
    let le : p.offset ≤ e.offset = order-tests e.offset p.offset _ o in (
      clash-before p e past.0 s le (tie-tests p.state e.state e.offset p.offset (or-rest (ltb e.offset p.offset) _ o)) c.0,
      each earlier past.1 past.2 c.1 le,
    )
  where
    each : (old : List Extent) → All (λ a. Before a p) old → Past old → All (λ a. clash e a ≡ false) old → p.offset ≤ e.offset → All (λ a. Before a e) old
    each [] b q d le = tt
    each (a ∷ old) b q d le = (
      clash-before a e q.0 s (omega (arith, in_order a p b.0)) (λ x y o'. no_tie a p q.0 b.0 x (omega (arith, in_order a p b.0))) d.0,
      each old b.1 q.2 d.1 le,
    )

passed : (earlier : List Extent) (e : Extent) → Past earlier → refusal earlier e ≡ 0 → Sound e × All (λ a. Before a e) earlier
unfolding refusal
passed earlier e past h =
    let n = none (unknown_state e) (no_length e) (too_far e) (out_of_order earlier e) (any_of (clash e) earlier) h in
    let s = sound e n.0 n.1 n.2 in
    (s, judged earlier e past s n.3 (none_any (clash e) earlier n.4))

in-order-test : (earlier : List Extent) (e : Extent) → Past earlier → All (λ a. Before a e) earlier → out_of_order earlier e ≡ false
unfolding out_of_order
in-order-test [] e past b = refl
in-order-test (p ∷ earlier) e past b =
    rw (le-ltb e.offset p.offset (in_order p e b.0))
    (by_cases (eqb p.state 2 && (eqb e.state 1 && eqb e.offset p.offset)) (λ t.
    let (x, y) = and_both (eqb p.state 2) _ t in
    let (z, w) = and_both (eqb e.state 1) (eqb e.offset p.offset) y in
    no_tie p e past.0 b.0 (eqb-true p.state 2 x) (eqb-true e.offset p.offset w)))

not-refused : (earlier : List Extent) (e : Extent) → Past earlier → Sound e → All (λ a. Before a e) earlier → refusal earlier e ≡ 0
unfolding refusal
not-refused earlier e past s b =
    rw (
      le-ltb 3 e.state s.known,
      ne_eqb e.len 0 (omega (arith, s.some)),
      sound-far e s,
      in-order-test earlier e past b,
      any_none (clash e) earlier (all_map (λ a. before-clash a e) earlier b),
    )

-- ---- a list passes exactly when it is valid
goes_on : (k i m : ℕ) (v : Verdict) → answer k i v ≡ Accepted m → (k ≡ 0) × (v ≡ Accepted m)
goes_on zero i m v h = (refl, h)
goes_on (suc k) i m v h =
    let z : ◌≡◌ {A = ℕ} 0 1 = cc in
    absurd (omega arith)

accepted-valid : (earlier : List Extent) (i m : ℕ) (es : List Extent) → Past earlier → verdict earlier i es ≡ Accepted m → All (λ e. All (λ a. Before a e) earlier) es × Valid es
unfolding verdict
accepted-valid earlier i m [] past h = (tt, tt)
accepted-valid earlier i m (e ∷ es) past h =
    let g = goes_on (refusal earlier e) i m _ h in
    let p = passed earlier e past g.0 in
    let rest = accepted-valid (e ∷ earlier) (i + 1) m es (p.0, p.1, past) g.1 in
    ((p.1, all_map (λ c b. b.1) es rest.0), (p.0, all_map (λ c b. b.0) es rest.0, rest.1))

valid-accepted : (earlier : List Extent) (i : ℕ) (es : List Extent) → Past earlier → All (λ e. All (λ a. Before a e) earlier) es → Valid es → verdict earlier i es ≡ Accepted (i + length es)
unfolding verdict
valid-accepted earlier i [] past b v = ap Accepted (omega arith)
valid-accepted earlier i (e ∷ es) past b v =
    rw (not-refused earlier e past v.0 b.0)
    (valid-accepted (e ∷ earlier) (i + 1) es (v.0, b.0, past) (all-map₂ (λ c x y. (x, y)) es v.1 b.1) v.2
    ∙ ap Accepted (omega arith))

pub passes-valid : (es : List Extent) (n : ℕ) → verdict [] 0 es ≡ Accepted n → Valid es
passes-valid es n h = (accepted-valid [] 0 n es tt h).1

pub valid-passes : (es : List Extent) → Valid es → verdict [] 0 es ≡ Accepted (length es)
valid-passes es v = valid-accepted [] 0 es tt (all_map (λ e s. tt) es (sounds es v)) v ∙ ap Accepted (omega arith)
