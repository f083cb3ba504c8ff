-- The laws of a run: one extent, and one more among the runs. In this order: bytes; extents that give a byte the same meaning; plain
-- extents; one that follows another, and the two as one; one more among the runs: what they say, that they stay valid, apart and plain; all of a list.
use Prim.Native.Nat.{ℕ, ◌+◌, ◌-◌, ◌^◌, ◌<◌, ◌≤◌}
use mathlib.Core.Path.{◌≡◌, refl, sym, ap, ◌∙◌}
use mathlib.Core.List.{List, [], ◌∷◌, ◌++◌, append-nil, append_assoc, map}
use mathlib.Core.Logic.{◌⊎◌, inl, inr, ◌↔◌}
use mathlib.Core.Bool.{Bool, true, false, cond, ◌&&◌, ◌||◌}
use native.Mathlib.Omega.{arith}
use native.Mathlib.Decide.{dec_lt, ℕ_discrete}
use borrow.Author.Tests.{eq-eqb, eqb-true, eqb-false}
use lib.Dec.{eqb}
use lib.ListN.{replicate}
use Rattle.extents.specs.declared.Extent.{Extent}
use Rattle.merging.specs.Meaning.{All, Meaning, stored, hole, meaning_of, Gives, Says}
use Rattle.xdr.specs.Reader.{same_bytes}
use Rattle.xdr.proofs.Bytes.{same-are}
use Rattle.extents.proofs.Sentences.{and_both, by_cases}
use Rattle.merging.specs.Merged.{plain, follows, grown, place, joined}
use Rattle.merging.proofs.Rules.{all_map, all-map₂, Sound, Before, apart, read_first, invalid-first, in_order, Valid, sounds, all_append}

-- ---- bytes that are compared with themselves
pub are-same : (s : List ℕ) → same_bytes s s ≡ true
unfolding same_bytes
are-same [] = refl
are-same (a ∷ s) = rw (eq-eqb a a refl) (are-same s)

-- ---- two extents that give the byte x the same meaning
pub record Alike (x : ℕ) (a e : Extent) : Type 0 where
  pub states : a.state ≡ e.state
  pub kept : (e.state ≡ 3) ⊎ ((a.device ≡ e.device) × (a.storage + (x - a.offset) ≡ e.storage + (x - e.offset)))

pub alike : (x : ℕ) (a e : Extent) → meaning_of a x ≡ meaning_of e x → Alike x a e
unfolding meaning_of
alike x a e h = by (eqb a.state 3) refl (eqb e.state 3) refl h
  where
    at : Extent → Meaning
    at c = stored c.state c.device (c.storage + (x - c.offset))

    by : (s : Bool) → eqb a.state 3 ≡ s → (t : Bool) → eqb e.state 3 ≡ t → cond s hole (at a) ≡ cond t hole (at e) → Alike x a e
    by true p true q g =
        let y : a.state ≡ 3 = eqb-true a.state 3 p in
        let z : e.state ≡ 3 = eqb-true e.state 3 q in
        record { states = omega arith; kept = inl z }
    by true p false q g =
        let z : ◌≡◌ {A = ℕ} 0 1 = cc in
        absurd (omega arith)
    by false p true q g =
        let z : ◌≡◌ {A = ℕ} 0 1 = cc in
        absurd (omega arith)
    by false p false q g = record { states = cc; kept = inr (cc, cc) }

pub alike-means : (x : ℕ) (a e : Extent) → Alike x a e → meaning_of a x ≡ meaning_of e x
unfolding meaning_of
alike-means x a e h = by h.kept
  where
    by : (e.state ≡ 3) ⊎ ((a.device ≡ e.device) × (a.storage + (x - a.offset) ≡ e.storage + (x - e.offset))) → meaning_of a x ≡ meaning_of e x
    by (inl q) = rw (h.states, eq-eqb e.state 3 q)
    by (inr (d, b)) = rw (h.states, d, b)

-- ---- plain extents: a hole has device and storage offset 0
abbrev pub Plain : Extent → Type 0
Plain e = e.state ≡ 3 → (e.device ≡ replicate 16 0) × (e.storage ≡ 0)

pub record Shape (a e : Extent) : Type 0 where
  pub offsets : a.offset ≡ e.offset
  pub lens : a.len ≡ e.len
  pub alikes : (x : ℕ) → Alike x a e
  pub storages : (e.state ≡ 3) ⊎ (a.storage ≡ e.storage)
  pub plainly : Plain a

pub plain-shape : (e : Extent) → Shape (plain e) e
unfolding plain
plain-shape e = by (eqb e.state 3) refl
  where
    blank : Extent
    blank = record { device = replicate 16 0; offset = e.offset; len = e.len; storage = 0; state = e.state }

    by : (t : Bool) → eqb e.state 3 ≡ t → Shape (cond t blank e) e
    by true q =
        let z : e.state ≡ 3 = eqb-true e.state 3 q in
        record { offsets = refl; lens = refl; alikes = λ x. record { states = refl; kept = inl z }; storages = inl z; plainly = λ s. (refl, refl) }
    by false q =
        record { offsets = refl; lens = refl; alikes = λ x. record { states = refl; kept = inr (refl, refl) }; storages = inr refl; plainly = λ s. absurd (eqb-false e.state 3 q s) }

pub plain-again : (e : Extent) → Plain e → plain e ≡ e
unfolding plain
plain-again e p = by (eqb e.state 3) refl
  where
    blank : Extent
    blank = record { device = replicate 16 0; offset = e.offset; len = e.len; storage = 0; state = e.state }

    by : (t : Bool) → eqb e.state 3 ≡ t → cond t blank e ≡ e
    by true q =
        let z = p (eqb-true e.state 3 q) in
        λ i. record { device = sym z.0 i; offset = e.offset; len = e.len; storage = sym z.1 i; state = e.state }
    by false q = refl

-- only a hole changes
pub plain-keeps : (e : Extent) → (e.state ≡ 3) ⊎ (plain e ≡ e)
unfolding plain
plain-keeps e = by (eqb e.state 3) refl
  where
    blank : Extent
    blank = record { device = replicate 16 0; offset = e.offset; len = e.len; storage = 0; state = e.state }

    by : (t : Bool) → eqb e.state 3 ≡ t → (e.state ≡ 3) ⊎ (cond t blank e ≡ e)
    by true q = inl (eqb-true e.state 3 q)
    by false q = inr refl

pub plain-sound : (e : Extent) → Sound e → Sound (plain e)
plain-sound e s =
    let p = plain-shape e in
    let st : (plain e).state ≡ e.state = (p.alikes 0).states in
    record {
      known = omega (arith, st, s.known);
      some = omega (arith, p.lens, s.some);
      in-file = omega (arith, p.offsets, p.lens, s.in-file);
      in-storage = by st p.lens p.storages s.in-storage;
    }
  where
    by : (plain e).state ≡ e.state → (plain e).len ≡ e.len → (e.state ≡ 3) ⊎ ((plain e).storage ≡ e.storage) → (e.state ≡ 3) ⊎ (e.storage + e.len < 2 ^ 64)
        → ((plain e).state ≡ 3) ⊎ ((plain e).storage + (plain e).len < 2 ^ 64)
    by st l (inl z) h = inl (omega arith)
    by st l (inr q) (inl z) = inl (omega arith)
    by st l (inr q) (inr h) = inr (omega arith)

pub plain-before : (a e : Extent) → Before a e → Before (plain a) (plain e)
plain-before a e b = by (plain-shape a).offsets (plain-shape a).lens ((plain-shape a).alikes 0).states (plain-shape e).offsets ((plain-shape e).alikes 0).states b
  where
    by : (plain a).offset ≡ a.offset → (plain a).len ≡ a.len → (plain a).state ≡ a.state → (plain e).offset ≡ e.offset → (plain e).state ≡ e.state → Before a e → Before (plain a) (plain e)
    by ao al as' eo es' (apart h) = apart (omega arith)
    by ao al as' eo es' (read_first p q h) = read_first (omega arith) (omega arith) (omega arith)
    by ao al as' eo es' (invalid-first p q h) = invalid-first (omega arith) (omega arith) (omega arith)

pub plain-gives : (x : ℕ) (m : Meaning) (e : Extent) → Gives x m e ↔ Gives x m (plain e)
plain-gives x m e = (there, back)
  where
    means : meaning_of (plain e) x ≡ meaning_of e x
    means = alike-means x (plain e) e ((plain-shape e).alikes x)

    there : Gives x m e → Gives x m (plain e)
    there g =
        let p = plain-shape e in
        record { over = record { from = omega (arith, p.offsets, g.over.from); below = omega (arith, p.offsets, p.lens, g.over.below) }; means = means ∙ g.means }

    back : Gives x m (plain e) → Gives x m e
    back g =
        let p = plain-shape e in
        record { over = record { from = omega (arith, p.offsets, g.over.from); below = omega (arith, p.offsets, p.lens, g.over.below) }; means = sym means ∙ g.means }

pub plain-valid : (es : List Extent) → Valid es → Valid (map plain es)
plain-valid [] v = tt
plain-valid (e ∷ es) v = (plain-sound e v.0, each es v.1, plain-valid es v.2)
  where
    each : (cs : List Extent) → All (Before e) cs → All (Before (plain e)) (map plain cs)
    each [] b = tt
    each (c ∷ cs) b = (plain-before e c b.0, each cs b.1)

pub all_plain : (es : List Extent) → All Plain (map plain es)
all_plain [] = tt
all_plain (e ∷ es) = ((plain-shape e).plainly, all_plain es)

pub plain-says : (x : ℕ) (m : Meaning) (es : List Extent) → Says es x m ↔ Says (map plain es) x m
plain-says x m es = (there es, back es)
  where
    there : (cs : List Extent) → Says cs x m → Says (map plain cs) x m
    there [] x = elim x [ ]
    there (c ∷ cs) (inl g) = inl ((plain-gives x m c).0 g)
    there (c ∷ cs) (inr s) = inr (there cs s)

    back : (cs : List Extent) → Says (map plain cs) x m → Says cs x m
    back [] x = elim x [ ]
    back (c ∷ cs) (inl g) = inl ((plain-gives x m c).1 g)
    back (c ∷ cs) (inr s) = inr (back cs s)

pub plain-all : (es : List Extent) → All Plain es → map plain es ≡ es
plain-all [] p = refl
plain-all (e ∷ es) p = rw (plain-again e p.0, plain-all es p.1)

-- ---- e begins just where a ends
pub record Follows (a e : Extent) : Type 0 where
  pub states : a.state ≡ e.state
  pub in-file : a.offset + a.len ≡ e.offset
  pub in-storage : (e.state ≡ 3) ⊎ ((a.device ≡ e.device) × (a.storage + a.len ≡ e.storage))

pub follows_said : (a e : Extent) → follows a e ≡ true → Follows a e
unfolding follows
follows_said a e h =
    let (s, rest) = and_both (eqb a.state e.state) _ h in
    let (o, k) = and_both (eqb (a.offset + a.len) e.offset) _ rest in
    record { states = eqb-true a.state e.state s; in-file = eqb-true (a.offset + a.len) e.offset o; in-storage = by (eqb e.state 3) refl k }
  where
    by : (t : Bool) → eqb e.state 3 ≡ t → (t || same_bytes a.device e.device && eqb (a.storage + a.len) e.storage) ≡ true
        → (e.state ≡ 3) ⊎ ((a.device ≡ e.device) × (a.storage + a.len ≡ e.storage))
    by true q g = inl (eqb-true e.state 3 q)
    by false q g =
        let (d, b) = and_both (same_bytes a.device e.device) _ g in
        inr (same-are a.device e.device d, eqb-true (a.storage + a.len) e.storage b)

pub follows-holds : (a e : Extent) → Follows a e → follows a e ≡ true
unfolding follows
follows-holds a e f = rw (eq-eqb a.state e.state f.states, eq-eqb (a.offset + a.len) e.offset f.in-file) (by f.in-storage)
  where
    or-true : (t : Bool) → (t || true) ≡ true
    or-true true = refl
    or-true false = refl

    by : (e.state ≡ 3) ⊎ ((a.device ≡ e.device) × (a.storage + a.len ≡ e.storage)) → (eqb e.state 3 || same_bytes a.device e.device && eqb (a.storage + a.len) e.storage) ≡ true
    by (inl q) = rw (eq-eqb e.state 3 q)
    by (inr (d, b)) = rw (d, are-same e.device, eq-eqb (a.storage + a.len) e.storage b) (or-true (eqb e.state 3))

-- for what stands before and after it, a hole without device and storage is that hole
hole-follows : (a c : Extent) → c.state ≡ 3 → follows a c ≡ (eqb a.state 3 && (eqb (a.offset + a.len) c.offset && true))
unfolding follows
hole-follows a c q = rw q

pub plain_follows : (e c : Extent) → follows (plain e) c ≡ follows e c
plain_follows e c = by (plain-keeps e) (ℕ_discrete c.state 3)
  where
    p : Shape (plain e) e
    p = plain-shape e

    by : (e.state ≡ 3) ⊎ (plain e ≡ e) → Dec (c.state ≡ 3) → follows (plain e) c ≡ follows e c
    by (inr q) d = ap (λ (x : Extent). follows x c) q
    by (inl h) (yes s) = rw (hole-follows (plain e) c s, hole-follows e c s, p.offsets, p.lens, (p.alikes 0).states)
    by (inl h) (no s) =
        by_cases (follows (plain e) c) (λ t. s (sym (follows_said (plain e) c t).states ∙ (p.alikes 0).states ∙ h))
        ∙ sym (by_cases (follows e c) (λ t. s (sym (follows_said e c t).states ∙ h)))

pub follows-plain : (a e : Extent) → follows a (plain e) ≡ follows a e
follows-plain a e = by (plain-keeps e)
  where
    p : Shape (plain e) e
    p = plain-shape e

    by : (e.state ≡ 3) ⊎ (plain e ≡ e) → follows a (plain e) ≡ follows a e
    by (inr q) = ap (follows a) q
    by (inl h) = rw (hole-follows a (plain e) ((p.alikes 0).states ∙ h), hole-follows a e h, p.offsets)

-- ---- the two as one
plain-resized : (a : Extent) (n : ℕ)
    → plain (record { device = a.device; offset = a.offset; len = a.len + n; storage = a.storage; state = a.state })
    ≡ record { device = (plain a).device; offset = (plain a).offset; len = (plain a).len + n; storage = (plain a).storage; state = (plain a).state }
unfolding plain
plain-resized a n = by (eqb a.state 3)
  where
    blank : ℕ → Extent
    blank m = record { device = replicate 16 0; offset = a.offset; len = m; storage = 0; state = a.state }

    as_one : Extent → Extent
    as_one c = record { device = c.device; offset = c.offset; len = c.len + n; storage = c.storage; state = c.state }

    by : (t : Bool) → cond t (blank (a.len + n)) (as_one a) ≡ as_one (cond t (blank a.len) a)
    by true = refl
    by false = refl

pub plain-grown : (a e : Extent) → plain (grown a e) ≡ grown (plain a) (plain e)
plain-grown a e =
    plain-resized a e.len
    ∙ ap (λ (n : ℕ). record { device = (plain a).device; offset = (plain a).offset; len = (plain a).len + n; storage = (plain a).storage; state = (plain a).state })
    (sym (plain-shape e).lens)

module _ (a e : Extent) (f : Follows a e) where
  grown-sound : Sound a → Sound e → Sound (grown a e)
  grown-sound s t =
      record {
        known = s.known;
        some = omega (arith, s.some);
        in-file = omega (arith, f.in-file, t.in-file);
        in-storage = by f.in-storage t.in-storage;
      }
    where
      by : (e.state ≡ 3) ⊎ ((a.device ≡ e.device) × (a.storage + a.len ≡ e.storage)) → (e.state ≡ 3) ⊎ (e.storage + e.len < 2 ^ 64) → (a.state ≡ 3) ⊎ (a.storage + (a.len + e.len) < 2 ^ 64)
      by (inl q) h = inl (f.states ∙ q)
      by (inr r) (inl q) = inl (f.states ∙ q)
      by (inr (d, b)) (inr h) = inr (omega arith)

  grown-gives : (x : ℕ) (m : Meaning) → Gives x m (grown a e) ↔ (Gives x m e ⊎ Gives x m a)
  unfolding meaning_of
  grown-gives x m = (split, ⊎-both)
    where
      later : e.offset ≤ x → meaning_of (grown a e) x ≡ meaning_of e x
      later h = alike-means x (grown a e) e (record { states = f.states; kept = by f.in-storage })
        where
          by : (e.state ≡ 3) ⊎ ((a.device ≡ e.device) × (a.storage + a.len ≡ e.storage)) → (e.state ≡ 3) ⊎ ((a.device ≡ e.device) × (a.storage + (x - a.offset) ≡ e.storage + (x - e.offset)))
          by (inl q) = inl q
          by (inr (d, b)) = inr (d, omega (arith, f.in-file))

      split : Gives x m (grown a e) → Gives x m e ⊎ Gives x m a
      split g = by (dec_lt x e.offset)
        where
          by : Dec (x < e.offset) → Gives x m e ⊎ Gives x m a
          by (yes h) = inr (record { over = record { from = g.over.from; below = omega (arith, f.in-file) }; means = g.means })
          by (no h) =
              let le : e.offset ≤ x = omega arith in
              inl (record { over = record { from = le; below = omega (arith, f.in-file, g.over.below) }; means = sym (later le) ∙ g.means })

      ⊎-both : Gives x m e ⊎ Gives x m a → Gives x m (grown a e)
      ⊎-both (inl g) = record { over = record { from = omega (arith, f.in-file, g.over.from); below = omega (arith, f.in-file, g.over.below) }; means = later g.over.from ∙ g.means }
      ⊎-both (inr g) = record { over = record { from = g.over.from; below = omega (arith, g.over.below) }; means = g.means }

  -- a run that grows still stands before what it stood before
  grown-before : (c : Extent) → Before a c → Before e c → Before (grown a e) c
  grown-before c b (apart h) = apart (omega (arith, f.in-file))
  grown-before c b (read_first p q h) = read_first (f.states ∙ p) q (in_order a c b)
  grown-before c b (invalid-first p q h) = invalid-first (f.states ∙ p) q (omega (arith, f.in-file))

  -- and before what came between the two
  grown-between : (c : Extent) → Sound a → Sound c → Before a c → Before c e → Before (grown a e) c
  grown-between c r s (read_first p q h) d = read_first p q h
  grown-between c r s (invalid-first p q h) d = invalid-first p q h
  grown-between c r s (apart h) (apart g) = absurd (omega (arith, f.in-file, s.some))
  grown-between c r s (apart h) (read_first p q g) = invalid-first (f.states ∙ q) p (omega (arith, r.some))
  grown-between c r s (apart h) (invalid-first p q g) = absurd (omega (arith, f.in-file))

-- what stands before a stands before the two as one
before-grown : (a c e : Extent) → Before a c → Before a (grown c e)
before-grown a c e (apart h) = apart h
before-grown a c e (read_first p q h) = read_first p q h
before-grown a c e (invalid-first p q h) = invalid-first p q h

follows-grown : (a c e : Extent) → follows a c ≡ false → follows a (grown c e) ≡ false
unfolding follows
follows-grown a c e h = h

-- ---- one more among the runs
pub all-place : {P : Extent → Type 0} (e : Extent) → ((a : Extent) → Follows a e → P a → P (grown a e)) → P e → (runs : List Extent) → All P runs → All P (place e runs)
unfolding place
all-place e grows p [] h = (p, tt)
all-place {P} e grows p (a ∷ runs) h = by (follows a e) refl (all-place e grows p runs h.1)
  where
    by : (t : Bool) → follows a e ≡ t → All P (place e runs) → All P (cond t (grown a e ∷ runs) (a ∷ place e runs))
    by true q ih = (grows a (follows_said a e q) h.0, h.1)
    by false q ih = (h.0, ih)

pub place-says : (x : ℕ) (m : Meaning) (e : Extent) (runs : List Extent) → Says (place e runs) x m ↔ (Gives x m e ⊎ Says runs x m)
unfolding place
place-says x m e [] = (λ s. s, λ s. s)
place-says x m e (a ∷ runs) = by (follows a e) refl (place-says x m e runs)
  where
    by : (t : Bool) → follows a e ≡ t → Says (place e runs) x m ↔ (Gives x m e ⊎ Says runs x m)
        → Says (cond t (grown a e ∷ runs) (a ∷ place e runs)) x m ↔ (Gives x m e ⊎ Says (a ∷ runs) x m)
    by true q ih = (there, back)
      where
        g : Gives x m (grown a e) ↔ (Gives x m e ⊎ Gives x m a)
        g = grown-gives a e (follows_said a e q) x m

        there : Says (grown a e ∷ runs) x m → Gives x m e ⊎ Says (a ∷ runs) x m
        there (inl h) = ⊎-map-right (g.0 h)
          where
            ⊎-map-right : Gives x m e ⊎ Gives x m a → Gives x m e ⊎ Says (a ∷ runs) x m
            ⊎-map-right (inl k) = inl k
            ⊎-map-right (inr k) = inr (inl k)
        there (inr s) = inr (inr s)

        back : Gives x m e ⊎ Says (a ∷ runs) x m → Says (grown a e ∷ runs) x m
        back (inl k) = inl (g.1 (inl k))
        back (inr (inl k)) = inl (g.1 (inr k))
        back (inr (inr s)) = inr s
    by false q ih = (there, back)
      where
        there : Says (a ∷ place e runs) x m → Gives x m e ⊎ Says (a ∷ runs) x m
        there (inl k) = inr (inl k)
        there (inr s) = further (ih.0 s)
          where
            further : Gives x m e ⊎ Says runs x m → Gives x m e ⊎ Says (a ∷ runs) x m
            further (inl k) = inl k
            further (inr k) = inr (inr k)

        back : Gives x m e ⊎ Says (a ∷ runs) x m → Says (a ∷ place e runs) x m
        back (inl k) = inr (ih.1 (inl k))
        back (inr (inl k)) = inl k
        back (inr (inr s)) = inr (ih.1 (inr s))

-- all of them stand before e
abbrev pub Later : List Extent → Extent → Type 0
Later runs e = All (λ a. Before a e) runs

pub place-valid : (e : Extent) (runs : List Extent) → Valid runs → Sound e → Later runs e → Valid (place e runs)
unfolding place
place-valid e [] v s l = (s, tt, tt)
place-valid e (a ∷ runs) v s l = by (follows a e) refl (place-valid e runs v.2 s l.1)
  where
    by : (t : Bool) → follows a e ≡ t → Valid (place e runs) → Valid (cond t (grown a e ∷ runs) (a ∷ place e runs))
    by true q ih =
        let f = follows_said a e q in (
          grown-sound a e f v.0 s,
          all-map₂ (λ c x y. grown-between a e f c v.0 x.0 x.1 y) runs (all-map₂ {R = λ c. Sound c × Before a c} (λ c x y. (x, y)) runs (sounds runs v.2) v.1) l.1,
          v.2,
        )
    by false q ih = (v.0, all-place e (λ c f b. before-grown a c e b) l.0 runs v.1, ih)

pub place-later : (e c : Extent) (runs : List Extent) → Later runs c → Before e c → Later (place e runs) c
place-later e c runs l b = all-place e (λ a f x. grown-before a e f c x b) b runs l

-- no run of them follows an earlier one
abbrev pub Unmerged : List Extent → Type 0
Unmerged [] = Unit {0}
Unmerged (a ∷ runs) = All (λ c. follows a c ≡ false) runs × Unmerged runs

pub place-unmerged : (e : Extent) (runs : List Extent) → Unmerged runs → Sound e → Later runs e → Unmerged (place e runs)
unfolding place
place-unmerged e [] u s l = (tt, tt)
place-unmerged e (a ∷ runs) u s l = by (follows a e) refl (place-unmerged e runs u.1 s l.1)
  where
    past : Follows a e → (c : Extent) → Before c e → follows (grown a e) c ≡ false
    past f c b = by_cases (follows (grown a e) c) (λ t.
        let g = follows_said (grown a e) c t in
        omega (arith, g.in-file, f.in-file, in_order c e b, s.some))

    by : (t : Bool) → follows a e ≡ t → Unmerged (place e runs) → Unmerged (cond t (grown a e ∷ runs) (a ∷ place e runs))
    by true q ih = (all_map (past (follows_said a e q)) runs l.1, u.1)
    by false q ih = (all-place e (λ c f h. follows-grown a c e h) q runs u.0, ih)

-- ---- all of a list
pub joined_says : (x : ℕ) (m : Meaning) (runs es : List Extent) → Says (joined runs es) x m ↔ (Says es x m ⊎ Says runs x m)
unfolding joined
joined_says x m runs [] = (inr, none)
  where
    none : Says [] x m ⊎ Says runs x m → Says runs x m
    none (inl x) = elim x [ ]
    none (inr s) = s
joined_says x m runs (e ∷ es) = by (joined_says x m (place e runs) es) (place-says x m e runs)
  where
    by : Says (joined (place e runs) es) x m ↔ (Says es x m ⊎ Says (place e runs) x m) → Says (place e runs) x m ↔ (Gives x m e ⊎ Says runs x m)
        → Says (joined (place e runs) es) x m ↔ (Says (e ∷ es) x m ⊎ Says runs x m)
    by ih p = (λ s. there (ih.0 s), λ s. ih.1 (back s))
      where
        new : Gives x m e ⊎ Says runs x m → Says (e ∷ es) x m ⊎ Says runs x m
        new (inl g) = inl (inl g)
        new (inr s) = inr s

        there : Says es x m ⊎ Says (place e runs) x m → Says (e ∷ es) x m ⊎ Says runs x m
        there (inl s) = inl (inr s)
        there (inr s) = new (p.0 s)

        back : Says (e ∷ es) x m ⊎ Says runs x m → Says es x m ⊎ Says (place e runs) x m
        back (inl (inl g)) = inr (p.1 (inl g))
        back (inl (inr s)) = inl s
        back (inr s) = inr (p.1 (inr s))

-- what holds of the runs when all are joined: they are valid, none follows another, and they are plain
pub record Canonical (es : List Extent) : Type 0 where
  pub valid : Valid es
  pub unmerged : Unmerged es
  pub plains : All Plain es

pub joined-canonical : (runs es : List Extent) → Canonical runs → Valid es → All Plain es → All (Later runs) es → Canonical (joined runs es)
unfolding joined
joined-canonical runs [] k v p l = k
joined-canonical runs (e ∷ es) k v p l =
    joined-canonical (place e runs) es
    (record {
      valid = place-valid e runs k.valid v.0 l.0;
      unmerged = place-unmerged e runs k.unmerged v.0 l.0;
      plains = all-place e (λ a f h. h) p.0 runs k.plains;
    })
    v.2
    p.1
    (all-map₂ (λ c b l'. place-later e c runs l' b) es v.1 l.1)

-- what is joined already stays as it is
pub place-last : (e : Extent) (runs : List Extent) → All (λ a. follows a e ≡ false) runs → place e runs ≡ runs ++ (e ∷ [])
unfolding place
place-last e [] h = refl
place-last e (a ∷ runs) h = rw (h.0, place-last e runs h.1)

pub joined-settled : (runs es : List Extent) → Unmerged es → All (λ e. All (λ a. follows a e ≡ false) runs) es → joined runs es ≡ runs ++ es
unfolding joined
joined-settled runs [] u h = sym (append-nil runs)
joined-settled runs (e ∷ es) u h =
    rw (place-last e runs h.0)
    (joined-settled (runs ++ (e ∷ [])) es u.1 (all-map₂ (λ c x y. all_append (λ a. follows a c ≡ false) runs (e ∷ []) y (x, tt)) es u.0 h.1)
    ∙ append_assoc runs (e ∷ []) es)
