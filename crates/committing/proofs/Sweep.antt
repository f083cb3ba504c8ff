-- The sweep of a commit. In this order: tests of a byte; a byte between two cuts has the neighbours of the first; the parts that are chosen; what is
-- said between two cuts; that it is valid; the sweep over all cuts.
use Prim.Native.Nat.{ℕ, ◌+◌, ◌-◌, ◌^◌, ◌<◌, ◌≤◌}
use mathlib.Core.Path.{◌≡◌, refl, sym, ap, ◌∙◌}
use mathlib.Core.List.{List, [], ◌∷◌, ◌++◌, map}
use mathlib.Core.Logic.{◌⊎◌, inl, inr, ◌↔◌}
use mathlib.Core.Bool.{Bool, true, false, cond, not, ◌&&◌, ◌||◌, false≢true}
use native.Mathlib.Omega.{arith}
use native.Mathlib.Decide.{dec_lt}
use borrow.Author.Tests.{lt-ltb, le-leb, eq-eqb, ltb-true, leb-true, eqb-true, eqb-false, not-true}
use lib.Dec.{leb, ltb, eqb}
use Rattle.extents.specs.Extents.{any_of}
use Rattle.extents.specs.Sentences.{Covers}
use Rattle.extents.specs.declared.Extent.{Extent}
use Rattle.extents.proofs.Sentences.{and_both}
use Rattle.merging.specs.Meaning.{Some, All, Meaning, stored, hole, meaning_of, Gives, Says}
use Rattle.committing.specs.Ranges.{Range, Within, Committed}
use Rattle.committing.specs.Commit.{in_range, is_committed, lies, invalid_at, other_at, part_as, part, written_part, between, sweep_from, sweep, all_cuts}
use Rattle.places.specs.Lists.{chosen}
use Rattle.committing.specs.Committing.{Turned, AfterCommit, turned, kept}
use Rattle.merging.proofs.Rules.{all_map, all-map₂, all_append, some-all, some_left, some_right, some-append, some-either, met, Sound, Before, apart, read_first, invalid-first, Valid, valid-append}
use Rattle.merging.proofs.Runs.{alike-means}
use Rattle.merging.proofs.Shortest.{own}
use Rattle.committing.proofs.Cuts.{Rising, Sorted, Cut, Ends, ExtentEnds, RangeEnds, all-cuts, Known, Outside, at-or-above, known-outside, known_next, ends-map}

-- ---- tests of a byte
pub test-said : (o l x : ℕ) → (leb o x && ltb x (o + l)) ≡ true → (o ≤ x) × (x < o + l)
test-said o l x h =
    let (p, q) = and_both (leb o x) (ltb x (o + l)) h in
    (leb-true o x p, ltb-true x (o + l) q)

pub test-holds : (o l x : ℕ) → o ≤ x → x < o + l → (leb o x && ltb x (o + l)) ≡ true
test-holds o l x p q = rw (le-leb o x p, lt-ltb x (o + l) q)

pub or-true : (p : Bool) → (p || true) ≡ true
or-true true = refl
or-true false = refl

-- ---- from a up to b nothing begins or ends
abbrev pub Free : ℕ → ℕ → Extent → Type 0
Free a b e = Ends (Outside a b) e.offset e.len

module _ (a b x : ℕ) (at_a : a ≤ x) (below-b : x < b) where
  pub over-a : (o l : ℕ) → Ends (Outside a b) o l → o ≤ x → x < o + l → (o ≤ a) × (a < o + l)
  over-a o l (p, q) h g = (first p, second q)
    where
      first : Outside a b o → o ≤ a
      first (inl r) = r
      first (inr r) = absurd (omega arith)

      second : Outside a b (o + l) → a < o + l
      second (inl r) = absurd (omega arith)
      second (inr r) = omega arith

  pub over-x : (o l : ℕ) → Ends (Outside a b) o l → o ≤ a → a < o + l → (o ≤ x) × (b ≤ o + l)
  over-x o l (p, q) h g = (omega arith, second q)
    where
      second : Outside a b (o + l) → b ≤ o + l
      second (inl r) = absurd (omega arith)
      second (inr r) = r

  -- ---- the ranges
  pub committed-said : (rs : List Range) → RangeEnds (Outside a b) rs → is_committed rs a ≡ true → Committed rs x
  unfolding is_committed
  committed-said [] k h = absurd (false≢true h)
  committed-said (r ∷ rs) k h = by (in_range a r) refl h (committed-said rs k.1)
    where
      by : (t : Bool) → in_range a r ≡ t → (t || is_committed rs a) ≡ true → (is_committed rs a ≡ true → Some (Within x) rs) → Some (Within x) (r ∷ rs)
      by true q g ih =
          let (p, s) = test-said r.offset r.len a q in
          let (u, v) = over-x r.offset r.len k.0 p s in
          inl (record { from = u; below = omega arith })
      by false q g ih = inr (ih g)

  pub committed-holds : (rs : List Range) → RangeEnds (Outside a b) rs → Committed rs x → is_committed rs a ≡ true
  unfolding is_committed
  committed-holds [] k x3 = elim x3 [ ]
  committed-holds (r ∷ rs) k (inl w) =
      let (u, v) = over-a r.offset r.len k.0 w.from w.below in
      rw (test-holds r.offset r.len a u v)
  committed-holds (r ∷ rs) k (inr w) = rw (committed-holds rs k.1 w) (or-true (in_range a r))

  -- ---- the extents
  pub lies-there : (e : Extent) → Free a b e → Covers e x → lies a e ≡ true
  lies-there e f c =
      let (u, v) = over-a e.offset e.len f c.from c.below in
      test-holds e.offset e.len a u v

  pub lies-here : (e : Extent) → Free a b e → lies a e ≡ true → Covers e x
  lies-here e f h =
      let (p, s) = test-said e.offset e.len a h in
      let (u, v) = over-x e.offset e.len f p s in
      record { from = u; below = omega arith }

  -- a part gives each of its bytes the extent's own meaning
  part-means : (e : Extent) → lies a e ≡ true → meaning_of (part a b e) x ≡ meaning_of e x
  part-means e h =
      let (p, s) = test-said e.offset e.len a h in
      alike-means x (part a b e) e (record { states = refl; kept = inr (refl, omega arith) })

  part-there : (m : Meaning) (e : Extent) → Free a b e → Gives x m e → (lies a e ≡ true) × Gives x m (part a b e)
  part-there m e f g =
      let l = lies-there e f g.over in
      (l, record { over = record { from = at_a; below = omega arith }; means = part-means e l ∙ g.means })

  part-here : (m : Meaning) (e : Extent) → Free a b e → lies a e ≡ true → Gives x m (part a b e) → Gives x m e
  part-here m e f l g = record { over = lies-here e f l; means = sym (part-means e l) ∙ g.means }

-- ---- the parts that are chosen
pub chosen-said : (P : Extent → Type 0) (p : Extent → Bool) (g : Extent → Extent) (es : List Extent) → Some P (map g (chosen p es)) → Some (λ e. (p e ≡ true) × P (g e)) es
unfolding chosen
chosen-said P p g [] h = elim h [ ]
chosen-said P p g (e ∷ es) h = by (p e) refl h (chosen-said P p g es)
  where
    by : (t : Bool) → p e ≡ t → Some P (map g (cond t (e ∷ chosen p es) (chosen p es))) → (Some P (map g (chosen p es)) → Some (λ c. (p c ≡ true) × P (g c)) es)
        → Some (λ c. (p c ≡ true) × P (g c)) (e ∷ es)
    by true q (inl k) ih = inl (q, k)
    by true q (inr k) ih = inr (ih k)
    by false q k ih = inr (ih k)

pub chosen-holds : (P : Extent → Type 0) (p : Extent → Bool) (g : Extent → Extent) (es : List Extent) → Some (λ e. (p e ≡ true) × P (g e)) es → Some P (map g (chosen p es))
unfolding chosen
chosen-holds P p g [] x = elim x [ ]
chosen-holds P p g (e ∷ es) (inl (q, k)) = rw q (inl k)
chosen-holds P p g (e ∷ es) (inr h) = by (p e) (chosen-holds P p g es h)
  where
    by : (t : Bool) → Some P (map g (chosen p es)) → Some P (map g (cond t (e ∷ chosen p es) (chosen p es)))
    by true k = inr k
    by false k = k

pub chosen-all : {C : Extent → Type 0} (P : Extent → Type 0) (p : Extent → Bool) (g : Extent → Extent) → ((e : Extent) → C e → p e ≡ true → P (g e))
    → (es : List Extent) → All C es → All P (map g (chosen p es))
unfolding chosen
chosen-all P p g f [] c = tt
chosen-all P p g f (e ∷ es) c = by (p e) refl (chosen-all P p g f es c.1)
  where
    by : (t : Bool) → p e ≡ t → All P (map g (chosen p es)) → All P (map g (cond t (e ∷ chosen p es) (chosen p es)))
    by true q ih = (f e c.0 q, ih)
    by false q ih = ih

pub none-chosen : (p : Extent → Bool) (es : List Extent) → All (λ e. p e ≡ false) es → chosen p es ≡ []
unfolding chosen
none-chosen p [] h = refl
none-chosen p (e ∷ es) h = rw h.0 (none-chosen p es h.1)

pub any-said : (p : Extent → Bool) (es : List Extent) → any_of p es ≡ true → Some (λ e. p e ≡ true) es
unfolding any_of
any-said p [] h = absurd (false≢true h)
any-said p (e ∷ es) h = by (p e) refl h (any-said p es)
  where
    by : (t : Bool) → p e ≡ t → (t || any_of p es) ≡ true → (any_of p es ≡ true → Some (λ c. p c ≡ true) es) → Some (λ c. p c ≡ true) (e ∷ es)
    by true q g ih = inl q
    by false q g ih = inr (ih g)

pub any-holds : (p : Extent → Bool) (es : List Extent) → Some (λ e. p e ≡ true) es → any_of p es ≡ true
unfolding any_of
any-holds p [] x = elim x [ ]
any-holds p (e ∷ es) (inl h) = rw h
any-holds p (e ∷ es) (inr h) = rw (any-holds p es h) (or-true (p e))

-- ---- what is said between two cuts
stored-state : (e : Extent) (x : ℕ) (s b : ℕ) (d : List ℕ) → meaning_of e x ≡ stored s d b → (e.state ≡ s) × (e.device ≡ d) × (e.storage + (x - e.offset) ≡ b)
unfolding meaning_of
stored-state e x s b d h = by (eqb e.state 3) h
  where
    by : (t : Bool) → cond t hole (stored e.state e.device (e.storage + (x - e.offset))) ≡ stored s d b → (e.state ≡ s) × (e.device ≡ d) × (e.storage + (x - e.offset) ≡ b)
    by true g =
        let z : ◌≡◌ {A = ℕ} 0 1 = cc in
        absurd (omega arith)
    by false g = (cc, cc, cc)

invalid-means : (e : Extent) (x : ℕ) → e.state ≡ 2 → meaning_of e x ≡ stored 2 e.device (e.storage + (x - e.offset))
unfolding meaning_of
invalid-means e x q = rw q

module _ (rs : List Range) (es : List Extent) (a b x : ℕ) (at_a : a ≤ x) (below-b : x < b) (kr : RangeEnds (Outside a b) rs) (ke : ExtentEnds (Outside a b) es) where
  turns-holds : (d : List ℕ) (n : ℕ) → Turned rs es x d n → (is_committed rs a && any_of (invalid_at a) es) ≡ true
  turns-holds d n t =
      rw (committed-holds a b x at_a below-b rs kr t.in-range)
      (any-holds (invalid_at a) es (some-all each es ke t.was-invalid))
    where
      each : (e : Extent) → Free a b e → Gives x (stored 2 d n) e → invalid_at a e ≡ true
      each e f g = rw (eq-eqb e.state 2 (stored-state e x 2 n d g.means).0) (lies-there a b x at_a below-b e f g.over)

  -- committed and invalid
  turned-there : is_committed rs a ≡ true → (m : Meaning) → Says (map (written_part a b) (chosen (invalid_at a) es)) x m → AfterCommit rs es x m
  unfolding meaning_of
  turned-there c m s =
      met each es (all-map₂ {R = λ e. Free a b e × ((y : ℕ) → Covers e y → Says es y (meaning_of e y))} (λ e f o. (f, o)) es ke (own es))
      (chosen-said (Gives x m) (invalid_at a) (written_part a b) es s)
    where
      each : (e : Extent) → Free a b e × ((y : ℕ) → Covers e y → Says es y (meaning_of e y)) → (invalid_at a e ≡ true) × Gives x m (written_part a b e) → AfterCommit rs es x m
      each e (f, o) (t, g) =
          let (q, l) = and_both (eqb e.state 2) (lies a e) t in
          let (p, r) = test-said e.offset e.len a l in
          let n : (e.storage + (a - e.offset)) + (x - a) ≡ e.storage + (x - e.offset) = omega arith in
          turned e.device (e.storage + (x - e.offset))
          (record { in-range = committed-said a b x at_a below-b rs kr c; was-invalid = rw (invalid-means e x (eqb-true e.state 2 q)) at (o x (lies-here a b x at_a below-b e f l)) })
          (sym g.means ∙ ap (λ (k : ℕ). stored 0 e.device k) n)

  turned-here : (d : List ℕ) (n : ℕ) → Says es x (stored 2 d n) → Says (map (written_part a b) (chosen (invalid_at a) es)) x (stored 0 d n)
  unfolding meaning_of
  turned-here d n s = chosen-holds (Gives x (stored 0 d n)) (invalid_at a) (written_part a b) es (some-all each es ke s)
    where
      each : (e : Extent) → Free a b e → Gives x (stored 2 d n) e → (invalid_at a e ≡ true) × Gives x (stored 0 d n) (written_part a b e)
      each e f g =
          let (q, dq, nq) = stored-state e x 2 n d g.means in
          let l = lies-there a b x at_a below-b e f g.over in
          let (p, r) = test-said e.offset e.len a l in
          let k : (e.storage + (a - e.offset)) + (x - a) ≡ n = omega arith in
          (rw (eq-eqb e.state 2 q) l, record { over = record { from = at_a; below = omega arith }; means = rw (dq, k) })

  -- all others
  kept_there : (m : Meaning) → Says (map (part a b) (chosen (other_at a) es) ++ map (part a b) (chosen (invalid_at a) es)) x m → Says es x m
  kept_there m s = by (some-append (Gives x m) (map (part a b) (chosen (other_at a) es)) (map (part a b) (chosen (invalid_at a) es)) s)
    where
      by : Says (map (part a b) (chosen (other_at a) es)) x m ⊎ Says (map (part a b) (chosen (invalid_at a) es)) x m → Says es x m
      by (inl h) = some-all (λ e f k. part-here a b x at_a below-b m e f (and_both (not (eqb e.state 2)) (lies a e) k.0).1 k.1) es ke (chosen-said (Gives x m) (other_at a) (part a b) es h)
      by (inr h) = some-all (λ e f k. part-here a b x at_a below-b m e f (and_both (eqb e.state 2) (lies a e) k.0).1 k.1) es ke (chosen-said (Gives x m) (invalid_at a) (part a b) es h)

  kept_here : (m : Meaning) → Says es x m → Says (map (part a b) (chosen (other_at a) es) ++ map (part a b) (chosen (invalid_at a) es)) x m
  kept_here m s =
      by (some-either each es (some-all (λ e f g. part-there a b x at_a below-b m e f g) es ke s))
    where
      each : (e : Extent) → (lies a e ≡ true) × Gives x m (part a b e) → ((other_at a e ≡ true) × Gives x m (part a b e)) ⊎ ((invalid_at a e ≡ true) × Gives x m (part a b e))
      each e (l, g) = at (eqb e.state 2) refl
        where
          at : (t : Bool) → eqb e.state 2 ≡ t → (((not t && lies a e) ≡ true) × Gives x m (part a b e)) ⊎ (((t && lies a e) ≡ true) × Gives x m (part a b e))
          at true q = inr (l, g)
          at false q = inl (l, g)

      by : Some (λ e. (other_at a e ≡ true) × Gives x m (part a b e)) es ⊎ Some (λ e. (invalid_at a e ≡ true) × Gives x m (part a b e)) es
          → Says (map (part a b) (chosen (other_at a) es) ++ map (part a b) (chosen (invalid_at a) es)) x m
      by (inl h) = some_left (Gives x m) (map (part a b) (chosen (other_at a) es)) (map (part a b) (chosen (invalid_at a) es)) (chosen-holds (Gives x m) (other_at a) (part a b) es h)
      by (inr h) = some_right (Gives x m) (map (part a b) (chosen (other_at a) es)) (map (part a b) (chosen (invalid_at a) es)) (chosen-holds (Gives x m) (invalid_at a) (part a b) es h)

  between-says : (m : Meaning) → Says (between rs es a b) x m ↔ AfterCommit rs es x m
  unfolding between
  between-says m = by (is_committed rs a && any_of (invalid_at a) es) refl
    where
      by : (t : Bool) → (is_committed rs a && any_of (invalid_at a) es) ≡ t
          → Says (cond t (map (written_part a b) (chosen (invalid_at a) es)) (map (part a b) (chosen (other_at a) es) ++ map (part a b) (chosen (invalid_at a) es))) x m ↔ AfterCommit rs es x m
      by true q = (turned-there both.0 m, back)
        where
          both : (is_committed rs a ≡ true) × (any_of (invalid_at a) es ≡ true)
          both = and_both (is_committed rs a) (any_of (invalid_at a) es) q

          some-invalid : ((d : List ℕ) (k : ℕ) → Turned rs es x d k → ⊥) → ⊥
          some-invalid n =
              met each es (all-map₂ {R = λ e. Free a b e × ((y : ℕ) → Covers e y → Says es y (meaning_of e y))} (λ e f o. (f, o)) es ke (own es)) (any-said (invalid_at a) es both.1)
            where
              each : (e : Extent) → Free a b e × ((y : ℕ) → Covers e y → Says es y (meaning_of e y)) → invalid_at a e ≡ true → ⊥
              each e (f, o) t =
                  let (s, l) = and_both (eqb e.state 2) (lies a e) t in
                  n e.device (e.storage + (x - e.offset))
                  (record { in-range = committed-said a b x at_a below-b rs kr both.0; was-invalid = rw (invalid-means e x (eqb-true e.state 2 s)) at (o x (lies-here a b x at_a below-b e f l)) })

          back : AfterCommit rs es x m → Says (map (written_part a b) (chosen (invalid_at a) es)) x m
          back (turned d n t e) = rw e (turned-here d n t.was-invalid)
          back (kept n s) = absurd (some-invalid n)
      by false q = (λ s. kept (λ d n t. false≢true (sym q ∙ turns-holds d n t)) (kept_there m s), back)
        where
          back : AfterCommit rs es x m → Says (map (part a b) (chosen (other_at a) es) ++ map (part a b) (chosen (invalid_at a) es)) x m
          back (turned d n t e) = absurd (false≢true (sym q ∙ turns-holds d n t))
          back (kept n s) = kept_here m s

-- ---- what is left between two cuts is valid
chosen-valid : {C : Extent → Type 0} (p : Extent → Bool) (g : Extent → Extent)
    → ((e : Extent) → C e → p e ≡ true → Sound e → Sound (g e))
    → ((e c : Extent) → p e ≡ true → p c ≡ true → Before e c → Before (g e) (g c))
    → (es : List Extent) → Valid es → All C es → Valid (map g (chosen p es))
unfolding chosen
chosen-valid p g s b [] v c = tt
chosen-valid p g s b (e ∷ es) v c = by (p e) refl (chosen-valid p g s b es v.2 c.1)
  where
    by : (t : Bool) → p e ≡ t → Valid (map g (chosen p es)) → Valid (map g (cond t (e ∷ chosen p es) (chosen p es)))
    by true q ih = (s e c.0 q v.0, chosen-all (Before (g e)) p g (λ d h r. b e d q r h) es v.1, ih)
    by false q ih = ih

-- two extents over one byte are one read and the other invalid
module _ (a : ℕ) where
  abbrev Pair : Extent → Extent → Type 0
  Pair e c = Covers e a → Covers c a → (e.state ≡ 2 → ⊥) → c.state ≡ 2 → e.state ≡ 1

  pair-there : (e c : Extent) → Before e c → Pair e c
  pair-there e c (apart h) x y n q = absurd (omega arith)
  pair-there e c (read_first p r h) x y n q = p
  pair-there e c (invalid-first p r h) x y n q = absurd (omega arith)

  pair-back : (e c : Extent) → Before c e → Pair e c
  pair-back e c (apart h) x y n q = absurd (omega arith)
  pair-back e c (read_first p r h) x y n q = absurd (omega arith)
  pair-back e c (invalid-first p r h) x y n q = r

  pairs : (es : List Extent) → Valid es → All (λ e. All (Pair e) es) es
  pairs [] v = tt
  pairs (e ∷ es) v = (
    (λ x y n q. absurd (n q), all_map (λ c h. pair-there e c h) es v.1),
    all-map₂ (λ c h r. (pair-back c e h, r)) es v.1 (pairs es v.2),
  )

  pub covered : (e : Extent) → lies a e ≡ true → Covers e a
  covered e h =
      let (p, q) = test-said e.offset e.len a h in
      record { from = p; below = q }

  pub one-invalid : (e c : Extent) → invalid_at a e ≡ true → invalid_at a c ≡ true → Before e c → ⊥
  one-invalid e c s t b = by b (and_both (eqb e.state 2) (lies a e) s) (and_both (eqb c.state 2) (lies a c) t)
    where
      by : Before e c → (eqb e.state 2 ≡ true) × (lies a e ≡ true) → (eqb c.state 2 ≡ true) × (lies a c ≡ true) → ⊥
      by (apart h) (p, q) (r, u) = omega (arith, (covered e q).below, (covered c u).from)
      by (read_first x y h) (p, q) (r, u) = omega (arith, eqb-true e.state 2 p)
      by (invalid-first x y h) (p, q) (r, u) = omega (arith, eqb-true c.state 2 r)

  pub one-other : (e c : Extent) → other_at a e ≡ true → other_at a c ≡ true → Before e c → ⊥
  one-other e c s t b = by b (and_both (not (eqb e.state 2)) (lies a e) s) (and_both (not (eqb c.state 2)) (lies a c) t)
    where
      by : Before e c → (not (eqb e.state 2) ≡ true) × (lies a e ≡ true) → (not (eqb c.state 2) ≡ true) × (lies a c ≡ true) → ⊥
      by (apart h) (p, q) (r, u) = omega (arith, (covered e q).below, (covered c u).from)
      by (read_first x y h) (p, q) (r, u) = eqb-false c.state 2 (not-true (eqb c.state 2) r) y
      by (invalid-first x y h) (p, q) (r, u) = eqb-false e.state 2 (not-true (eqb e.state 2) p) x

abbrev Spans : ℕ → ℕ → Extent → Type 0
Spans a b e = (e.offset ≡ a) × (e.offset + e.len ≡ b)

module _ (a b : ℕ) (less : a < b) where
  part-fits : (e : Extent) → Free a b e → lies a e ≡ true → (e.offset ≤ a) × (b ≤ e.offset + e.len)
  part-fits e f l =
      let (p, q) = test-said e.offset e.len a l in
      (p, (over-x a b a (omega arith) less e.offset e.len f p q).1)

  part_sound : (e : Extent) (st : ℕ) → st ≤ 3 → ((e.state ≡ 3) → (st ≡ 3)) → Free a b e → lies a e ≡ true → Sound e
      → Sound (part_as st a b e)
  part_sound e st k h f l s =
      let (p, q) = part-fits e f l in
      record { known = k; some = omega arith; in-file = omega (arith, s.in-file); in-storage = by p q s.in-storage }
    where
      by : e.offset ≤ a → b ≤ e.offset + e.len → (e.state ≡ 3) ⊎ (e.storage + e.len < 2 ^ 64) → (st ≡ 3) ⊎ (e.storage + (a - e.offset) + (b - a) < 2 ^ 64)
      by p q (inl z) = inl (h z)
      by p q (inr g) = inr (omega arith)

  between-valid : (rs : List Range) (es : List Extent) → Valid es → ExtentEnds (Outside a b) es → Valid (between rs es a b)
  unfolding between
  between-valid rs es v k = by (is_committed rs a && any_of (invalid_at a) es)
    where
      invalids : Valid (map (part a b) (chosen (invalid_at a) es))
      invalids =
          chosen-valid (invalid_at a) (part a b) (λ e f t s. part_sound e e.state s.known (λ z. z) f (and_both (eqb e.state 2) (lies a e) t).1 s)
          (λ e c s t h. absurd (one-invalid a e c s t h)) es v k

      others : Valid (map (part a b) (chosen (other_at a) es))
      others =
          chosen-valid (other_at a) (part a b) (λ e f t s. part_sound e e.state s.known (λ z. z) f (and_both (not (eqb e.state 2)) (lies a e) t).1 s)
          (λ e c s t h. absurd (one-other a e c s t h)) es v k

      writtens : Valid (map (written_part a b) (chosen (invalid_at a) es))
      writtens =
          chosen-valid (invalid_at a) (written_part a b)
          (λ e f t s.
          let (q, l) = and_both (eqb e.state 2) (lies a e) t in
          part_sound e 0 (omega arith) (λ z. absurd (omega (arith, eqb-true e.state 2 q))) f l s)
          (λ e c s t h. absurd (one-invalid a e c s t h)) es v k

      cross : (e c : Extent) → Pair a e c → other_at a e ≡ true → invalid_at a c ≡ true → Before (part a b e) (part a b c)
      cross e c h s t =
          let (p, l) = and_both (not (eqb e.state 2)) (lies a e) s in
          let (q, r) = and_both (eqb c.state 2) (lies a c) t in
          let two : c.state ≡ 2 = eqb-true c.state 2 q in
          read_first (h (covered a e l) (covered a c r) (eqb-false e.state 2 (not-true (eqb e.state 2) p)) two) two (omega arith)

      by : (t : Bool) → Valid (cond t (map (written_part a b) (chosen (invalid_at a) es)) (map (part a b) (chosen (other_at a) es) ++ map (part a b) (chosen (invalid_at a) es)))
      by true = writtens
      by false =
          valid-append (map (part a b) (chosen (other_at a) es)) (map (part a b) (chosen (invalid_at a) es)) others invalids
          (chosen-all (λ e. All (Before e) (map (part a b) (chosen (invalid_at a) es))) (other_at a) (part a b)
          (λ e h s. chosen-all (Before (part a b e)) (invalid_at a) (part a b) (λ c r t. cross e c r s t) es h)
          es (pairs a es v))

  -- it lies from a up to b
  between-lies : (rs : List Range) (es : List Extent) → ExtentEnds (Outside a b) es → All (Spans a b) (between rs es a b)
  unfolding between
  between-lies rs es k = by (is_committed rs a && any_of (invalid_at a) es)
    where
      by : (t : Bool) → All (Spans a b) (cond t (map (written_part a b) (chosen (invalid_at a) es)) (map (part a b) (chosen (other_at a) es) ++ map (part a b) (chosen (invalid_at a) es)))
      by true = chosen-all (Spans a b) (invalid_at a) (written_part a b) (λ e f t. (refl, omega arith)) es k
      by false =
          all_append (Spans a b) (map (part a b) (chosen (other_at a) es)) (map (part a b) (chosen (invalid_at a) es))
          (chosen-all (Spans a b) (other_at a) (part a b) (λ e f t. (refl, omega arith)) es k)
          (chosen-all (Spans a b) (invalid_at a) (part a b) (λ e f t. (refl, omega arith)) es k)

-- ---- the sweep over all cuts
module _ (rs : List Range) (es : List Extent) where
  -- every begin and end is passed at a, or is a cut to come
  pub record At (a : ℕ) (cuts : List ℕ) : Type 0 where
    pub rising : Rising a cuts
    pub ranges : RangeEnds (Known a cuts) rs
    pub extents : ExtentEnds (Known a cuts) es

  pub next : (a b : ℕ) (cuts : List ℕ) → At a (b ∷ cuts) → At b cuts
  next a b cuts h =
      record {
        rising = h.rising.1;
        ranges = all_map (λ r k. ends-map (λ n. known_next a b n cuts h.rising.0) r.offset r.len k) rs h.ranges;
        extents = all_map (λ e k. ends-map (λ n. known_next a b n cuts h.rising.0) e.offset e.len k) es h.extents;
      }

  pub free-ranges : (a b : ℕ) (cuts : List ℕ) → At a (b ∷ cuts) → RangeEnds (Outside a b) rs
  free-ranges a b cuts h = all_map (λ r k. ends-map (λ n. known-outside a b n cuts h.rising.1) r.offset r.len k) rs h.ranges

  pub free-extents : (a b : ℕ) (cuts : List ℕ) → At a (b ∷ cuts) → ExtentEnds (Outside a b) es
  free-extents a b cuts h = all_map (λ e k. ends-map (λ n. known-outside a b n cuts h.rising.1) e.offset e.len k) es h.extents

  from-a : (a : ℕ) (cuts : List ℕ) → At a cuts → All (λ e. a ≤ e.offset) (sweep_from rs es a cuts)
  unfolding sweep_from
  from-a a [] h = tt
  from-a a (b ∷ cuts) h =
      let less : a < b = h.rising.0 in
      all_append (λ e. a ≤ e.offset) (between rs es a b) (sweep_from rs es b cuts)
      (all_map (λ e k. omega (arith, k.0)) (between rs es a b) (between-lies a b less rs es (free-extents a b cuts h)))
      (all_map (λ e k. omega (arith, k)) (sweep_from rs es b cuts) (from-a b cuts (next a b cuts h)))

  from-valid : (a : ℕ) (cuts : List ℕ) → Valid es → At a cuts → Valid (sweep_from rs es a cuts)
  unfolding sweep_from
  from-valid a [] v h = tt
  from-valid a (b ∷ cuts) v h =
      let less : a < b = h.rising.0 in
      let free = free-extents a b cuts h in
      valid-append (between rs es a b) (sweep_from rs es b cuts) (between-valid a b less rs es v free) (from-valid b cuts v (next a b cuts h))
      (all_map (λ e k. all_map (λ c g. apart (omega (arith, k.1, g))) (sweep_from rs es b cuts) (from-a b cuts (next a b cuts h))) (between rs es a b) (between-lies a b less rs es free))

  -- a byte of which nothing is said stays so
  nothing_said : (x : ℕ) (m : Meaning) → All (λ e. Covers e x → ⊥) es → AfterCommit rs es x m → ⊥
  nothing_said x m n (turned d k t e) = met (λ c h g. h g.over) es n t.was-invalid
  nothing_said x m n (kept h s) = met (λ c k g. k g.over) es n s

  from-says : (a : ℕ) (cuts : List ℕ) → At a cuts → (x : ℕ) → a ≤ x → (m : Meaning) → Says (sweep_from rs es a cuts) x m ↔ AfterCommit rs es x m
  unfolding sweep_from
  from-says a [] h x l m = (λ s. absurd s, λ s. absurd (nothing_said x m (all_map past es h.extents) s))
    where
      ended : (n : ℕ) → Known a [] n → n ≤ a
      ended n (inr x5) = elim x5 [ ]
      ended n (inl k) = k

      past : (e : Extent) → Ends (Known a []) e.offset e.len → Covers e x → ⊥
      past e k c = omega (arith, ended (e.offset + e.len) k.1, c.below)
  from-says a (b ∷ cuts) h x l m = by (dec_lt x b) (λ g. from-says b cuts (next a b cuts h) x g m)
    where
      less : a < b
      less = h.rising.0

      by : Dec (x < b) → (b ≤ x → Says (sweep_from rs es b cuts) x m ↔ AfterCommit rs es x m) → Says (between rs es a b ++ sweep_from rs es b cuts) x m ↔ AfterCommit rs es x m
      by (yes g) ih = (λ s. here.0 (first (some-append (Gives x m) (between rs es a b) (sweep_from rs es b cuts) s)), λ s. some_left (Gives x m) (between rs es a b) (sweep_from rs es b cuts) (here.1 s))
        where
          here : Says (between rs es a b) x m ↔ AfterCommit rs es x m
          here = between-says rs es a b x l g (free-ranges a b cuts h) (free-extents a b cuts h) m

          first : Says (between rs es a b) x m ⊎ Says (sweep_from rs es b cuts) x m → Says (between rs es a b) x m
          first (inl s) = s
          first (inr s) = absurd (met (λ e k q. omega (arith, k, q.over.from)) (sweep_from rs es b cuts) (from-a b cuts (next a b cuts h)) s)
      by (no g) ih = (λ s. rest.0 (second (some-append (Gives x m) (between rs es a b) (sweep_from rs es b cuts) s)), λ s. some_right (Gives x m) (between rs es a b) (sweep_from rs es b cuts) (rest.1 s))
        where
          rest : Says (sweep_from rs es b cuts) x m ↔ AfterCommit rs es x m
          rest = ih (omega arith)

          second : Says (between rs es a b) x m ⊎ Says (sweep_from rs es b cuts) x m → Says (sweep_from rs es b cuts) x m
          second (inl s) = absurd (met (λ e k q. omega (arith, k.1, q.over.below)) (between rs es a b) (between-lies a b less rs es (free-extents a b cuts h)) s)
          second (inr s) = s

  -- from the first cut
  pub begins : (a : ℕ) (cuts : List ℕ) → Sorted (a ∷ cuts) → RangeEnds (Cut (a ∷ cuts)) rs → ExtentEnds (Cut (a ∷ cuts)) es → At a cuts
  begins a cuts r kr ke =
      record {
        rising = r;
        ranges = all_map (λ q k. ends-map known q.offset q.len k) rs kr;
        extents = all_map (λ e k. ends-map known e.offset e.len k) es ke;
      }
    where
      known : (n : ℕ) → Cut (a ∷ cuts) n → Known a cuts n
      known n (inl q) = inl (omega arith)
      known n (inr k) = inr k

  sweep-valid : (cuts : List ℕ) → Valid es → Sorted cuts → RangeEnds (Cut cuts) rs → ExtentEnds (Cut cuts) es → Valid (sweep rs es cuts)
  unfolding sweep
  sweep-valid [] v r kr ke = tt
  sweep-valid (a ∷ cuts) v r kr ke = from-valid a cuts v (begins a cuts r kr ke)

  sweep-says : (cuts : List ℕ) → Sorted cuts → RangeEnds (Cut cuts) rs → ExtentEnds (Cut cuts) es → (x : ℕ) (m : Meaning) → Says (sweep rs es cuts) x m ↔ AfterCommit rs es x m
  unfolding sweep
  sweep-says [] r kr ke x m = (λ s. absurd s, λ s. absurd (nothing_said x m (all_map (λ e k c. k.0) es ke) s))
  sweep-says (a ∷ cuts) r kr ke x m = by (dec_lt x a)
    where
      above : (n : ℕ) → Cut (a ∷ cuts) n → a ≤ n
      above n (inl q) = omega arith
      above n (inr k) = at-or-above a n cuts r k

      at : At a cuts
      at = begins a cuts r kr ke

      by : Dec (x < a) → Says (sweep_from rs es a cuts) x m ↔ AfterCommit rs es x m
      by (no h) = from-says a cuts at x (omega arith) m
      by (yes h) = (
        λ s. absurd (met (λ e k q. omega (arith, k, q.over.from)) (sweep_from rs es a cuts) (from-a a cuts at) s),
        λ s. absurd (nothing_said x m (all_map (λ e k c. omega (arith, above e.offset k.0, c.from)) es ke) s),
      )

  pub swept-valid : Valid es → Valid (sweep rs es (all_cuts rs es))
  swept-valid v =
      let c = all-cuts rs es in
      sweep-valid (all_cuts rs es) v c.0 c.1 c.2

  pub swept-says : (x : ℕ) (m : Meaning) → Says (sweep rs es (all_cuts rs es)) x m ↔ AfterCommit rs es x m
  swept-says x m =
      let c = all-cuts rs es in
      sweep-says (all_cuts rs es) c.0 c.1 c.2 x m
