-- The ledger's lists are the lists that the paper's sentences mean, and there is no other. In this order: what is chosen of rising rows; two rising lists
-- of the same numbers; the source; rows of a list; the proxy's place; one list.
use mathlib.Core.Path.{◌≡◌, refl, ap, ap₂, sym, ◌∙◌}
use mathlib.Core.List.{List, [], ◌∷◌}
use mathlib.Core.Bool.{Bool, true, false, cond}
use Prim.Native.Nat.{ℕ, suc, ◌+◌, ◌<◌, ◌≤◌}
use native.Mathlib.Omega.{arith}
use native.Mathlib.Decide.{ℕ_discrete}
use lib.ListN.{length}
use lib.Dec.{eqb, ltb}
use borrow.Author.Tests.{eqb-true, eq-eqb, ne_eqb, ltb-true, ltb-false}
use Rattle.reports.specs.Device.{Device}
use Rattle.places.specs.Lists.{any, chosen, has, first_or, Above, Rising}
use Rattle.places.proofs.Slots.{All, all-as}
use Rattle.places.proofs.Sets.{true-false}
use Rattle.mirroring.specs.Direction.{head_or, last_or, first_by}
use Rattle.mirroring.specs.declared.source.Direction.{Direction}
use Rattle.mirroring.specs.declared.source.Direction.TheVariants.{Lowest, Highest}
use Rattle.ledger.specs.Ledger.{Row, Ledger, is_row, new_row, registered, row_of, numbers, sources, unblamed_from, source}
use Rattle.ledger.specs.Lists.{Nearer, IsSource, foremost, nowhere, Sources, sources-nil, sources-cons, row_passes, OneList}

-- ---- what is chosen of rising rows
above-has-not : (n : ℕ) (ns : List ℕ) → Above n ns → has n ns ≡ false
unfolding has any
above-has-not n [] h = refl
above-has-not n (m ∷ ms) h = rw (ne_eqb m n (λ e. omega (arith, e, h.0))) (above-has-not n ms h.1)

module _ (q : Row → Bool) where
  above_chosen : (n : ℕ) (ws : List Row) → Above n (numbers ws) → Above n (numbers (chosen q ws))
  unfolding chosen
  above_chosen n [] h = tt
  above_chosen n (w ∷ ws) h = by (q w) (above_chosen n ws h.1)
    where
      by : (b : Bool) → Above n (numbers (chosen q ws)) → Above n (numbers (cond b (w ∷ chosen q ws) (chosen q ws)))
      by true k = (h.0, k)
      by false k = k

  rising-chosen : (ws : List Row) → Rising (numbers ws) → Rising (numbers (chosen q ws))
  unfolding chosen
  rising-chosen [] h = tt
  rising-chosen (w ∷ ws) h = by (q w) (rising-chosen ws h.1)
    where
      by : (b : Bool) → Rising (numbers (chosen q ws)) → Rising (numbers (cond b (w ∷ chosen q ws) (chosen q ws)))
      by true k = (above_chosen w.number ws h.0, k)
      by false k = k

  -- the row w is the file's, or a later one is
  exact-item : (n : ℕ) (d w : Row) (ws : List Row) (b : Bool) → eqb w.number n ≡ b → Above w.number (numbers ws) → (c : Bool) → q w ≡ c
      → has n (numbers (chosen q ws)) ≡ cond (any (is_row n) ws) (q (first_or (is_row n) d ws)) false
      → has n (numbers (cond c (w ∷ chosen q ws) (chosen q ws))) ≡ cond (cond b true (any (is_row n) ws)) (q (cond b w (first_or (is_row n) d ws))) false
  unfolding has any
  exact-item n d w ws true e a true k h = rw (e, k)
  exact-item n d w ws true e a false k h = rw k (above-has-not n (numbers (chosen q ws)) (above_chosen n ws (rw (eqb-true w.number n e) at a)))
  exact-item n d w ws false e a true k h = rw e h
  exact-item n d w ws false e a false k h = h

  exact : (n : ℕ) (d : Row) (ws : List Row) → Rising (numbers ws) → has n (numbers (chosen q ws)) ≡ cond (any (is_row n) ws) (q (first_or (is_row n) d ws)) false
  unfolding chosen any first_or has
  exact n d [] h = refl
  exact n d (w ∷ ws) h = exact-item n d w ws (eqb w.number n) refl h.0 (q w) refl (exact n d ws h.1)

-- ---- two rising lists of the same numbers are the same
clash : {A : Type 0} (b : Bool) → b ≡ true → b ≡ false → A
clash b p q = true-false (sym p ∙ q)

above-member : (b n : ℕ) (ns : List ℕ) → Above b ns → has n ns ≡ true → b < n
unfolding has any
above-member b n [] a e = true-false (sym e)
above-member b n (m ∷ ms) a e = by (eqb m n) refl (above-member b n ms a.1) e
  where
    by : (c : Bool) → eqb m n ≡ c → (has n ms ≡ true → b < n) → cond c true (any (λ x. eqb x n) ms) ≡ true → b < n
    by true p f q = omega (arith, a.0, eqb-true m n p)
    by false p f q = f q

has_first : (a : ℕ) (xs : List ℕ) → has a (a ∷ xs) ≡ true
unfolding has any
has_first a xs = rw (eq-eqb a a refl)

-- a is the first of a rising list or greater
first-least : (a b : ℕ) (ys : List ℕ) → Above b ys → has a (b ∷ ys) ≡ true → b ≤ a
unfolding has any
first-least a b ys h e = by (eqb b a) refl e
  where
    by : (c : Bool) → eqb b a ≡ c → cond c true (any (λ x. eqb x a) ys) ≡ true → b ≤ a
    by true p q = omega (arith, eqb-true b a p)
    by false p q = omega (arith, above-member b a ys h q)

same_rest : (a : ℕ) (xs ys : List ℕ) → Above a xs → Above a ys → ((n : ℕ) → has n (a ∷ xs) ≡ has n (a ∷ ys)) → (n : ℕ) → has n xs ≡ has n ys
unfolding has any
same_rest a xs ys h k f n = by (eqb a n) refl (f n)
  where
    by : (c : Bool) → eqb a n ≡ c → cond c true (has n xs) ≡ cond c true (has n ys) → has n xs ≡ has n ys
    by true p q = ap (λ m. has m xs) (sym (eqb-true a n p)) ∙ above-has-not a xs h ∙ sym (above-has-not a ys k) ∙ ap (λ m. has m ys) (eqb-true a n p)
    by false p q = q

nothing-in : (n : ℕ) → has n [] ≡ false
unfolding has any
nothing-in n = refl

rising-same : (xs ys : List ℕ) → Rising xs → Rising ys → ((n : ℕ) → has n xs ≡ has n ys) → xs ≡ ys
rising-same [] [] r s f = refl
rising-same [] (b ∷ ys) r s f = clash (has b (b ∷ ys)) (has_first b ys) (sym (f b) ∙ nothing-in b)
rising-same (a ∷ xs) [] r s f = clash (has a (a ∷ xs)) (has_first a xs) (f a ∙ nothing-in a)
rising-same (a ∷ xs) (b ∷ ys) r s f =
    let e : a ≡ b = omega (arith, first-least a b ys s.0 (sym (f a) ∙ has_first a xs), first-least b a xs r.0 (f b ∙ has_first b ys)) in
    let k : (n : ℕ) → has n (a ∷ xs) ≡ has n (a ∷ ys) = λ n. f n ∙ ap (λ m. has n (m ∷ ys)) (sym e) in
    ap₂ {C = List ℕ} (λ x y. x ∷ y) e (rising-same xs ys r.1 s.1 (same_rest a xs ys r.0 (rw (sym e) at s.0) k))

-- ---- the source
-- p is a place not blamed, if the list's first is k
record Free (k : ℕ) (ds : List Device) (bs : List ℕ) (p : ℕ) : Type 0 where
  pub from : k ≤ p
  pub below : p < k + length ds
  pub free : has p bs ≡ false

free-next : {k : ℕ} {ds : List Device} {bs : List ℕ} (d : Device) (p : ℕ) → Free (suc k) ds bs p → Free k (d ∷ ds) bs p
free-next d p h = record { from = omega (arith, h.from); below = omega (arith, h.below); free = h.free }

-- each of the places is one
all-free : (k : ℕ) (ds : List Device) (bs : List ℕ) → All (Free k ds bs) (unblamed_from k ds bs)
unfolding unblamed_from
all-free k [] bs = All.all_nil
all-free k (d ∷ ds) bs = by (has k bs) refl (all-as (free-next d) (all-free (suc k) ds bs))
  where
    by : (b : Bool) → has k bs ≡ b → All (Free k (d ∷ ds) bs) (unblamed_from (suc k) ds bs) → All (Free k (d ∷ ds) bs) (cond b (unblamed_from (suc k) ds bs) (k ∷ unblamed_from (suc k) ds bs))
    by true e h = h
    by false e h = All.all_cons {x = k} (record { from = omega arith; below = omega arith; free = e }) h

-- they rise
above-free : {k : ℕ} {ds : List Device} {bs ps : List ℕ} (j : ℕ) → j < k → All (Free k ds bs) ps → Above j ps
above-free j h All.all_nil = tt
above-free j h (All.all_cons z t) = (omega (arith, h, z.from), above-free j h t)

rising-free : (k : ℕ) (ds : List Device) (bs : List ℕ) → Rising (unblamed_from k ds bs)
unfolding unblamed_from
rising-free k [] bs = tt
rising-free k (d ∷ ds) bs = by (has k bs) (rising-free (suc k) ds bs)
  where
    by : (b : Bool) → Rising (unblamed_from (suc k) ds bs) → Rising (cond b (unblamed_from (suc k) ds bs) (k ∷ unblamed_from (suc k) ds bs))
    by true h = h
    by false h = (above-free k (omega arith) (all-free (suc k) ds bs), h)

-- and no place is left out
has_more : (i k : ℕ) (ps : List ℕ) → has i ps ≡ true → has i (k ∷ ps) ≡ true
unfolding has any
has_more i k ps h = by (eqb k i)
  where
    by : (c : Bool) → cond c true (any (λ x. eqb x i) ps) ≡ true
    by true = refl
    by false = h

none_left : (k i : ℕ) (ds : List Device) (bs : List ℕ) → Free k ds bs i → has i (unblamed_from k ds bs) ≡ true
unfolding unblamed_from
none_left k i [] bs h = absurd (omega (arith, h.from, h.below))
none_left k i (d ∷ ds) bs h = by (ℕ_discrete i k) (has k bs) refl (λ n. none_left (suc k) i ds bs (record { from = omega (arith, n, h.from); below = omega (arith, h.below); free = h.free }))
  where
    by : Dec (i ≡ k) → (b : Bool) → has k bs ≡ b → ((i ≡ k → ⊥) → has i (unblamed_from (suc k) ds bs) ≡ true) → has i (cond b (unblamed_from (suc k) ds bs) (k ∷ unblamed_from (suc k) ds bs)) ≡ true
    by (yes e) true q f = clash (has k bs) q (ap (λ j. has j bs) (sym e) ∙ h.free)
    by (yes e) false q f = rw e (has_first k (unblamed_from (suc k) ds bs))
    by (no n) true q f = f n
    by (no n) false q f = has_more i k (unblamed_from (suc k) ds bs) (f n)

-- the last of a rising list is one of it, and none is greater
last_of : {P : ℕ → Type 0} (p : ℕ) (ps : List ℕ) → P p → All P ps → P (last_or p ps)
unfolding last_or
last_of p [] h t = h
last_of p (q ∷ ps) h (All.all_cons z t) = last_of q ps z t

last-greatest : (p i : ℕ) (ps : List ℕ) → Rising (p ∷ ps) → has i (p ∷ ps) ≡ true → i ≤ last_or p ps
unfolding last_or has any
last-greatest p i [] h e = by (eqb p i) refl e
  where
    by : (c : Bool) → eqb p i ≡ c → cond c true false ≡ true → i ≤ p
    by true z q = omega (arith, eqb-true p i z)
    by false z q = true-false (sym q)
last-greatest p i (r ∷ ps) h e = by (eqb p i) refl e (last-greatest r i ps h.1) (last-greatest r r ps h.1 (has_first r ps))
  where
    by : (c : Bool) → eqb p i ≡ c → cond c true (any (λ x. eqb x i) (r ∷ ps)) ≡ true → (has i (r ∷ ps) ≡ true → i ≤ last_or r ps) → r ≤ last_or r ps → i ≤ last_or r ps
    by true z q f g = omega (arith, eqb-true p i z, h.0.0, g)
    by false z q f g = f q

-- every place but those of the list is blamed
module _ (w : Row) where
  abbrev places : List ℕ
  places = unblamed_from 0 w.mirrors w.blamed

  blamed-but : (i : ℕ) → i < length w.mirrors → (has i places ≡ true → ⊥) → has i w.blamed ≡ true
  blamed-but i h f = by (has i w.blamed) refl
    where
      by : (b : Bool) → has i w.blamed ≡ b → b ≡ true
      by true e = refl
      by false e = absurd (f (none_left 0 i w.mirrors w.blamed (record { from = omega arith; below = omega (arith, h); free = e })))

  source-by : (d : Direction) (ps : List ℕ) → places ≡ ps → All (Free 0 w.mirrors w.blamed) ps → Rising ps → IsSource d w (first_by d ps)
  unfolding first_by head_or last_or has any
  source-by Lowest [] e h r = nowhere refl (λ i k. blamed-but i k (λ z. true-false (sym (rw e at z))))
  source-by Highest [] e h r = nowhere refl (λ i k. blamed-but i k (λ z. true-false (sym (rw e at z))))
  source-by Lowest (p ∷ ps) e (All.all_cons z t) r =
      foremost (omega (arith, z.below)) z.free (λ i k n. blamed-but i k (λ y. let q = first-least i p ps r.0 (rw e at y) in omega (arith, n, q)))
  source-by Highest (p ∷ ps) e (All.all_cons z t) r =
      let y = last_of p ps z t in foremost (omega (arith, y.below)) y.free (λ i k n. blamed-but i k (λ x. let q = last-greatest p i ps r (rw e at x) in omega (arith, n, q)))

  source_is : (d : Direction) → IsSource d w (source d w)
  source_is d = source-by d places refl (all-free 0 w.mirrors w.blamed) (rising-free 0 w.mirrors w.blamed)

-- a row has one source only
not-nearer : (d : Direction) (s t : ℕ) → (Nearer d s t → ⊥) → (Nearer d t s → ⊥) → s ≡ t
not-nearer d s t f g = by d (ltb s t) refl (ltb t s) refl f g
  where
    by : (d : Direction) (a : Bool) → ltb s t ≡ a → (b : Bool) → ltb t s ≡ b → (Nearer d s t → ⊥) → (Nearer d t s → ⊥) → s ≡ t
    by Lowest true e b q f g = absurd (f (ltb-true s t e))
    by Lowest false e true q f g = absurd (g (ltb-true t s q))
    by Highest true e b q f g = absurd (g (ltb-true s t e))
    by Highest false e true q f g = absurd (f (ltb-true t s q))
    by d false e false q f g = omega (arith, ltb-false s t e, ltb-false t s q)

one-source : {d : Direction} {w : Row} {s t : ℕ} → IsSource d w s → IsSource d w t → s ≡ t
one-source {d} {w} {s} {t} (foremost a f g) (foremost b h k) = not-nearer d s t (λ n. clash (has s w.blamed) (k s a n) f) (λ n. clash (has t w.blamed) (g t b n) h)
one-source {d} {w} {s} {t} (foremost a f g) (nowhere e k) = clash (has s w.blamed) (k s a) f
one-source {d} {w} {s} {t} (nowhere e k) (foremost a f g) = clash (has t w.blamed) (k t a) f
one-source (nowhere e k) (nowhere f h) = e ∙ sym f

same-sources : {d : Direction} {l : Ledger} {ns ss ts : List ℕ} → Sources d l ns ss → Sources d l ns ts → ss ≡ ts
same-sources sources-nil sources-nil = refl
same-sources (sources-cons a s) (sources-cons b t) = ap₂ {C = List ℕ} (λ x y. x ∷ y) (one-source a b) (same-sources s t)

-- ---- rows of a list: the row of a row's number is that row
abbrev Own : List Row → Row → Type 0
Own us w = first_or (is_row w.number) (new_row w.number []) us ≡ w

own-later : (v : Row) (us ws : List Row) → Above v.number (numbers ws) → All (Own us) ws → All (Own (v ∷ us)) ws
unfolding first_or
own-later v us [] h k = All.all_nil
own-later v us (w ∷ ws) h (All.all_cons e k) = All.all_cons {x = w} (rw (ne_eqb v.number w.number (λ q. omega (arith, q, h.0))) e) (own-later v us ws h.1 k)

own-rows : (ws : List Row) → Rising (numbers ws) → All (Own ws) ws
unfolding first_or
own-rows [] h = All.all_nil
own-rows (w ∷ ws) h = All.all_cons {x = w} (rw (eq-eqb w.number w.number refl)) (own-later w ws ws h.0 (own-rows ws h.1))

all-chosen : {P : Row → Type 0} (q : Row → Bool) {ws : List Row} → All P ws → All P (chosen q ws)
unfolding chosen
all-chosen q All.all_nil = All.all_nil
all-chosen {P} q (All.all_cons {x = w} {xs = ws} e k) = by (q w) (all-chosen q k)
  where
    by : (b : Bool) → All P (chosen q ws) → All P (cond b (w ∷ chosen q ws) (chosen q ws))
    by true s = All.all_cons e s
    by false s = s

-- ---- the proxy's place is no source, where a row has at most four mirrors
pub record FewMirrors (w : Row) : Type 0 where
  pub few : length w.mirrors ≤ 4

not-the-proxy : (d : Direction) (w : Row) → FewMirrors w → eqb (source d w) 4 ≡ false
not-the-proxy d w h = by (source_is w d)
  where
    by : {s : ℕ} → IsSource d w s → eqb s 4 ≡ false
    by {s} (foremost a f g) = ne_eqb s 4 (λ e. omega (arith, a, h.few, e))
    by {s} (nowhere e g) = ne_eqb s 4 (λ k. omega (arith, e, k))

none-the-proxy : (d : Direction) {ws : List Row} → All FewMirrors ws → has 4 (sources d ws) ≡ false
unfolding has any
none-the-proxy d All.all_nil = refl
none-the-proxy d (All.all_cons {x = w} h t) = rw (not-the-proxy d w h) (none-the-proxy d t)

pub never-the-proxy : (d : Direction) (q : Row → Bool) {ws : List Row} → All FewMirrors ws → has 4 (sources d (chosen q ws)) ≡ false
never-the-proxy d q h = none-the-proxy d (all-chosen q h)

-- ---- one list: each row has its source
own-sources : (d : Direction) (l : Ledger) {ws : List Row} → All (Own l.rows) ws → Sources d l (numbers ws) (sources d ws)
unfolding row_of
own-sources d l All.all_nil = sources-nil
own-sources d l (All.all_cons {x = w} e k) = sources-cons {n = w.number} {s = source d w} (rw e (source_is w d)) (own-sources d l k)

pub one_list : (d : Direction) (q : Row → Bool) (l : Ledger) → Rising (numbers l.rows) → OneList d q l (chosen q l.rows)
unfolding registered row_of
one_list d q l h =
    let each = own-sources d l (all-chosen q (own-rows l.rows h)) in
    let exactly : (n : ℕ) → has n (numbers (chosen q l.rows)) ≡ row_passes q n l = λ n. exact q n (new_row n []) l.rows h in
    record {
      is = record { rising = rising-chosen q l.rows h; exactly = exactly; each = each };
      only = λ ns ss k.
          let e : ns ≡ numbers (chosen q l.rows) = rising-same ns (numbers (chosen q l.rows)) k.rising (rising-chosen q l.rows h) (λ n. k.exactly n ∙ sym (exactly n)) in
          (e, same-sources (rw e at k.each) each);
    }
