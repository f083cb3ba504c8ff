-- Invariants of the loops, each over any element and length, with the laws of a step and of the end, in this order: an array's length; a search;
-- a map; one place put or fetched; what stands after a place pulled down over it; what is chosen, counted and written to the front.
use mathlib.Core.Path.{◌≡◌, refl, ap, sym, subst, ◌∙◌}
use mathlib.Core.List.{List, [], ◌∷◌, ◌++◌, map, append_assoc, append-nil, map-append}
use mathlib.Core.Bool.{Bool, true, false, cond}
use Prim.Native.Nat.{ℕ, zero, suc, ◌+◌, ◌<◌, ◌≤◌}
use native.Mathlib.Numerals.{add-one}
use native.Mathlib.Omega.{arith}
use native.Mathlib.Decide.{ℕ_discrete}
use lib.ListN.{get_or, set, length, take, drop, length-set, length-append, length-map, drop_of_length-le, get_or-eq_default}
use lib.Dec.{eqb, leb}
use lib.Seq.{set-get_or, drop-cons, take-suc, take-suc-set, drop-set-lt, set_split, take_all, split_at}
use borrow.Author.Tests.{le-leb, leb-true, leb-false, eq-eqb, ne_eqb}
use Rattle.places.specs.Lists.{chosen, fill}
use Rattle.places.specs.Places.{pull, left_out, bump, first}
use Rattle.places.proofs.Slots.{fill-length}
use Rattle.std.specs.Prelude.{Option, Some, None}

-- an array of structs that is a field: its length, as `c.good` has it
pub mapped-length : {A B : Type 0} (f : A → B) (l : List A) (n : ℕ) → length (map f l) ≡ n → length l ≡ n
mapped-length f l n e = sym (length-map l f) ∙ e

-- ---- a search for p in l has come to the place i, and o is what it is to answer
abbrev from : ℕ → Option ℕ → Option ℕ
from i (Some k) = Some (i + k)
from i None = None

pub record Searching {A : Type 0} (p : A → Bool) (l : List A) (i : ℕ) (o : Option ℕ) : Type 0 where
  pub rest : o ≡ from i (first p (drop i l))

from_zero : (o : Option ℕ) → o ≡ from 0 o
from_zero (Some k) = ap Some (omega arith)
from_zero None = refl

from-bump : (i : ℕ) (o : Option ℕ) → from i (bump o) ≡ from (suc i) o
from-bump i (Some k) = ap Some (omega arith)
from-bump i None = refl

pub searching : {A : Type 0} (p : A → Bool) (l : List A) → Searching p l 0 (first p l)
searching p l = record { rest = from_zero (first p l) }

-- a step: `b` is what the test says of the place i
module _ {A : Type 0} {p : A → Bool} {l : List A} {i : ℕ} {o : Option ℕ} (s : Searching p l i o) (d : A) (h : i < length l) (b : Bool) (t : b ≡ p (get_or l i d)) where
  pub hit : b ≡ true → Some i ≡ o
  unfolding first
  hit q = sym (s.rest ∙ rw (drop-cons l i d h, ← t, q) (ap Some (omega arith)))

  pub miss : b ≡ false → Searching p l (i + 1) o
  unfolding first
  miss q = record { rest = s.rest ∙ rw (add-one, drop-cons l i d h, ← t, q) (from-bump i (first p (drop (suc i) l))) }

pub over : {A : Type 0} {p : A → Bool} {l : List A} {i : ℕ} {o : Option ℕ} → Searching p l i o → length l ≤ i → None ≡ o
unfolding first
over {l} s h = sym (s.rest ∙ rw (drop_of_length-le l h))

-- the place that is found is one of the list's
below-item : (b : Bool) (o : Option ℕ) (k n : ℕ) → cond b (Some 0) (bump o) ≡ Some k → ((j : ℕ) → o ≡ Some j → j < n) → k < suc n
below-item true o k n e f = let q : 0 ≡ k = cc in omega arith
below-item false (Some j) k n e f = let q : suc j ≡ k = cc in omega (arith, f j refl)
below-item false None k n e f = let z : ◌≡◌ {A = ℕ} 0 1 = cc in absurd (omega arith)

pub found_below : {A : Type 0} (p : A → Bool) (l : List A) (k : ℕ) → first p l ≡ Some k → k < length l
unfolding first
found_below p [] k e = let z : ◌≡◌ {A = ℕ} 0 1 = cc in absurd (omega arith)
found_below p (x ∷ xs) k e = below-item (p x) (first p xs) k (length xs) e (λ j q. found_below p xs j q)

-- ---- a loop that maps a list by f, which may depend on the place: the list was l and is m, and the places before i are mapped
unfoldable pub map_at : {A : Type 0} → (ℕ → A → A) → List A → List A
map_at f [] = []
map_at f (x ∷ xs) = f 0 x ∷ map_at (λ k. f (suc k)) xs

unfoldable pub map_first : {A : Type 0} → (ℕ → A → A) → ℕ → List A → List A
map_first f zero l = l
map_first f (suc n) [] = []
map_first f (suc n) (x ∷ xs) = f 0 x ∷ map_first (λ k. f (suc k)) n xs

module _ {A : Type 0} where
  map_first-next : (f : ℕ → A → A) (i : ℕ) (l : List A) (d : A) → get_or (map_first f i l) i d ≡ get_or l i d
  unfolding map_first
  map_first-next f zero l d = refl
  map_first-next f (suc i) [] d = refl
  map_first-next f (suc i) (x ∷ xs) d = map_first-next (λ k. f (suc k)) i xs d

  map_first-length : (f : ℕ → A → A) (i : ℕ) (l : List A) → length (map_first f i l) ≡ length l
  unfolding map_first
  map_first-length f zero l = refl
  map_first-length f (suc i) [] = refl
  map_first-length f (suc i) (x ∷ xs) = ap suc (map_first-length (λ k. f (suc k)) i xs)

  map_more : (f : ℕ → A → A) (i : ℕ) (l : List A) (d : A) → i < length l → set (map_first f i l) i (f i (get_or l i d)) ≡ map_first f (suc i) l
  unfolding map_first
  map_more f zero [] d h = absurd (omega arith)
  map_more f zero (x ∷ xs) d h = refl
  map_more f (suc i) [] d h = refl
  map_more f (suc i) (x ∷ xs) d h = ap {B = List A} (λ t. f 0 x ∷ t) (map_more (λ k. f (suc k)) i xs d (omega arith))

  map_first-all : (f : ℕ → A → A) (i : ℕ) (l : List A) → length l ≤ i → map_first f i l ≡ map_at f l
  unfolding map_first map_at
  map_first-all f zero [] h = refl
  map_first-all f zero (x ∷ xs) h = absurd (omega arith)
  map_first-all f (suc i) [] h = refl
  map_first-all f (suc i) (x ∷ xs) h = ap {B = List A} (λ t. f 0 x ∷ t) (map_first-all (λ k. f (suc k)) i xs (omega arith))

  map_each : (f : A → A) (l : List A) → map_at (λ k. f) l ≡ map f l
  unfolding map_at
  map_each f [] = refl
  map_each f (x ∷ xs) = ap {B = List A} (λ t. f x ∷ t) (map_each f xs)

pub record Mapping {A : Type 0} (f : ℕ → A → A) (l m : List A) (i : ℕ) : Type 0 where
  pub so_far : m ≡ map_first f i l

pub mapping-none : {A : Type 0} (f : ℕ → A → A) (l : List A) → Mapping f l l 0
unfolding map_first
mapping-none f l = record { so_far = refl }

module _ {A : Type 0} {f : ℕ → A → A} {l m : List A} {i : ℕ} (s : Mapping f l m i) where
  pub mapping-length : length m ≡ length l
  mapping-length = rw s.so_far (map_first-length f i l)

  pub mapping-more : (d : A) → i < length l → (y : A) → y ≡ f i (get_or m i d) → Mapping f l (set m i y) (i + 1)
  mapping-more d h y e = record { so_far = rw (e, s.so_far, map_first-next f i l d, add-one) (map_more f i l d h) }

  pub mapped_at : length l ≤ i → m ≡ map_at f l
  mapped_at h = s.so_far ∙ map_first-all f i l h

pub mapped : {A : Type 0} {f : A → A} {l m : List A} {i : ℕ} → Mapping (λ k. f) l m i → length l ≤ i → m ≡ map f l
mapped {f} {l} s h = mapped_at s h ∙ map_each f l

-- ---- a loop that goes over all places, to put y at one of them, `at`, or to fetch g of what is there, has come to the place i
pub data Putting {A : Type 0} (at : ℕ) (y : A) (l m : List A) (i : ℕ) : Type 0 where
  to-put : i ≤ at → m ≡ l → Putting at y l m i
  put : at < i → m ≡ set l at y → Putting at y l m i

pub data Fetching {A B : Type 0} (g : A → B) (d : A) (l : List A) (at : ℕ) (b : B) (i : ℕ) : Type 0 where
  to-fetch : i ≤ at → b ≡ g d → Fetching g d l at b i
  fetched : at < i → b ≡ g (get_or l at d) → Fetching g d l at b i

put-none : {A : Type 0} (l : List A) (at : ℕ) (y : A) → length l ≤ at → set l at y ≡ l
put-none [] at y h = refl
put-none (x ∷ xs) zero y h = absurd (omega arith)
put-none {A} (x ∷ xs) (suc at) y h = ap {B = List A} (λ t. x ∷ t) (put-none xs at y (omega arith))

-- a step: z is y at the place, and elsewhere what stands there
module _ {A : Type 0} (at i : ℕ) (y : A) (l m : List A) (d z : A) (e : z ≡ cond (eqb i at) y (get_or m i d)) where
  elsewhere : (i ≡ at → ⊥) → set m i z ≡ m
  elsewhere q = rw (e, ne_eqb i at q) (set-get_or m i d)

  put-now : i ≤ at → m ≡ l → Dec (i ≡ at) → Putting at y l (set m i z) (i + 1)
  put-now h p (yes q) = put (omega (arith, q)) (rw (e, eq-eqb i at q, p, q))
  put-now h p (no q) = to-put (omega (arith, h, q)) (elsewhere q ∙ p)

  pub putting-more : Putting at y l m i → Putting at y l (set m i z) (i + 1)
  putting-more (to-put h p) = put-now h p (ℕ_discrete i at)
  putting-more (put h p) = put (omega (arith, h)) (elsewhere (λ q. omega (arith, h, q)) ∙ p)

pub putting-done : {A : Type 0} (at : ℕ) (y : A) (l : List A) {m : List A} {i : ℕ} → length l ≤ i → Putting at y l m i → m ≡ set l at y
putting-done at y l k (to-put h p) = p ∙ sym (put-none l at y (omega (arith, h, k)))
putting-done at y l k (put h p) = p

module _ {A B : Type 0} (g : A → B) (d : A) (l : List A) (at i : ℕ) (b z : B) (e : z ≡ cond (eqb i at) (g (get_or l i d)) b) where
  not-here : (i ≡ at → ⊥) → z ≡ b
  not-here q = rw (e, ne_eqb i at q)

  fetch-now : i ≤ at → b ≡ g d → Dec (i ≡ at) → Fetching g d l at z (i + 1)
  fetch-now h p (yes q) = fetched (omega (arith, q)) (rw (e, eq-eqb i at q, q))
  fetch-now h p (no q) = to-fetch (omega (arith, h, q)) (not-here q ∙ p)

  pub fetching-more : Fetching g d l at b i → Fetching g d l at z (i + 1)
  fetching-more (to-fetch h p) = fetch-now h p (ℕ_discrete i at)
  fetching-more (fetched h p) = fetched (omega (arith, h)) (not-here (λ q. omega (arith, h, q)) ∙ p)

pub fetching-done : {A B : Type 0} (g : A → B) (d : A) (l : List A) (at : ℕ) {b : B} {i : ℕ} → length l ≤ i → Fetching g d l at b i → b ≡ g (get_or l at d)
fetching-done g d l at k (to-fetch h p) = p ∙ sym (ap g (get_or-eq_default l d (omega (arith, h, k))))
fetching-done g d l at k (fetched h p) = p

-- ---- a loop that pulls down, with e at the last place, n, has come to the place i; w is the list that it is to end with
pub record Pulling {A : Type 0} (e : A) (n : ℕ) (w l : List A) (i : ℕ) : Type 0 where
  pub rest : w ≡ left_out e i l
  pub long : length l ≡ suc n

module _ {A : Type 0} {e : A} {n : ℕ} {w l : List A} {i : ℕ} (s : Pulling e n w l i) (d : A) where
  pub pulling-on : i < n → (y : A) → y ≡ get_or l (i + 1) d → Pulling e n w (set l i y) (i + 1)
  unfolding pull
  pulling-on h y q =
      let a : i < length l = omega (arith, s.long) in
      let b : suc i < length l = omega (arith, s.long) in
      let r : drop (suc i) l ≡ y ∷ drop (suc (suc i)) l = drop-cons l (suc i) d b ∙ rw (q, add-one) in
      let t : drop i l ≡ get_or l i d ∷ y ∷ drop (suc (suc i)) l = drop-cons l i d a ∙ rw r in
      record {
        rest = s.rest ∙ rw (t, add-one, take-suc-set l i y a, drop-set-lt (suc i) l i y (omega arith), r, append_assoc);
        long = simp length-set s.long;
      }

  pub pulled : i ≡ n → (z : A) → z ≡ e → set l n z ≡ w
  unfolding pull
  pulled h z q =
      let a : n < length l = omega (arith, s.long) in
      let p : length l ≤ suc n = omega (arith, s.long) in
      let m : drop (suc n) l ≡ [] = drop_of_length-le l p in
      sym (s.rest ∙ rw (h, drop-cons l n d a, m, ← q) (sym (set_split l n z a ∙ rw m)))

-- where no such place is, nothing goes
pub left_out-none : {A : Type 0} (e : A) (at : ℕ) (l : List A) → length l ≤ at → left_out e at l ≡ l
unfolding pull
left_out-none e at l h = rw (drop_of_length-le l h) (append-nil (take at l) ∙ take_all at l h)

-- the same over all places: before `at` nothing is pulled
abbrev pub reach : ℕ → ℕ → ℕ
reach at i = cond (leb at i) i at

reach-none : (at : ℕ) → reach at 0 ≡ at
reach-none at = by (leb at 0) refl
  where
    by : (b : Bool) → leb at 0 ≡ b → cond b 0 at ≡ at
    by true r = omega (arith, leb-true at 0 r)
    by false r = refl

pub pulling-none : {A : Type 0} (e : A) (n at : ℕ) (l : List A) → length l ≡ suc n → Pulling e n (left_out e at l) l (reach at 0)
pulling-none e n at l h = rw (reach-none at) (record { rest = refl; long = h })

-- at the last place e goes in, if anything was pulled
pub pulled-all : {A : Type 0} {e : A} {n : ℕ} {w l : List A} (at i : ℕ) (d : A) → Pulling e n w l (reach at i) → i ≡ n → (z : A) → z ≡ cond (leb at n) e (get_or l n d) → set l n z ≡ w
unfolding pull
pulled-all {A} {e} {n} {w} {l} at i d s k z q = by (leb at n) refl (ap (reach at) k) q
  where
    by : (b : Bool) → leb at n ≡ b → reach at i ≡ cond (leb at n) n at → z ≡ cond b e (get_or l n d) → set l n z ≡ w
    by true r t p = pulled s d (t ∙ rw r) z p
    by false r t p =
        let h : length l ≤ at = omega (arith, s.long, leb-false at n r) in
        rw (p, set-get_or l n d) (sym (s.rest ∙ rw (t, r, take_all at l h, drop_of_length-le l h, append-nil)))

module _ {A : Type 0} {e : A} {n : ℕ} {w l : List A} (at i : ℕ) (d : A) (lt : i < n) where
  pub pulling-next : Pulling e n w l (reach at i) → (z : A) → z ≡ cond (leb at i) (get_or l (i + 1) d) (get_or l i d) → Pulling e n w (set l i z) (reach at (i + 1))
  pulling-next s z q = by (leb at i) refl s q
    where
      by : (b : Bool) → leb at i ≡ b → Pulling e n w l (cond b i at) → z ≡ cond b (get_or l (i + 1) d) (get_or l i d) → Pulling e n w (set l i z) (reach at (i + 1))
      by true r t p = rw (le-leb at (i + 1) (omega (arith, leb-true at i r))) (pulling-on t d lt z p)
      by false r t p = rw (p, set-get_or l i d) (subst (Pulling e n w l) (sym (still (leb at (i + 1)) refl)) t)
        where
          still : (c : Bool) → leb at (i + 1) ≡ c → cond c (i + 1) at ≡ at
          still true v = omega (arith, leb-true at (i + 1) v, leb-false at i r)
          still false v = refl

-- ---- what p chooses of a list
module _ {A : Type 0} (p : A → Bool) where
  cond-append : (b : Bool) (x : A) (u v w : List A) → u ≡ v ++ w → cond b (x ∷ u) u ≡ cond b (x ∷ v) v ++ w
  cond-append true x u v w e = ap {B = List A} (λ t. x ∷ t) e
  cond-append false x u v w e = e

  chosen-append : (a b : List A) → chosen p (a ++ b) ≡ chosen p a ++ chosen p b
  unfolding chosen
  chosen-append [] b = refl
  chosen-append (x ∷ xs) b = cond-append (p x) x _ _ _ (chosen-append xs b)

  module _ (l : List A) (i : ℕ) (d : A) (h : i < length l) where
    chosen-yes : p (get_or l i d) ≡ true → chosen p (take (suc i) l) ≡ chosen p (take i l) ++ get_or l i d ∷ []
    unfolding chosen
    chosen-yes e = rw (take-suc l i d h) (chosen-append (take i l) (get_or l i d ∷ []) ∙ rw e)

    chosen-no : p (get_or l i d) ≡ false → chosen p (take (suc i) l) ≡ chosen p (take i l)
    unfolding chosen
    chosen-no e = rw (take-suc l i d h) (chosen-append (take i l) (get_or l i d ∷ []) ∙ rw (e, append-nil))

    chosen-room : p (get_or l i d) ≡ true → length (chosen p (take i l)) < length (chosen p l)
    unfolding chosen
    chosen-room e =
        let q : chosen p l ≡ chosen p (take i l) ++ get_or l i d ∷ chosen p (drop (suc i) l) =
        ap (chosen p) (split_at l i d h) ∙ chosen-append (take i l) (get_or l i d ∷ drop (suc i) l) ∙ rw e in
        omega (arith, simp length-append at (ap length q))

pub fill-snoc : {A : Type 0} (xs d : List A) (v : A) → set (fill xs d) (length xs) v ≡ fill (xs ++ v ∷ []) d
unfolding fill
fill-snoc [] [] v = refl
fill-snoc [] (y ∷ ys) v = refl
fill-snoc (x ∷ xs) [] v = refl
fill-snoc {A} (x ∷ xs) (y ∷ ys) v = ap {B = List A} (λ t. x ∷ t) (fill-snoc xs ys v)

-- a loop that counts what p chooses of l has come to the place i, with k
pub record Counting {A : Type 0} (p : A → Bool) (l : List A) (i k : ℕ) : Type 0 where
  pub count : k ≡ length (chosen p (take i l))

-- a loop that writes g of what p chooses of l to the front of a list, which was e and is m, has come to the place i
pub record Filling {A B : Type 0} (p : A → Bool) (g : A → B) (l : List A) (i : ℕ) (e m : List B) : Type 0 where
  pub so_far : m ≡ fill (map g (chosen p (take i l))) e

pub counting-none : {A : Type 0} (p : A → Bool) (l : List A) → Counting p l 0 0
unfolding chosen
counting-none p l = record { count = refl }

pub filling-none : {A B : Type 0} (p : A → Bool) (g : A → B) (l : List A) (e : List B) → Filling p g l 0 e e
unfolding chosen fill
filling-none p g l e = record { so_far = refl }

-- a step: `b` is what the test says of the place i
module _ {A : Type 0} {p : A → Bool} {l : List A} {i k : ℕ} (s : Counting p l i k) (x : A) (h : i < length l) (b : Bool) (t : b ≡ p (get_or l i x)) where
  pub counting-skip : b ≡ false → Counting p l (i + 1) k
  counting-skip q = record { count = rw (add-one, chosen-no p l i x h (sym t ∙ q)) s.count }

  pub counting_more : b ≡ true → Counting p l (i + 1) (k + 1)
  counting_more q = record { count = rw (add-one i, chosen-yes p l i x h (sym t ∙ q), length-append, s.count) }

  pub counting-room : b ≡ true → k < length (chosen p l)
  counting-room q = omega (arith, s.count, chosen-room p l i x h (sym t ∙ q))

  module _ {B : Type 0} {g : A → B} {e m : List B} (w : Filling p g l i e m) where
    pub filling_skip : b ≡ false → Filling p g l (i + 1) e m
    filling_skip q = record { so_far = rw (add-one, chosen-no p l i x h (sym t ∙ q)) w.so_far }

    pub filling-more : b ≡ true → (v : B) → v ≡ g (get_or l i x) → Filling p g l (i + 1) e (set m k v)
    filling-more q v r = record {
      so_far =
          rw (w.so_far, s.count, r, add-one, chosen-yes p l i x h (sym t ∙ q), map-append, ← length-map (chosen p (take i l)) g)
          (fill-snoc (map g (chosen p (take i l))) e (g (get_or l i x)));
    }

pub counted : {A : Type 0} {p : A → Bool} {l : List A} {i k : ℕ} → Counting p l i k → length l ≤ i → k ≡ length (chosen p l)
counted {p} {l} {i} s h = s.count ∙ ap (λ t. length (chosen p t)) (take_all i l h)

module _ {A B : Type 0} {p : A → Bool} {g : A → B} {l : List A} {i : ℕ} {e m : List B} (w : Filling p g l i e m) where
  pub filled : length l ≤ i → m ≡ fill (map g (chosen p l)) e
  filled h = w.so_far ∙ ap (λ t. fill (map g (chosen p t)) e) (take_all i l h)

  pub filling-length : length m ≡ length e
  filling-length = rw w.so_far (fill-length (map g (chosen p (take i l))) e)

pub map-self : {A : Type 0} (l : List A) → map (λ x. x) l ≡ l
map-self [] = refl
map-self {A} (x ∷ xs) = ap {B = List A} (λ t. x ∷ t) (map-self xs)
