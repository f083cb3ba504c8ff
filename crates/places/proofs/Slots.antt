-- An array of which the first places hold the elements of a list, in order, and the others are free: once, for files and rows, intents and clients, mirrors and devices.
use mathlib.Core.Path.{◌≡◌, refl, ap, sym, ◌∙◌}
use mathlib.Core.List.{List, [], ◌∷◌, ◌++◌, map}
use mathlib.Core.Bool.{Bool, cond, true, false}
use Prim.Native.Nat.{ℕ, zero, suc, ◌<◌, ◌≤◌}
use native.Mathlib.Omega.{arith}
use lib.ListN.{get_or, set, length, take, drop, replicate, length-append, take-append-drop}
use lib.Dec.{ltb}
use borrow.Author.Tests.{ltb-true, ltb-false, lt-ltb, le-ltb}
use Rattle.places.specs.Lists.{any, chosen, amend, discard, first_or, fill}
use Rattle.places.specs.Places.{first, pull, left_out}
use Rattle.std.specs.Prelude.{Some, None}

pub data All {A : Type 0} (P : A → Type 0) : List A → Type 0 where
  all_nil : All P []
  all_cons : {x : A} {xs : List A} → P x → All P xs → All P (x ∷ xs)

pub data Pairs {A B : Type 0} (R : A → B → Type 0) : List A → List B → Type 0 where
  pairs-nil : Pairs R [] []
  pairs-cons : {x : A} {y : B} {xs : List A} {ys : List B} → R x y → Pairs R xs ys → Pairs R (x ∷ xs) (y ∷ ys)

pub data Slots {A B : Type 0} (R : A → B → Type 0) (F : A → Type 0) : List A → List B → Type 0 where
  rest : {xs : List A} → All F xs → Slots R F xs []
  item : {x : A} {y : B} {xs : List A} {ys : List B} → R x y → Slots R F xs ys → Slots R F (x ∷ xs) (y ∷ ys)

pub all_replicate : {A : Type 0} {P : A → Type 0} (n : ℕ) (e : A) → P e → All P (replicate n e)
all_replicate zero e h = all_nil
all_replicate (suc n) e h = all_cons h (all_replicate n e h)

pub all-as : {A : Type 0} {P Q : A → Type 0} {xs : List A} → ((x : A) → P x → Q x) → All P xs → All Q xs
all-as f all_nil = all_nil
all-as f (all_cons {x} h t) = all_cons (f x h) (all-as f t)

pub all_map : {A B : Type 0} {P : A → Type 0} {Q : B → Type 0} {xs : List A} (f : A → B) → ((x : A) → P x → Q (f x)) → All P xs → All Q (map f xs)
all_map f k all_nil = all_nil
all_map f k (all_cons {x} h t) = all_cons (k x h) (all_map f k t)

pub all-length : {A : Type 0} {P : A → Type 0} {xs : List A} → All P xs → 0 ≤ length xs
all-length h = omega arith

-- ---- maps
pub slots_map : {A B C D : Type 0} {R : A → B → Type 0} {F : A → Type 0} {S : C → D → Type 0} {G : C → Type 0} {xs : List A} {ys : List B} (f : A → C) (g : B → D)
    → ((x : A) (y : B) → R x y → S (f x) (g y)) → ((x : A) → F x → G (f x)) → Slots R F xs ys → Slots S G (map f xs) (map g ys)
slots_map f g k m (rest h) = rest (all_map f m h)
slots_map f g k m (item {x} {y} r s) = item (k x y r) (slots_map f g k m s)

-- the right side alone stays
pub slots-left : {A B : Type 0} {R S : A → B → Type 0} {F : A → Type 0} {xs : List A} {ys : List B} (f : A → A)
    → ((x : A) (y : B) → R x y → S (f x) y) → ((x : A) → F x → F (f x)) → Slots R F xs ys → Slots S F (map f xs) ys
slots-left f k m (rest h) = rest (all_map f m h)
slots-left f k m (item {x} {y} r s) = item (k x y r) (slots-left f k m s)

pub slots-as : {A B : Type 0} {R S : A → B → Type 0} {F : A → Type 0} {xs : List A} {ys : List B}
    → ((x : A) (y : B) → R x y → S x y) → Slots R F xs ys → Slots S F xs ys
slots-as k (rest h) = rest h
slots-as k (item {x} {y} r s) = item (k x y r) (slots-as k s)

pub pairs-as : {A B : Type 0} {R S : A → B → Type 0} {xs : List A} {ys : List B}
    → ((x : A) (y : B) → R x y → S x y) → Pairs R xs ys → Pairs S xs ys
pairs-as k pairs-nil = pairs-nil
pairs-as k (pairs-cons {x} {y} r s) = pairs-cons (k x y r) (pairs-as k s)

pub pairs-map : {A B C : Type 0} {R : A → B → Type 0} {xs : List A} {ys : List B} (h : A → C) (k : B → C)
    → ((x : A) (y : B) → R x y → h x ≡ k y) → Pairs R xs ys → map h xs ≡ map k ys
pairs-map h k e pairs-nil = refl
pairs-map h k e (pairs-cons {x} {y} r s) = rw (e x y r, pairs-map h k e s)

pub pairs-from : {A B : Type 0} {R : A → B → Type 0} (f : B → A) → ((y : B) → R (f y) y) → (ys : List B) → Pairs R (map f ys) ys
pairs-from f k [] = pairs-nil
pairs-from f k (y ∷ ys) = pairs-cons (k y) (pairs-from f k ys)

pub pairs-length : {A B : Type 0} {R : A → B → Type 0} {xs : List A} {ys : List B} → Pairs R xs ys → length xs ≡ length ys
pairs-length pairs-nil = refl
pairs-length (pairs-cons r s) = ap suc (pairs-length s)

-- what is paired, written over free places
pub slots-fill : {A B : Type 0} {R : A → B → Type 0} {F : A → Type 0} {xs bs : List A} {ys : List B}
    → Pairs R xs ys → All F bs → length xs ≤ length bs → Slots R F (fill xs bs) ys
unfolding fill
slots-fill pairs-nil f h = rest f
slots-fill (pairs-cons r s) all_nil h = absurd (omega arith)
slots-fill (pairs-cons r s) (all_cons e f) h = item r (slots-fill s f (omega arith))

pub fill-length : {A : Type 0} (xs d : List A) → length (fill xs d) ≡ length d
unfolding fill
fill-length [] d = refl
fill-length (x ∷ xs) [] = refl
fill-length (x ∷ xs) (y ∷ ys) = ap suc (fill-length xs ys)

cond-length : {A : Type 0} (b : Bool) (x : A) (u : List A) (n : ℕ) → length u ≤ n → length (cond b (x ∷ u) u) ≤ suc n
cond-length true x u n h = omega arith
cond-length false x u n h = omega arith

pub chosen-length : {A : Type 0} (p : A → Bool) (l : List A) → length (chosen p l) ≤ length l
unfolding chosen
chosen-length p [] = omega arith
chosen-length p (x ∷ xs) = cond-length (p x) x (chosen p xs) (length xs) (chosen-length p xs)

-- one place is changed, and what stands there goes with the same
pub slots_set : {A B : Type 0} {R : A → B → Type 0} {F : A → Type 0} {xs : List A} {ys : List B} (i : ℕ) (x d : A)
    → ((y : B) → R (get_or xs i d) y → R x y) → (F (get_or xs i d) → F x) → Slots R F xs ys → Slots R F (set xs i x) ys
slots_set i x d k m (rest h) = rest (all_set i x d m h)
  where
    all_set : {A : Type 0} {F : A → Type 0} {xs : List A} (i : ℕ) (x d : A) → (F (get_or xs i d) → F x) → All F xs → All F (set xs i x)
    all_set i x d m all_nil = all_nil
    all_set zero x d m (all_cons h t) = all_cons (m h) t
    all_set (suc i) x d m (all_cons h t) = all_cons h (all_set i x d m t)
slots_set zero x d k m (item {y} r s) = item (k y r) s
slots_set (suc i) x d k m (item r s) = item r (slots_set i x d k m s)

pub pull-length : {A : Type 0} (e : A) (xs : List A) → length (pull e xs) ≡ length xs
unfolding pull
pull-length e [] = refl
pull-length e (x ∷ []) = refl
pull-length e (x ∷ y ∷ ys) = ap suc (pull-length e (y ∷ ys))

pub left_out-length : {A : Type 0} (e : A) (i : ℕ) (xs : List A) → length (left_out e i xs) ≡ length xs
left_out-length e i xs = simp (length-append, pull-length) (sym (length-append (take i xs) (drop i xs)) ∙ ap length (take-append-drop i xs))

-- the place i is the first that passes p, and y, the first that passes q, stands there
pub record Hit {A B : Type 0} (R : A → B → Type 0) (F : A → Type 0) (p : A → Bool) (q : B → Bool) (xs : List A) (ys : List B) (i : ℕ) (y : B) : Type 0 where
  pub at : first p xs ≡ Some i
  pub inside : i < length xs
  pub there : any q ys ≡ true
  pub passes : q y ≡ true
  pub the : (d : B) → first_or q d ys ≡ y
  pub pair : (d : A) → R (get_or xs i d) y
  pub put : (x : A) (g : B → B) → R x (g y) → Slots R F (set xs i x) (amend q g ys)
  pub keep : (x : A) → R x y → Slots R F (set xs i x) ys
  pub out : (e : A) → F e → Slots R F (left_out e i xs) (discard q ys)

pub data Focus {A B : Type 0} (R : A → B → Type 0) (F : A → Type 0) (p : A → Bool) (q : B → Bool) (xs : List A) (ys : List B) : Type 0 where
  missing : first p xs ≡ None → any q ys ≡ false → Focus R F p q xs ys
  found : (i : ℕ) (y : B) → Hit R F p q xs ys i y → Focus R F p q xs ys

-- the place i is the first that is free
pub record Space {A B : Type 0} (R : A → B → Type 0) (F : A → Type 0) (p : A → Bool) (xs : List A) (ys : List B) (i : ℕ) : Type 0 where
  pub at : first p xs ≡ Some i
  pub less : length ys < length xs
  pub put : (x : A) (y : B) → R x y → Slots R F (set xs i x) (ys ++ y ∷ [])

pub data Room {A B : Type 0} (R : A → B → Type 0) (F : A → Type 0) (p : A → Bool) (xs : List A) (ys : List B) : Type 0 where
  full : first p xs ≡ None → length xs ≡ length ys → Room R F p xs ys
  room : (i : ℕ) → Space R F p xs ys i → Room R F p xs ys

-- ---- a test of the places that says what a test of the elements says, and no of a free place
module _ {A B : Type 0} {R : A → B → Type 0} {F : A → Type 0} (p : A → Bool) (q : B → Bool)
    (used : (x : A) (y : B) → R x y → p x ≡ q y) (free : (x : A) → F x → p x ≡ false) where
  all_any : {xs : List A} → All F xs → any p xs ≡ false
  unfolding any
  all_any all_nil = refl
  all_any (all_cons {x} h t) = rw (free x h, all_any t)

  pub slots-any : {xs : List A} {ys : List B} → Slots R F xs ys → any p xs ≡ any q ys
  unfolding any
  slots-any (rest h) = all_any h
  slots-any (item {x} {y} r s) = rw (used x y r, slots-any s)

  all-chosen : {xs : List A} → All F xs → chosen p xs ≡ []
  unfolding chosen
  all-chosen all_nil = refl
  all-chosen (all_cons {x} h t) = rw (free x h, all-chosen t)

  chosen-item : {x : A} {y : B} {xs : List A} {ys : List B} (b : Bool) → R x y → Pairs R xs ys → Pairs R (cond b (x ∷ xs) xs) (cond b (y ∷ ys) ys)
  chosen-item true r s = pairs-cons r s
  chosen-item false r s = s

  pub slots-chosen : {xs : List A} {ys : List B} → Slots R F xs ys → Pairs R (chosen p xs) (chosen q ys)
  unfolding chosen
  slots-chosen (rest h) = rw (all-chosen h) pairs-nil
  slots-chosen (item {x} {y} r s) = rw (used x y r) (chosen-item (q y) r (slots-chosen s))

  all_first : {xs : List A} → All F xs → first p xs ≡ None
  unfolding first
  all_first all_nil = refl
  all_first (all_cons {x} h t) = rw (free x h, all_first t)

  all-pull : {e : A} {xs : List A} (x : A) → F e → All F xs → All F (pull e (x ∷ xs))
  unfolding pull
  all-pull x f all_nil = all_cons f all_nil
  all-pull x f (all_cons {x = y} h t) = all_cons h (all-pull y f t)

  slots-pull : {e : A} {xs : List A} {ys : List B} (x : A) → F e → Slots R F xs ys → Slots R F (pull e (x ∷ xs)) ys
  unfolding pull
  slots-pull x f (rest h) = rest (all-pull x f h)
  slots-pull x f (item {x = y} r s) = item r (slots-pull y f s)

  hit-here : {x : A} {y : B} {xs : List A} {ys : List B} → q y ≡ true → R x y → Slots R F xs ys → Hit R F p q (x ∷ xs) (y ∷ ys) 0 y
  unfolding first any first_or amend discard
  hit-here {x} {y} {xs} {ys} e r s = record {
    at = rw (used x y r, e);
    inside = omega arith;
    there = rw e;
    passes = e;
    the = λ d. rw e;
    pair = λ d. r;
    put = λ x' g h. rw e (item h s);
    keep = λ x' h. item h s;
    out = λ z f. rw e (slots-pull x f s);
  }

  hit_later : {x : A} {y : B} {xs : List A} {ys : List B} {i : ℕ} {v : B} → q y ≡ false → R x y → Hit R F p q xs ys i v → Hit R F p q (x ∷ xs) (y ∷ ys) (suc i) v
  unfolding first any first_or amend discard
  hit_later {x} {y} {xs} {ys} {i} {v} e r h = record {
    at = rw (used x y r, e, h.at);
    inside = omega (arith, h.inside);
    there = rw (e, h.there);
    passes = h.passes;
    the = λ d. rw e (h.the d);
    pair = λ d. h.pair d;
    put = λ x' g k. rw e (item r (h.put x' g k));
    keep = λ x' k. item r (h.keep x' k);
    out = λ z f. rw e (item r (h.out z f));
  }

  focus-later : {x : A} {y : B} {xs : List A} {ys : List B} → q y ≡ false → R x y → Focus R F p q xs ys → Focus R F p q (x ∷ xs) (y ∷ ys)
  unfolding first any
  focus-later {x} {y} e r (missing h k) = missing (rw (used x y r, e, h)) (rw (e, k))
  focus-later e r (found i v h) = found (suc i) v (hit_later e r h)

  focus-item : {x : A} {y : B} {xs : List A} {ys : List B} (b : Bool) → q y ≡ b → R x y → Slots R F xs ys → Focus R F p q xs ys → Focus R F p q (x ∷ xs) (y ∷ ys)
  focus-item {y} true e r s h = found 0 y (hit-here e r s)
  focus-item false e r s h = focus-later e r h

  pub focus : {xs : List A} {ys : List B} → Slots R F xs ys → Focus R F p q xs ys
  unfolding any
  focus (rest h) = missing (all_first h) refl
  focus (item {y} r s) = focus-item (q y) refl r s (focus s)

-- ---- the first free place: there is one more element
module _ {A B : Type 0} {R : A → B → Type 0} {F : A → Type 0} (p : A → Bool)
    (used : (x : A) (y : B) → R x y → p x ≡ false) (free : (x : A) → F x → p x ≡ true) where
  room-rest : {xs : List A} → All F xs → Room R F p xs []
  unfolding first
  room-rest all_nil = full refl refl
  room-rest (all_cons {x} h t) = room 0 (record { at = rw (free x h); less = omega arith; put = λ x' y r. item r (rest t) })

  room-item : {x : A} {y : B} {xs : List A} {ys : List B} → R x y → Room R F p xs ys → Room R F p (x ∷ xs) (y ∷ ys)
  unfolding first
  room-item {x} {y} r (full h k) = full (rw (used x y r, h)) (ap suc k)
  room-item {x} {y} r (room i h) = room (suc i) (record { at = rw (used x y r, h.at); less = omega (arith, h.less); put = λ x' y' k. item r (h.put x' y' k) })

  pub room_for : {xs : List A} {ys : List B} → Slots R F xs ys → Room R F p xs ys
  room_for (rest h) = room-rest h
  room_for (item r s) = room-item r (room_for s)

-- ---- one place: it is an element's as long as there is one
all-at : {A : Type 0} {F : A → Type 0} {xs : List A} (i : ℕ) (d : A) → i < length xs → All F xs → F (get_or xs i d)
all-at i d h all_nil = absurd (omega arith)
all-at zero d h (all_cons f t) = f
all-at (suc i) d h (all_cons f t) = all-at i d (omega arith) t

less-suc : (i n : ℕ) (b : Bool) → ltb i n ≡ b → b ≡ ltb (suc i) (suc n)
less-suc i n true e = sym (lt-ltb (suc i) (suc n) (omega (arith, ltb-true i n e)))
less-suc i n false e = sym (le-ltb (suc i) (suc n) (omega (arith, ltb-false i n e)))

pub slots_at : {A B : Type 0} {R : A → B → Type 0} {F : A → Type 0} {xs : List A} {ys : List B} (p : A → Bool)
    → ((x : A) (y : B) → R x y → p x ≡ true) → ((x : A) → F x → p x ≡ false) → (i : ℕ) (d : A) → i < length xs → Slots R F xs ys → p (get_or xs i d) ≡ ltb i (length ys)
slots_at p used free i d h (rest f) = free _ (all-at i d h f) ∙ sym (le-ltb i 0 (omega arith))
slots_at p used free zero d h (item {x} {y} {ys = ys} r s) = used x y r ∙ sym (lt-ltb 0 (suc (length ys)) (omega arith))
slots_at p used free (suc i) d h (item {ys = ys} r s) = slots_at p used free i d (omega arith) s ∙ less-suc i (length ys) (ltb i (length ys)) refl
