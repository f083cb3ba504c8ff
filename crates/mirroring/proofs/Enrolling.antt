-- The mirror list of a register call: the laws of `devices_in`, `twice` and `bad_mirrors`, and the loop that reads a list.
use mathlib.Core.Path.{◌≡◌, refl, ap, sym, ◌∙◌}
use mathlib.Core.List.{List, [], ◌∷◌, ◌++◌, map, map-append}
use mathlib.Core.Bool.{Bool, true, false, not, cond}
use Prim.Native.Nat.{ℕ, zero, suc, ◌+◌, ◌-◌, ◌*◌, ◌/◌, ◌%◌, ◌<◌, ◌≤◌}
use native.Mathlib.Omega.{arith}
use native.Mathlib.Numerals.{add-one}
use native.Mathlib.Nat.{add-suc}
use lib.ListN.{set, length, drop, replicate, length-map}
use lib.Seq.{drop-drop}
use lib.Dec.{eqb, leb, ltb}
use borrow.Author.Tests.{eqb-true, eqb-false, leb-true, leb-false, eq-eqb, ne_eqb, lt-ltb, le-ltb, ltb-false}
use Rattle.xdr.specs.Be.{be_nat}
use Rattle.places.specs.Lists.{any, none, fill}
use Rattle.reports.specs.Device.{Device, halves}
use Rattle.mirroring.specs.Devices.{same_device, devices_in, mirrors_in, is_mirror, twice, bad_mirrors}
use Rattle.mirroring.specs.Mirrors.{no_mirror, new_mirror, mirror_of, is_at, whole_list, Enrolled, refused_list, placed_mirrors, enrolled_of}
use Rattle.mirroring.specs.declared.mirrors.Mirror.{Mirror}
use Rattle.places.proofs.Sets.{true-false, eqb-sym, any_append}
use Rattle.places.proofs.Loops.{fill-snoc}
use Rattle.mirroring.proofs.Copies.{known-new}

-- ---- the ids in a list of bytes
pub devices-length : (n : ℕ) (s : List ℕ) → length (devices_in n s) ≡ n
unfolding devices_in
devices-length zero s = refl
devices-length (suc n) s = ap suc (devices-length n (drop 16 s))

devices-snoc : (n : ℕ) (s : List ℕ) → devices_in (suc n) s ≡ devices_in n s ++ halves (drop (16 * n) s) ∷ []
unfolding devices_in
devices-snoc zero s = refl
devices-snoc (suc n) s =
    let e : 16 + 16 * n ≡ 16 * suc n = omega arith in
    let q : drop (16 * n) (drop 16 s) ≡ drop (16 * suc n) s = drop-drop (16 * n) 16 s ∙ ap (λ k. drop k s) e in
    ap {B = List Device} (λ t. halves s ∷ t) (devices-snoc n (drop 16 s) ∙ ap (λ t. devices_in n (drop 16 s) ++ halves t ∷ []) q)

-- ---- a device twice
same-sym : (d e : Device) → same_device d e ≡ same_device e d
same-sym d e = rw (eqb-sym d.high e.high, eqb-sym d.low e.low)

twice-snoc : (ds : List Device) (d : Device) → twice (ds ++ d ∷ []) ≡ cond (twice ds) true (is_mirror d ds)
unfolding twice is_mirror any
twice-snoc [] d = refl
twice-snoc (e ∷ es) d =
    rw (any_append (λ x. same_device x e) es (d ∷ []), twice-snoc es d, same-sym d e) (by (any (λ x. same_device x e) es) (same_device e d) (twice es) (any (λ x. same_device x d) es))
  where
    by : (a b c f : Bool) → cond (cond a true (cond b true false)) true (cond c true f) ≡ cond (cond a true c) true (cond b true f)
    by true b c f = refl
    by false true true f = refl
    by false true false f = refl
    by false false c f = refl

still-twice : (k j : ℕ) (s : List ℕ) → twice (devices_in k s) ≡ true → twice (devices_in (k + j) s) ≡ true
still-twice k zero s e = ap (λ n. twice (devices_in n s)) (omega arith) ∙ e
still-twice k (suc j) s e =
    rw (add-suc, devices-snoc (k + j) s, twice-snoc (devices_in (k + j) s) (halves (drop (16 * (k + j)) s)), still-twice k j s e)

-- ---- whole lists
record Whole (n : ℕ) : Type 0 where
  ids : n % 16 ≡ 0
  some : 0 < n
  few : n ≤ 64

whole_by : (n : ℕ) (a b : Bool) → eqb (n % 16) 0 ≡ a → eqb n 0 ≡ b → cond (cond a (not b) false) (leb n 64) false ≡ true → Whole n
whole_by n true true p q e = true-false (sym e)
whole_by n true false p q e = record { ids = eqb-true _ _ p; some = omega (arith, eqb-false n 0 q); few = leb-true _ _ e }
whole_by n false b p q e = true-false (sym e)

whole_is : (n : ℕ) → whole_list n ≡ true → Whole n
whole_is n e = whole_by n (eqb (n % 16) 0) (eqb n 0) refl refl e

none-devices : (n : ℕ) (s : List ℕ) → none (devices_in n s) ≡ eqb n 0
unfolding devices_in none
none-devices zero s = refl
none-devices (suc n) s = sym (ne_eqb (suc n) 0 (λ e. omega arith))

module _ (s : List ℕ) where
  bad-by : (a b c : Bool) → eqb (length s % 16) 0 ≡ a → eqb (length s) 0 ≡ b → leb (length s) 64 ≡ c → cond (cond a (not b) false) c false ≡ false → bad_mirrors s ≡ true
  unfolding bad_mirrors mirrors_in
  bad-by false b c p q r e = rw p
  bad-by true true c p q r e =
      let z : length s / 16 ≡ 0 = omega (arith, eqb-true (length s) 0 q) in
      rw (p, none-devices (length s / 16) s, eq-eqb (length s / 16) 0 z)
  bad-by true false true p q r e = true-false e
  bad-by true false false p q r e =
      let z : 4 < length s / 16 = omega (arith, leb-false (length s) 64 r, eqb-true (length s % 16) 0 p) in
      rw (p, devices-length (length s / 16) s, lt-ltb 4 (length s / 16) z) (last (none (devices_in (length s / 16) s)))
    where
      last : (b : Bool) → cond b true true ≡ true
      last true = refl
      last false = refl

  pub refused-whole : whole_list (length s) ≡ false → refused_list ≡ enrolled_of s
  unfolding enrolled_of
  refused-whole e = rw (bad-by (eqb (length s % 16) 0) (eqb (length s) 0) (leb (length s) 64) refl refl refl e)

  -- a whole list is bad exactly when it names one twice
  whole-bad : Whole (length s) → bad_mirrors s ≡ twice (devices_in (length s / 16) s)
  unfolding bad_mirrors mirrors_in
  whole-bad w =
      rw (eq-eqb (length s % 16) 0 w.ids, none-devices (length s / 16) s, ne_eqb (length s / 16) 0 (λ e. omega (arith, w.some, w.ids)), devices-length (length s / 16) s, le-ltb 4 (length s / 16) (omega (arith, w.few)))

-- ---- the loop that reads a list has come to the place i
pub record Enrolling (s : List ℕ) (ms : List Mirror) (i : ℕ) : Type 0 where
  pub ids : length s % 16 ≡ 0
  pub some : 0 < length s
  pub few : length s ≤ 64
  pub within : 16 * i ≤ length s
  pub apart : twice (devices_in i s) ≡ false
  pub so_far : ms ≡ placed_mirrors (devices_in i s)

pub enrolling-none : (s : List ℕ) → whole_list (length s) ≡ true → (m : Mirror) → m ≡ no_mirror → Enrolling s (replicate 5 m) 0
unfolding devices_in twice fill
enrolling-none s e m q =
    let w = whole_is (length s) e in
    record { ids = w.ids; some = w.some; few = w.few; within = omega arith; apart = refl; so_far = rw q }

module _ {s : List ℕ} {ms : List Mirror} {i : ℕ} (r : Enrolling s ms i) where
  whole-so : Whole (length s)
  whole-so = record { ids = r.ids; some = r.some; few = r.few }

  module _ (h : 16 * i < length s) {high low : ℕ} (a : high ≡ be_nat 8 (drop (16 * i) s)) (b : low ≡ be_nat 8 (drop (16 * i + 8) s)) where
    device-is : record { high = high; low = low } ≡ halves (drop (16 * i) s)
    device-is = rw (a, b, ← drop-drop 8 (16 * i) s)

    named : any (is_at high low) ms ≡ is_mirror (halves (drop (16 * i) s)) (devices_in i s)
    named = rw (r.so_far, ← device-is) (known-new (devices_in i s) (record { high = high; low = low }) (omega (arith, devices-length i s, r.few)))

    pub enrolling-twice : any (is_at high low) ms ≡ true → refused_list ≡ enrolled_of s
    unfolding enrolled_of
    enrolling-twice e =
        let t : twice (devices_in (suc i) s) ≡ true = rw (devices-snoc i s, twice-snoc (devices_in i s) (halves (drop (16 * i) s)), r.apart) (sym named ∙ e) in
        let n : suc i + (length s / 16 - suc i) ≡ length s / 16 = omega (arith, r.ids) in
        rw (whole-bad s whole-so ∙ ap (λ n. twice (devices_in n s)) (sym n) ∙ still-twice (suc i) (length s / 16 - suc i) s t)

    pub enrolling-more : any (is_at high low) ms ≡ false → (m : Mirror) → m ≡ new_mirror high low → Enrolling s (set ms i m) (i + 1)
    enrolling-more e m q = record {
      ids = r.ids;
      some = r.some;
      few = r.few;
      within = omega (arith, r.ids);
      apart = rw (add-one, devices-snoc i s, twice-snoc (devices_in i s) (halves (drop (16 * i) s)), r.apart) (sym named ∙ e);
      so_far = rw (add-one, devices-snoc i s, map-append, q, r.so_far) (put ∙ ap (λ (d : Device). fill (map mirror_of (devices_in i s) ++ mirror_of d ∷ []) (replicate 5 no_mirror)) device-is);
    }
      where
        long : length (map mirror_of (devices_in i s)) ≡ i
        long = length-map (devices_in i s) mirror_of ∙ devices-length i s

        put : set (placed_mirrors (devices_in i s)) i (new_mirror high low) ≡ fill (map mirror_of (devices_in i s) ++ new_mirror high low ∷ []) (replicate 5 no_mirror)
        put = ap (λ n. set (placed_mirrors (devices_in i s)) n (new_mirror high low)) (sym long) ∙ fill-snoc (map mirror_of (devices_in i s)) (replicate 5 no_mirror) (new_mirror high low)

  pub enrolled-all : length s ≤ 16 * i → ◌≡◌ {A = Enrolled} (record { mirrors = ms; good = true }) (enrolled_of s)
  unfolding enrolled_of mirrors_in
  enrolled-all h =
      let n : length s / 16 ≡ i = omega (arith, r.within, r.ids) in
      rw (whole-bad s whole-so, n, r.apart, r.so_far)

-- a good list has at most 4 devices
pub few-mirrors : (s : List ℕ) → bad_mirrors s ≡ false → length (mirrors_in s) ≤ 4
unfolding bad_mirrors
few-mirrors s e = by (not (eqb (length s % 16) 0)) (none (mirrors_in s)) (ltb 4 (length (mirrors_in s))) (twice (mirrors_in s)) refl e
  where
    by : (a b c d : Bool) → ltb 4 (length (mirrors_in s)) ≡ c → cond a true (cond b true (cond c true d)) ≡ false → length (mirrors_in s) ≤ 4
    by true b c d p q = true-false q
    by false true c d p q = true-false q
    by false false true d p q = true-false q
    by false false false d p q = ltb-false 4 (length (mirrors_in s)) p
