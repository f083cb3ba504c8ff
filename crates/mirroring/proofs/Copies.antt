-- A file's places beside its mirrors, its proxy and the blamed places of a row, in this order: how they go together; a device and its place; the sums by
-- place; blame of one place; repair; a proxy that comes and goes; a new file's places.
use mathlib.Core.Path.{◌≡◌, refl, ap, ap₂, sym, ◌∙◌}
use mathlib.Core.List.{List, [], ◌∷◌, ◌++◌, map}
use mathlib.Core.Bool.{Bool, true, false, not, cond, ◌||◌}
use Prim.Native.Nat.{ℕ, zero, suc, ◌<◌, ◌≤◌}
use native.Mathlib.Omega.{arith}
use native.Mathlib.Decide.{ℕ_discrete}
use lib.ListN.{get_or, set, length, replicate, get_or-map}
use lib.Dec.{eqb}
use lib.Seq.{get_or-set_same, get_or-set_other}
use borrow.Author.Tests.{eq-eqb, ne_eqb}
use Rattle.masks.specs.Mask as mask
use Rattle.masks.proofs.Laws.{has-zero, has-plus, plus-node}
use Rattle.places.specs.Lists.{any, chosen, has, with, fill}
use Rattle.places.specs.Places.{first}
use Rattle.reports.specs.Device.{Device}
use Rattle.reports.specs.Statistics.{Statistic}
use Rattle.mirroring.specs.Devices.{same_device, is_mirror, place_of, Proxy, no_proxy, proxy_at, is_there, is_proxy, is_copy, copy_place}
use Rattle.mirroring.specs.Mirrors.{no_mirror, new_proxy, no_mirrors, is_device, unblamed, blamed_if, blamed_by, blamed_at, has_proxy, with_proxy, without_proxy, mirror_of, placed_mirrors}
use Rattle.mirroring.specs.Totals.{sum_of, proxy_sum}
use Rattle.mirroring.specs.TotalsSteps.{sum_at}
use Rattle.mirroring.specs.declared.mirrors.Mirror.{Mirror}
use Rattle.places.proofs.Sets.{true-false, has-with}
use Rattle.std.specs.Prelude.{Some}

-- ---- how they go together
pub record MirrorIs (m : Mirror) (d : Device) : Type 0 where
  pub present : m.present ≡ true
  pub ordinary : m.proxy ≡ false
  pub high : m.high ≡ d.high
  pub low : m.low ≡ d.low

abbrev pub NoMirror : Mirror → Type 0
NoMirror m = m.present ≡ false

pub record ProxyIs (m : Mirror) (d : Device) : Type 0 where
  pub present : m.present ≡ true
  pub proxy : m.proxy ≡ true
  pub high : m.high ≡ d.high
  pub low : m.low ≡ d.low

-- k places for mirrors, of which the first have the devices, in order; and then the proxy's, which is not blamed where there is none
pub data PlacesAre : Proxy → ℕ → List Mirror → List Device → Type 0 where
  bare : {m : Mirror} → NoMirror m → m.blamed ≡ false → PlacesAre no_proxy 0 (m ∷ []) []
  proxied : {m : Mirror} {d : Device} → ProxyIs m d → PlacesAre (proxy_at d) 0 (m ∷ []) []
  free : {p : Proxy} {k : ℕ} {m : Mirror} {ms : List Mirror} → NoMirror m → PlacesAre p k ms [] → PlacesAre p (suc k) (m ∷ ms) []
  item : {p : Proxy} {k : ℕ} {m : Mirror} {d : Device} {ms : List Mirror} {ds : List Device} → MirrorIs m d → PlacesAre p k ms ds → PlacesAre p (suc k) (m ∷ ms) (d ∷ ds)

pub record Copies (ms : List Mirror) (ds : List Device) (p : Proxy) (bs : List ℕ) : Type 0 where
  pub places : PlacesAre p 4 ms ds
  pub blame : (i : ℕ) → i < 5 → (get_or ms i no_mirror).blamed ≡ has i bs

places-long : {p : Proxy} {k : ℕ} {ms : List Mirror} {ds : List Device} → PlacesAre p k ms ds → length ms ≡ suc k
places-long (bare h e) = refl
places-long (proxied h) = refl
places-long (free h s) = ap suc (places-long s)
places-long (item h s) = ap suc (places-long s)

pub five : {ms : List Mirror} {ds : List Device} {p : Proxy} {bs : List ℕ} → Copies ms ds p bs → length ms ≡ 5
five c = places-long c.places

-- ---- a device and its place
is-device : (d : Device) (m : Mirror) (e : Device) → MirrorIs m e → is_device d m ≡ same_device e d
is-device d m e h = rw (h.present, h.high, h.low)

is-proxy : (d : Device) (m : Mirror) (e : Device) → ProxyIs m e → is_device d m ≡ same_device e d
is-proxy d m e h = rw (h.present, h.high, h.low)

is-no-device : (d : Device) (m : Mirror) → NoMirror m → is_device d m ≡ false
is-no-device d m h = rw h

pub known-places : {p : Proxy} {k : ℕ} {ms : List Mirror} {ds : List Device} (d : Device) → PlacesAre p k ms ds → any (is_device d) ms ≡ is_copy d ds p
unfolding is_copy is_mirror any
known-places d (bare {m} h e) = rw (is-no-device d m h)
known-places d (proxied {m} {d = e} h) = rw (is-proxy d m e h) (by (same_device e d))
  where
    by : (b : Bool) → cond b true false ≡ b
    by true = refl
    by false = refl
known-places d (free {m} h s) = rw (is-no-device d m h) (known-places d s)
known-places d (item {p} {m} {d = e} {ds = ds} h s) = rw (is-device d m e h, known-places d s) (by (same_device e d) (any (λ x. same_device x d) ds) (is_proxy d p))
  where
    by : (a b c : Bool) → cond a true (cond b true c) ≡ cond (cond a true b) true c
    by true b c = refl
    by false b c = refl

pub known : {ms : List Mirror} {ds : List Device} {p : Proxy} {bs : List ℕ} (d : Device) → Copies ms ds p bs → any (is_device d) ms ≡ is_copy d ds p
known d c = known-places d c.places

-- how many places a file with k for mirrors has: the proxy's is one more
abbrev pub places_with : ℕ → Proxy → ℕ
places_with k no_proxy = k
places_with k (proxy_at d) = suc k

-- where the code finds a device
pub record Placed (d : Device) (ms : List Mirror) (ds : List Device) (p : Proxy) : Type 0 where
  pub at : first (is_device d) ms ≡ Some (copy_place d ds)
  pub inside : copy_place d ds < places_with 4 p

-- the same if there are k places before the proxy's
record PlacedBefore (k : ℕ) (d : Device) (ms : List Mirror) (ds : List Device) (p : Proxy) : Type 0 where
  at : first (is_device d) ms ≡ Some (cond (is_mirror d ds) (place_of d ds) k)
  inside : cond (is_mirror d ds) (place_of d ds) k < places_with k p

one-more-place : (k : ℕ) (p : Proxy) → places_with (suc k) p ≡ suc (places_with k p)
one-more-place k no_proxy = refl
one-more-place k (proxy_at d) = refl

some-place : (k : ℕ) (p : Proxy) → k ≤ places_with k p
some-place k no_proxy = omega arith
some-place k (proxy_at d) = omega arith

later-place : (b : Bool) (i k : ℕ) → Some (suc (cond b i k)) ≡ Some (cond b (suc i) (suc k))
later-place true i k = refl
later-place false i k = refl

later-inside : (b : Bool) (i k n : ℕ) → cond b i k < n → cond b (suc i) (suc k) < suc n
later-inside true i k n h = omega arith
later-inside false i k n h = omega arith

placed-item : {p : Proxy} {k : ℕ} {m : Mirror} {e : Device} {ms : List Mirror} {ds : List Device} (d : Device) (b : Bool) → same_device e d ≡ b → MirrorIs m e → (is_copy d ds p ≡ true → PlacedBefore k d ms ds p)
    → is_copy d (e ∷ ds) p ≡ true → PlacedBefore (suc k) d (m ∷ ms) (e ∷ ds) p
unfolding is_copy is_mirror any first place_of
placed-item {p} {k} {m} {e} d true q r h c = record { at = rw (is-device d m e r, q); inside = rw q (omega (arith, some-place (suc k) p)) }
placed-item {p} {k} {m} {e} {ms} {ds} d false q r h c =
    let z = h (rw q at c) in
    record {
      at = rw (is-device d m e r, q, z.at) (later-place (is_mirror d ds) (place_of d ds) k);
      inside = rw (q, one-more-place k p) (later-inside (is_mirror d ds) (place_of d ds) k (places_with k p) z.inside);
    }

placed-before : {p : Proxy} {k : ℕ} {ms : List Mirror} {ds : List Device} (d : Device) → PlacesAre p k ms ds → is_copy d ds p ≡ true → PlacedBefore k d ms ds p
unfolding is_copy is_mirror any first
placed-before d (bare h e) c = true-false (sym c)
placed-before d (proxied {m} {d = e} h) c = record { at = rw (is-proxy d m e h, c); inside = omega arith }
placed-before d (free {p} {k} {m} h s) c =
    let z = placed-before d s c in
    record { at = rw (is-no-device d m h, z.at); inside = omega (arith, one-more-place k p, z.inside) }
placed-before d (item {d = e} h s) c = placed-item d (same_device e d) refl h (placed-before d s) c

pub placed : {ms : List Mirror} {ds : List Device} {p : Proxy} {bs : List ℕ} (d : Device) → Copies ms ds p bs → is_copy d ds p ≡ true → Placed d ms ds p
unfolding copy_place
placed d c e = let z = placed-before d c.places e in record { at = z.at; inside = z.inside }

-- ---- the sums by place
pub sums-of : {p : Proxy} {k : ℕ} {ms : List Mirror} {ds : List Device} (g : Statistic → ℕ) (ys : List Statistic) → PlacesAre p k ms ds
    → map (sum_at g ys) ms ≡ fill (map (λ d. sum_of g d ys) ds) (replicate k 0) ++ proxy_sum g p ys ∷ []
unfolding fill
sums-of g ys (bare h e) = rw h
sums-of g ys (proxied h) = rw (h.present, h.high, h.low)
sums-of g ys (free h s) = rw (h, sums-of g ys s)
sums-of g ys (item h s) = rw (h.present, h.high, h.low, sums-of g ys s)

-- ---- blame of one place
abbrev blame_at : List Mirror → ℕ → List Mirror
blame_at ms i = set ms i (blamed_if true (get_or ms i no_mirror))

blamed-same : (p q : ℕ → Bool) (ms : List Mirror) → ((j : ℕ) → j < length ms → q j ≡ p j) → blamed_by q ms ≡ blamed_by p ms
unfolding blamed_by
blamed-same p q [] h = refl
blamed-same p q (m ∷ ms) h = ap₂ {C = List Mirror} (λ b t. blamed_if b m ∷ t) (h 0 (omega arith)) (blamed-same (λ k. p (suc k)) (λ k. q (suc k)) ms (λ j l. h (suc j) (omega arith)))

-- one place more that passes is one place more that is blamed
one_more : (p q : ℕ → Bool) (ms : List Mirror) (i : ℕ) → i < length ms → q i ≡ true → ((j : ℕ) → j < length ms → ¬ (j ≡ i) → q j ≡ p j) → blamed_by q ms ≡ blame_at (blamed_by p ms) i
unfolding blamed_by
one_more p q [] i l e h = absurd (omega arith)
one_more p q (m ∷ ms) zero l e h = ap₂ {C = List Mirror} (λ b t. blamed_if b m ∷ t) e (blamed-same (λ k. p (suc k)) (λ k. q (suc k)) ms (λ j k. h (suc j) (omega arith) (λ z. omega arith)))
one_more p q (m ∷ ms) (suc i) l e h =
    ap₂ {C = List Mirror} (λ b t. blamed_if b m ∷ t) (h 0 (omega arith) (λ z. omega arith)) (one_more (λ k. p (suc k)) (λ k. q (suc k)) ms i (omega arith) e (λ j k n. h (suc j) (omega arith) (λ z. n (omega arith))))

blamed-length : (p : ℕ → Bool) (ms : List Mirror) → length (blamed_by p ms) ≡ length ms
unfolding blamed_by
blamed-length p [] = refl
blamed-length p (m ∷ ms) = ap suc (blamed-length (λ k. p (suc k)) ms)

nobody : (p : ℕ → Bool) (ms : List Mirror) → ((k : ℕ) → p k ≡ false) → blamed_by p ms ≡ ms
unfolding blamed_by
nobody p [] h = refl
nobody p (m ∷ ms) h = ap₂ {C = List Mirror} (λ b t. blamed_if b m ∷ t) (h 0) (nobody (λ k. p (suc k)) ms (λ k. h (suc k)))

-- the empty set blames nobody
pub none-blamed : (ms : List Mirror) → blamed_at 0 ms ≡ ms
none-blamed ms = nobody (λ k. mask.has 0 k) ms has-zero

flag_at : (ms : List Mirror) (bs : List ℕ) (i j : ℕ) → i < length ms → (get_or ms j no_mirror).blamed ≡ has j bs → Dec (j ≡ i)
    → (get_or (blame_at ms i) j no_mirror).blamed ≡ has j (with i bs)
flag_at ms bs i j h k (yes e) = rw (e, get_or-set_same ms i (blamed_if true (get_or ms i no_mirror)) no_mirror h, has-with i i bs, eq-eqb i i refl)
flag_at ms bs i j h k (no e) = rw (get_or-set_other ms i j (blamed_if true (get_or ms i no_mirror)) no_mirror e, has-with i j bs, ne_eqb j i e) k

places-blamed : {p : Proxy} {k : ℕ} {ms : List Mirror} {ds : List Device} (i : ℕ) → i < places_with k p → PlacesAre p k ms ds → PlacesAre p k (blame_at ms i) ds
places-blamed i l (bare h e) = absurd (omega arith)
places-blamed zero l (proxied h) = proxied (record { present = h.present; proxy = h.proxy; high = h.high; low = h.low })
places-blamed (suc i) l (proxied h) = absurd (omega arith)
places-blamed zero l (free h s) = free h s
places-blamed (suc i) l (free {p} {k} h s) = free h (places-blamed i (omega (arith, one-more-place k p)) s)
places-blamed zero l (item h s) = item (record { present = h.present; ordinary = h.ordinary; high = h.high; low = h.low }) s
places-blamed (suc i) l (item {p} {k} h s) = item h (places-blamed i (omega (arith, one-more-place k p)) s)

within : (i : ℕ) (p : Proxy) → i < places_with 4 p → i < 5
within i no_proxy h = omega arith
within i (proxy_at d) h = h

blamed-place : {ms : List Mirror} {ds : List Device} {p : Proxy} {bs : List ℕ} (i : ℕ) → i < places_with 4 p → Copies ms ds p bs → Copies (blame_at ms i) ds p (with i bs)
blamed-place {ms} {ds} {p} {bs} i h c = record {
  places = places-blamed i h c.places;
  blame = λ j l. flag_at ms bs i j (omega (arith, within i p h, five c)) (c.blame j l) (ℕ_discrete j i);
}

set_more : (s i j : ℕ) → j < 32 → ¬ (j ≡ i) → mask.has (mask.plus s i) j ≡ mask.has s j
set_more s i j h n = has-plus s i j h ∙ rw (ne_eqb j i n) (by (mask.has s j))
  where
    by : (b : Bool) → (b || false) ≡ b
    by true = refl
    by false = refl

pub place-blamed : (ms : List Mirror) {ds : List Device} {p : Proxy} {bs : List ℕ} (s i : ℕ) → i < places_with 4 p → Copies (blamed_at s ms) ds p bs → Copies (blamed_at (mask.plus s i) ms) ds p (with i bs)
place-blamed ms {p = p} s i h c =
    let e : length ms ≡ 5 = sym (blamed-length (λ k. mask.has s k) ms) ∙ five c in
    let w : i < 5 = within i p h in
    rw (one_more (λ k. mask.has s k) (λ k. mask.has (mask.plus s i) k) ms i (omega (arith, e, w)) (plus-node s i (omega (arith, w))) (λ j l n. set_more s i j (omega (arith, e, l)) n)) (blamed-place i h c)

-- ---- repair
unblamed-at : (ms : List Mirror) (i : ℕ) → (get_or (map unblamed ms) i no_mirror).blamed ≡ false
unblamed-at ms i = ap (λ (m : Mirror). m.blamed) (get_or-map unblamed ms i no_mirror)

places-unblamed : {p : Proxy} {k : ℕ} {ms : List Mirror} {ds : List Device} → PlacesAre p k ms ds → PlacesAre p k (map unblamed ms) ds
places-unblamed (bare h e) = bare h refl
places-unblamed (proxied h) = proxied (record { present = h.present; proxy = h.proxy; high = h.high; low = h.low })
places-unblamed (free h s) = free h (places-unblamed s)
places-unblamed (item h s) = item (record { present = h.present; ordinary = h.ordinary; high = h.high; low = h.low }) (places-unblamed s)

pub copies-unblamed : {ms : List Mirror} {ds : List Device} {p : Proxy} {bs : List ℕ} → Copies ms ds p bs → Copies (map unblamed ms) ds p []
unfolding has any
copies-unblamed {ms} c = record { places = places-unblamed c.places; blame = λ i l. unblamed-at ms i }

-- ---- a proxy that comes and goes
pub proxy-there : {p : Proxy} {k : ℕ} {ms : List Mirror} {ds : List Device} → PlacesAre p k ms ds → (get_or ms k no_mirror).present ≡ is_there p
proxy-there (bare h e) = h
proxy-there (proxied h) = h.present
proxy-there (free h s) = proxy-there s
proxy-there (item h s) = proxy-there s

pub has-proxy : {ms : List Mirror} {ds : List Device} {p : Proxy} {bs : List ℕ} → Copies ms ds p bs → has_proxy ms ≡ is_there p
has-proxy c = proxy-there c.places

bare-unblamed : {k : ℕ} {ms : List Mirror} {ds : List Device} → PlacesAre no_proxy k ms ds → (get_or ms k no_mirror).blamed ≡ false
bare-unblamed (bare h e) = e
bare-unblamed (free h s) = bare-unblamed s
bare-unblamed (item h s) = bare-unblamed s

places-proxied : {k : ℕ} {ms : List Mirror} {ds : List Device} (d : Device) → PlacesAre no_proxy k ms ds → PlacesAre (proxy_at d) k (set ms k (new_proxy d.high d.low)) ds
places-proxied d (bare h e) = proxied (record { present = refl; proxy = refl; high = refl; low = refl })
places-proxied d (free h s) = free h (places-proxied d s)
places-proxied d (item h s) = item h (places-proxied d s)

places-bare : {p : Proxy} {k : ℕ} {ms : List Mirror} {ds : List Device} → PlacesAre p k ms ds → PlacesAre no_proxy k (set ms k no_mirror) ds
places-bare (bare h e) = bare refl refl
places-bare (proxied h) = bare refl refl
places-bare (free h s) = free h (places-bare s)
places-bare (item h s) = item h (places-bare s)

-- the blame of the places after one is changed to m
blame-put : (ms : List Mirror) (bs cs : List ℕ) (i j : ℕ) (m : Mirror) → i < length ms → (get_or ms j no_mirror).blamed ≡ has j bs → m.blamed ≡ has i cs → (eqb j i ≡ false → has j cs ≡ has j bs) → Dec (j ≡ i)
    → (get_or (set ms i m) j no_mirror).blamed ≡ has j cs
blame-put ms bs cs i j m h k e o (yes q) = rw (q, get_or-set_same ms i m no_mirror h) e
blame-put ms bs cs i j m h k e o (no q) = rw (get_or-set_other ms i j m no_mirror q, o (ne_eqb j i q)) k

pub copies-proxied : {ms : List Mirror} {ds : List Device} {bs : List ℕ} (d : Device) → Copies ms ds no_proxy bs → Copies (with_proxy d.high d.low ms) ds (proxy_at d) bs
copies-proxied {ms} {ds} {bs} d c = record {
  places = places-proxied d c.places;
  blame = λ j l. blame-put ms bs bs 4 j (new_proxy d.high d.low) (omega (arith, five c)) (c.blame j l) (sym (bare-unblamed c.places) ∙ c.blame 4 (omega arith)) (λ e. refl) (ℕ_discrete j 4);
}

-- a set of places without one
abbrev pub but : ℕ → List ℕ → List ℕ
but i bs = chosen (λ x. not (eqb x i)) bs

has-but : (i j : ℕ) (bs : List ℕ) → has j (but i bs) ≡ cond (eqb j i) false (has j bs)
unfolding has any chosen
has-but i j [] = by (eqb j i)
  where
    by : (b : Bool) → false ≡ cond b false false
    by true = refl
    by false = refl
has-but i j (x ∷ bs) = by (ℕ_discrete x j) (has-but i j bs)
  where
    same : (c : Bool) → has j (but i bs) ≡ cond c false (has j bs) → has j (cond (not c) (j ∷ but i bs) (but i bs)) ≡ cond c false (cond (eqb j j) true (has j bs))
    same true h = h
    same false h = rw (eq-eqb j j refl)

    other : (a : Bool) → ¬ (x ≡ j) → has j (but i bs) ≡ cond (eqb j i) false (has j bs) → has j (cond (not a) (x ∷ but i bs) (but i bs)) ≡ cond (eqb j i) false (cond (eqb x j) true (has j bs))
    other true n h = rw (ne_eqb x j n) h
    other false n h = rw (ne_eqb x j n) h

    by : Dec (x ≡ j) → has j (but i bs) ≡ cond (eqb j i) false (has j bs) → has j (cond (not (eqb x i)) (x ∷ but i bs) (but i bs)) ≡ cond (eqb j i) false (cond (eqb x j) true (has j bs))
    by (yes e) h = rw e (same (eqb j i) h)
    by (no n) h = other (eqb x i) n h

pub copies-bare : {ms : List Mirror} {ds : List Device} {p : Proxy} {bs : List ℕ} → Copies ms ds p bs → Copies (without_proxy ms) ds no_proxy (but 4 bs)
copies-bare {ms} {ds} {p} {bs} c = record {
  places = places-bare c.places;
  blame = λ j l. blame-put ms bs (but 4 bs) 4 j no_mirror (omega (arith, five c)) (c.blame j l) (sym (has-but 4 4 bs)) (λ e. has-but 4 j bs ∙ ap (λ (b : Bool). cond b false (has j bs)) e) (ℕ_discrete j 4);
}

-- ---- a new file's places
blank-blame : (k i : ℕ) → (get_or (replicate k no_mirror) i no_mirror).blamed ≡ false
blank-blame zero i = refl
blank-blame (suc k) zero = refl
blank-blame (suc k) (suc i) = blank-blame k i

new-blame : (es : List Device) (bs : List Mirror) (i : ℕ) → ((j : ℕ) → (get_or bs j no_mirror).blamed ≡ false) → (get_or (fill (map mirror_of es) bs) i no_mirror).blamed ≡ false
unfolding fill
new-blame [] bs i k = k i
new-blame (e ∷ es) [] i k = refl
new-blame (e ∷ es) (b ∷ bs) zero k = refl
new-blame (e ∷ es) (b ∷ bs) (suc i) k = new-blame es bs i (λ j. k (suc j))

places-new : (k : ℕ) (ds : List Device) → length ds ≤ k → PlacesAre no_proxy k (fill (map mirror_of ds) (replicate (suc k) no_mirror)) ds
unfolding fill
places-new zero [] h = bare refl refl
places-new (suc k) [] h = free refl (places-new k [] (omega arith))
places-new zero (d ∷ ds) h = absurd (omega arith)
places-new (suc k) (d ∷ ds) h = item (record { present = refl; ordinary = refl; high = refl; low = refl }) (places-new k ds (omega arith))

pub copies-new : (ds : List Device) → length ds ≤ 4 → Copies (placed_mirrors ds) ds no_proxy []
unfolding has any
copies-new ds h = record { places = places-new 4 ds h; blame = λ i l. new-blame ds no_mirrors i (blank-blame 5) }

-- a new file's devices are its mirrors
pub known-new : (ds : List Device) (d : Device) → length ds ≤ 4 → any (is_device d) (placed_mirrors ds) ≡ is_mirror d ds
unfolding is_copy
known-new ds d h = known d (copies-new ds h) ∙ by (is_mirror d ds)
  where
    by : (b : Bool) → cond b true false ≡ b
    by true = refl
    by false = refl
