-- The totals that the code adds up are those of the file's places: a saturating sum is the sum, cut. In order: a sum; sums by place after one record; all
-- records; a report; the loop over the places.
use mathlib.Core.Path.{◌≡◌, refl, sym, ap, ap₂, ◌∙◌}
use mathlib.Core.List.{List, [], ◌∷◌, map}
use mathlib.Core.Bool.{Bool, true, false, cond, ◌&&◌, ◌||◌, and-true, and-false, or-false}
use Prim.Native.Nat.{ℕ, zero, suc, ◌+◌, ◌-◌, ◌^◌, ◌<◌, ◌≤◌}
use native.Mathlib.Omega.{arith}
use native.Mathlib.Decide.{ℕ_discrete}
use native.Mathlib.Nat.{add_assoc, add-zero}
use borrow.Author.Tests.{lt-ltb, le-ltb, ltb-true, ltb-false, eq-eqb, ne_eqb}
use lib.ListN.{length, replicate, get_or, set, get_or-eq_default}
use lib.Seq.{set-get_or}
use lib.Dec.{ltb, eqb}
use Rattle.masks.specs.Mask.{has, plus}
use Rattle.masks.proofs.Laws.{has_of, set-ext, is_set, has-plus, plus-lt}
use Rattle.reports.specs.Device.{halves}
use Rattle.reports.specs.Statistics.{Statistic}
use Rattle.reports.specs.Report.{over}
use Rattle.places.proofs.Loops.{map_at, map_first, Mapping, mapping-none, mapping-more, mapped_at}
use Rattle.mirroring.specs.Devices.{same_device}
use Rattle.mirroring.specs.Mirrors.{is_at, no_mirror}
use Rattle.mirroring.specs.Totals.{most, cut, passes, cut_sums, sum_of, totals_by, no_totals}
use Rattle.mirroring.specs.TotalsSteps.{sum_at, no_room, grown_by, counted_at, counted_totals, grown_in, passing, added_sums, added_totals}
use Rattle.mirroring.specs.declared.mirrors.Mirror.{Mirror}
use Rattle.mirroring.specs.declared.totals.Sums.{Sums}
use Rattle.mirroring.specs.declared.totals.Totals.{Totals}

-- ---- a sum
-- there is no room for e more in k exactly where k + e is too much
no_room_lem : (k e : ℕ) → k ≤ most → ltb (most - k) e ≡ ltb most (k + e)
no_room_lem k e h = by (ltb (most - k) e) refl
  where
    by : (b : Bool) → ltb (most - k) e ≡ b → b ≡ ltb most (k + e)
    by true q = sym (lt-ltb most (k + e) (omega (arith, ltb-true (most - k) e q)))
    by false q = sym (le-ltb most (k + e) (omega (arith, ltb-false (most - k) e q)))

grown-is : (k e : ℕ) → grown_by e (cut k) ≡ cut (k + e)
grown-is k e = by-past (ltb most k) refl
  where
    at_most : (b : Bool) → ltb (most - most) e ≡ b → cond b most (most + e) ≡ most
    at_most true q = refl
    at_most false q = omega (arith, ltb-false (most - most) e q)

    by-past : (b : Bool) → ltb most k ≡ b → cond (ltb (most - cond b most k) e) most (cond b most k + e) ≡ cut (k + e)
    by-past true q = at_most (ltb (most - most) e) refl ∙ rw (lt-ltb most (k + e) (omega (arith, ltb-true most k q)))
    by-past false q = rw (no_room_lem k e (ltb-false most k q))

passed_is : (k e : ℕ) → (passes k || no_room e (cut k)) ≡ passes (k + e)
passed_is k e = by-past (ltb most k) refl
  where
    by-past : (b : Bool) → ltb most k ≡ b → (b || ltb (most - cond b most k) e) ≡ passes (k + e)
    by-past true q = sym (lt-ltb most (k + e) (omega (arith, ltb-true most k q)))
    by-past false q = no_room_lem k e (ltb-false most k q)

-- ---- sums by place after one record: a m is the sum of the mirror m so far
abbrev more : (Mirror → ℕ) → ℕ → ℕ → ℕ → Mirror → ℕ
more a h l n m = a m + cond (is_at h l m) n 0

-- what holds of a sum and of its flag after n more holds where nothing is added too
grown-or-left : (k n : ℕ) (b : Bool) → cond b (grown_by n (cut k)) (cut k) ≡ cut (k + cond b n 0)
grown-or-left k n true = grown-is k n
grown-or-left k n false = ap cut (sym (add-zero k))

passed-or-left : (k n : ℕ) (b : Bool) → (passes k || (b && no_room n (cut k))) ≡ passes (k + cond b n 0)
passed-or-left k n true = passed_is k n
passed-or-left k n false = or-false (passes k) ∙ ap passes (sym (add-zero k))

module _ (a : Mirror → ℕ) (h l n : ℕ) where
  grown-each : (ms : List Mirror) → grown_in ms h l n (map cut (map a ms)) ≡ map cut (map (more a h l n) ms)
  unfolding grown_in
  grown-each [] = refl
  grown-each (m ∷ ms) = ap₂ {C = List ℕ} (λ b bs. b ∷ bs) (grown-or-left (a m) n (is_at h l m)) (grown-each ms)

  passed-each : (ms : List Mirror) (k : ℕ) → (passes (get_or (map a ms) k 0) || passing ms h l n (map cut (map a ms)) k) ≡ passes (get_or (map (more a h l n) ms) k 0)
  passed-each [] k = refl
  passed-each (m ∷ ms) zero = passed-or-left (a m) n (is_at h l m)
  passed-each (m ∷ ms) (suc k) = passed-each ms k

  added-each : (ms : List Mirror) → added_sums ms h l n (cut_sums (map a ms)) ≡ cut_sums (map (more a h l n) ms)
  added-each ms =
      ap₂ {C = Sums} (λ bs fs. record { bytes = bs; over = fs })
      (grown-each ms)
      (set-ext 32 _ _ (λ k q. ap (λ (b : Bool). b || passing ms h l n (map cut (map a ms)) k) (has_of 32 (λ j. passes (get_or (map a ms) j 0)) k q) ∙ passed-each ms k))

-- ---- all records
abbrev pub adding : List Mirror → Totals → Statistic → Totals
adding ms t y = added_totals ms (halves y.device).high (halves y.device).low y.read y.written t

-- what the records add to a mirror's sum
sum_in : (Statistic → ℕ) → List Statistic → Mirror → ℕ
sum_in g [] m = 0
sum_in g (y ∷ ys) m = cond (is_at (halves y.device).high (halves y.device).low m) (g y) 0 + sum_in g ys m

abbrev sums : List Mirror → (Mirror → ℕ) → (Mirror → ℕ) → Totals
sums ms a b = record { read = cut_sums (map a ms); written = cut_sums (map b ms) }

same-sums : (a b : Mirror → ℕ) → ((m : Mirror) → a m ≡ b m) → (ms : List Mirror) → map a ms ≡ map b ms
same-sums a b e [] = refl
same-sums a b e (m ∷ ms) = ap₂ {C = List ℕ} (λ n ns. n ∷ ns) (e m) (same-sums a b e ms)

all-added : (ms : List Mirror) (ys : List Statistic) (a b : Mirror → ℕ)
    → over (adding ms) (sums ms a b) ys ≡ sums ms (λ m. a m + sum_in (λ y. y.read) ys m) (λ m. b m + sum_in (λ y. y.written) ys m)
unfolding over sum_in
all-added ms [] a b = rw (same-sums (λ m. a m + 0) a (λ m. add-zero (a m)) ms, same-sums (λ m. b m + 0) b (λ m. add-zero (b m)) ms)
all-added ms (y ∷ ys) a b =
    let h = (halves y.device).high in
    let l = (halves y.device).low in
    ap₂ (λ (r w : Sums). over (adding ms) (record { read = r; written = w }) ys) (added-each a h l y.read ms) (added-each b h l y.written ms)
    ∙ all-added ms ys (more a h l y.read) (more b h l y.written)
    ∙ ap₂ (λ (r w : List ℕ). record { read = cut_sums r; written = cut_sums w })
    (same-sums _ _ (λ m. add_assoc (a m) (cond (is_at h l m) y.read 0) (sum_in (λ y. y.read) ys m)) ms)
    (same-sums _ _ (λ m. add_assoc (b m) (cond (is_at h l m) y.written 0) (sum_in (λ y. y.written) ys m)) ms)

-- and that is the sum of the records of its device; where no mirror is, nothing is added
module _ (g : Statistic → ℕ) (m : Mirror) where
  sum-here : m.present ≡ true → (ys : List Statistic) → sum_in g ys m ≡ sum_of g (record { high = m.high; low = m.low }) ys
  unfolding sum_in sum_of
  sum-here e [] = refl
  sum-here e (y ∷ ys) =
      let is : is_at (halves y.device).high (halves y.device).low m ≡ same_device (record { high = m.high; low = m.low }) (halves y.device) = rw e in
      ap₂ (λ (b : Bool) (n : ℕ). cond b (g y) 0 + n) is (sum-here e ys)

  none_here : m.present ≡ false → (ys : List Statistic) → sum_in g ys m ≡ 0
  unfolding sum_in
  none_here e [] = refl
  none_here e (y ∷ ys) =
      let is : is_at (halves y.device).high (halves y.device).low m ≡ false = rw e in
      ap₂ (λ (b : Bool) (n : ℕ). cond b (g y) 0 + n) is (none_here e ys)

  sum_is : (ys : List Statistic) → 0 + sum_in g ys m ≡ sum_at g ys m
  sum_is ys = from-none (sum_in g ys m) ∙ by-presence m.present refl
    where
      from-none : (k : ℕ) → 0 + k ≡ k
      from-none k = omega arith

      by-presence : (b : Bool) → m.present ≡ b → sum_in g ys m ≡ cond b (sum_of g (record { high = m.high; low = m.low }) ys) 0
      by-presence true e = sum-here e ys
      by-presence false e = none_here e ys

-- ---- a report: what the code adds up, from nothing on, is the totals of the file's places
none_each : (ms : List Mirror) → replicate {A = ℕ} (length ms) 0 ≡ map (λ m. 0) ms
none_each [] = refl
none_each (m ∷ ms) = ap (λ (ns : List ℕ). 0 ∷ ns) (none_each ms)

pub totals-are : (ms : List Mirror) → length ms ≡ 5 → (ys : List Statistic) → over (adding ms) no_totals ys ≡ totals_by (λ g. map (sum_at g ys) ms)
totals-are ms e ys =
    let z : replicate {A = ℕ} 5 0 ≡ map (λ m. 0) ms = rw e at (none_each ms) in
    ap (λ (ns : List ℕ). over (adding ms) (record { read = cut_sums ns; written = cut_sums ns }) ys) z
    ∙ all-added ms ys (λ m. 0) (λ m. 0)
    ∙ ap₂ (λ (r w : List ℕ). record { read = cut_sums r; written = cut_sums w })
    (same-sums _ _ (λ m. sum_is (λ y. y.read) m ys) ms)
    (same-sums _ _ (λ m. sum_is (λ y. y.written) m ys) ms)

-- ---- the loop over the places: the sums were s and are t, and the places before i have the record
-- sums as the code holds them: of places for five, and flags in a word
pub record Held (s : Sums) : Type 0 where
  pub bytes : length s.bytes ≡ 5
  pub over : s.over < 2 ^ 32

abbrev pub growing : List Mirror → ℕ → ℕ → ℕ → ℕ → ℕ → ℕ
growing ms h l n k b = cond (is_at h l (get_or ms k no_mirror)) (grown_by n b) b

pub record Counting (ms : List Mirror) (h l n : ℕ) (s t : Sums) (i : ℕ) : Type 0 where
  pub bytes : Mapping (growing ms h l n) s.bytes t.bytes i
  pub over : (k : ℕ) → k < 32 → has t.over k ≡ (has s.over k || (ltb k i && passing ms h l n s.bytes k))
  pub word : t.over < 2 ^ 32

counting-none : (ms : List Mirror) (h l n : ℕ) (s : Sums) → Held s → Counting ms h l n s s 0
counting-none ms h l n s f = record {
  bytes = mapping-none _ _;
  over = λ k q. sym (rw (le-ltb k 0 (omega arith)) (or-false (has s.over k)));
  word = f.over;
}

-- a place that is put or left alone
put-or-left : {f : ℕ → ℕ → ℕ} {l m : List ℕ} {i : ℕ} → Mapping f l m i → i < length l → (b : Bool) (y : ℕ) → f i (get_or m i 0) ≡ cond b y (get_or m i 0) → Mapping f l (cond b (set m i y) m) (i + 1)
put-or-left s k true y e = mapping-more s 0 k y (sym e)
put-or-left {m} {i} s k false y e = rw (set-get_or m i 0) at (mapping-more s 0 k (get_or m i 0) (sym e))

-- the place i is as it was
not_yet : (f : ℕ → ℕ → ℕ) (i : ℕ) (l : List ℕ) → get_or (map_first f i l) i 0 ≡ get_or l i 0
unfolding map_first
not_yet f zero l = refl
not_yet f (suc i) [] = refl
not_yet f (suc i) (x ∷ l) = not_yet (λ k. f (suc k)) i l

-- the flags with place i's, if v
has-raised : (m i k : ℕ) → k < 32 → (v : Bool) → has (cond v (plus m i) m) k ≡ (has m k || (v && eqb k i))
has-raised m i k h true = has-plus m i k h
has-raised m i k h false = sym (or-false (has m k))

raised-word : (m i : ℕ) → m < 2 ^ 32 → (v : Bool) → cond v (plus m i) m < 2 ^ 32
raised-word m i h true = plus-lt m i
raised-word m i h false = h

-- q: whether the record raises a place's flag
module _ (q : ℕ → Bool) (k i : ℕ) where
  still_before : (k ≡ i → ⊥) → ltb k i ≡ ltb k (i + 1)
  still_before ne = by (ltb k i) refl
    where
      by : (b : Bool) → ltb k i ≡ b → b ≡ ltb k (i + 1)
      by true e = sym (lt-ltb k (i + 1) (omega (arith, ltb-true k i e)))
      by false e = sym (le-ltb k (i + 1) (omega (arith, ltb-false k i e, ne)))

  -- a place is before the next one where it is before this one, or is this one
  before-next : (r : Bool) → ((r || (ltb k i && q k)) || (q i && eqb k i)) ≡ (r || (ltb k (i + 1) && q k))
  before-next r = by (ℕ_discrete k i)
    where
      here : (r v : Bool) → ((r || false) || (v && true)) ≡ (r || v)
      here true v = refl
      here false v = and-true v

      by : Dec (k ≡ i) → ((r || (ltb k i && q k)) || (q i && eqb k i)) ≡ (r || (ltb k (i + 1) && q k))
      by (yes e) = rw (eq-eqb k i e, le-ltb k i (omega arith), lt-ltb k (i + 1) (omega arith), e) (here r (q i))
      by (no ne) = rw (ne_eqb k i ne, and-false (q i), ← still_before ne) (or-false (r || (ltb k i && q k)))

counting_more : {ms : List Mirror} {h l n : ℕ} {s t : Sums} {i : ℕ} → Counting ms h l n s t i → i < length s.bytes
    → (u : Sums) → u ≡ cond (is_at h l (get_or ms i no_mirror)) (counted_at i n t) t → Counting ms h l n s u (i + 1)
counting_more {ms} {h} {l} {n} {s} {t} {i} c p u e = rw e (by (is_at h l (get_or ms i no_mirror)) refl)
  where
    was : get_or t.bytes i 0 ≡ get_or s.bytes i 0
    was = ap (λ (bs : List ℕ). get_or bs i 0) c.bytes.so_far ∙ not_yet (growing ms h l n) i s.bytes

    raised : (v : Bool) → v ≡ passing ms h l n s.bytes i → (k : ℕ) → k < 32
        → has (cond v (plus t.over i) t.over) k ≡ (has s.over k || (ltb k (i + 1) && passing ms h l n s.bytes k))
    raised v y k q = has-raised t.over i k q v ∙ rw (c.over k q, y) (before-next (passing ms h l n s.bytes) k i (has s.over k))

    by : (b : Bool) → is_at h l (get_or ms i no_mirror) ≡ b → Counting ms h l n s (cond b (counted_at i n t) t) (i + 1)
    by true z = record {
      bytes = put-or-left c.bytes p true _ (rw z);
      over = raised (no_room n (get_or t.bytes i 0)) (rw (z, was));
      word = raised-word t.over i c.word (no_room n (get_or t.bytes i 0));
    }
    by false z = record { bytes = put-or-left c.bytes p false 0 (rw z); over = raised false (rw z); word = c.word }

-- both columns
pub record Counting-both (ms : List Mirror) (h l r w : ℕ) (s t : Totals) (i : ℕ) : Type 0 where
  pub read : Counting ms h l r s.read t.read i
  pub written : Counting ms h l w s.written t.written i

pub both-none : (ms : List Mirror) (h l r w : ℕ) (s : Totals) → Held s.read → Held s.written → Counting-both ms h l r w s s 0
both-none ms h l r w s f g = record { read = counting-none ms h l r s.read f; written = counting-none ms h l w s.written g }

pub both-more : {ms : List Mirror} {h l r w : ℕ} {s t : Totals} {i : ℕ} → Counting-both ms h l r w s t i → Held s.read → Held s.written → i < 5
    → (b : Bool) → b ≡ is_at h l (get_or ms i no_mirror) → (u : Totals) → u ≡ cond b (counted_totals i r w t) t → Counting-both ms h l r w s u (i + 1)
both-more {ms} {h} {l} {r} {w} {s} {t} {i} c f g k b z u e = rw e (by b z)
  where
    by : (b : Bool) → b ≡ is_at h l (get_or ms i no_mirror) → Counting-both ms h l r w s (cond b (counted_totals i r w t) t) (i + 1)
    by true z = record { read = counting_more c.read (omega (arith, f.bytes, k)) _ (rw (sym z)); written = counting_more c.written (omega (arith, g.bytes, k)) _ (rw (sym z)) }
    by false z = record { read = counting_more c.read (omega (arith, f.bytes, k)) _ (rw (sym z)); written = counting_more c.written (omega (arith, g.bytes, k)) _ (rw (sym z)) }

grown-places : (ms : List Mirror) (h l n : ℕ) (bs : List ℕ) → length ms ≡ length bs → map_at (growing ms h l n) bs ≡ grown_in ms h l n bs
unfolding map_at grown_in
grown-places [] h l n [] e = refl
grown-places (m ∷ ms) h l n [] e = refl
grown-places [] h l n (b ∷ bs) e = absurd (omega (arith, e))
grown-places (m ∷ ms) h l n (b ∷ bs) e = ap {B = List ℕ} (λ t. cond (is_at h l m) (grown_by n b) b ∷ t) (grown-places ms h l n bs (omega (arith, e)))

module _ (ms : List Mirror) (h l n : ℕ) where
  -- a place past the mirrors has no record
  all-passed : (s : Sums) {i : ℕ} → length ms ≤ i → (k : ℕ) → (ltb k i && passing ms h l n s.bytes k) ≡ passing ms h l n s.bytes k
  all-passed s {i} long k = by (ltb k i) refl
    where
      by : (b : Bool) → ltb k i ≡ b → (b && passing ms h l n s.bytes k) ≡ passing ms h l n s.bytes k
      by true e = refl
      by false e = rw (get_or-eq_default ms no_mirror {n = k} (omega (arith, ltb-false k i e, long)))

  all-places : (s : Sums) {t : Sums} {i : ℕ} → Counting ms h l n s t i → length ms ≡ 5 → Held s → 5 ≤ i → t ≡ added_sums ms h l n s
  all-places s {t} c e f k =
      ap₂ {C = Sums} (λ bs fs. record { bytes = bs; over = fs })
      (mapped_at c.bytes (omega (arith, f.bytes, k)) ∙ grown-places ms h l n s.bytes (e ∙ sym f.bytes))
      (is_set 32 t.over _ c.word (λ j q. c.over j q ∙ ap (λ (b : Bool). has s.over j || b) (all-passed s (omega (arith, e, k)) j)))

pub both-all : (ms : List Mirror) (h l r w : ℕ) (s : Totals) {t : Totals} {i : ℕ} → Counting-both ms h l r w s t i → length ms ≡ 5 → Held s.read → Held s.written → 5 ≤ i
    → t ≡ added_totals ms h l r w s
both-all ms h l r w s c e f g k =
    ap₂ {C = Totals} (λ x y. record { read = x; written = y }) (all-places ms h l r s.read c.read e f k) (all-places ms h l w s.written c.written e g k)
