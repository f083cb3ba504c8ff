-- Two rows of one file, the second of a ledger with one more restart inside a grace period: the relation `Worse`, and that each call in grace keeps it. In this
-- order: the relation; reclaim; close; repaired; a report; restart.
use mathlib.Core.Path.{◌≡◌, refl, ap, ap₂, sym, ◌∙◌}
use mathlib.Core.List.{List, [], ◌∷◌, map}
use mathlib.Core.Bool.{Bool, true, false, not, cond}
use Prim.Native.Nat.{ℕ}
use lib.Dec.{eqb}
use borrow.Author.Tests.{eqb-true}
use Rattle.statuses.specs.Rules.{refused}
use Rattle.reports.specs.Report.{DeviceError}
use Rattle.places.specs.Lists.{any, has, with, none, discard}
use Rattle.places.proofs.Sets.{true-false, has-with, any_same}
use Rattle.mirroring.specs.Devices.{device_of, is_copy, copy_place}
use Rattle.files.specs.declared.head.Edition.TheVariants.{Current}
use Rattle.ledger.specs.Ledger.{Holder, holder, no_layout, Row, holds, place_in, intent_rules, close_rules, repaired_rules, has_reclaimed, closed, mended, restarted, is_fault, is_stranger, blame, reported, with_mark, with_blame, with_intents}
use Rattle.ledger.proofs.Fed.{Sound, as-was}
use Rattle.ledger.proofs.Within.{Within, within-self, or-true, has_within, none_within, within-less, within-discard, within-but, any-key, none-key, discard-key, map-key}

-- ---- the clients of a row's intents
abbrev pub client_in : Holder → ℕ
client_in x = x.client

abbrev pub clients : Row → List ℕ
clients w = map client_in w.intents

held_by : (c : ℕ) (w : Row) → has c (clients w) ≡ holds c w
unfolding has
held_by c w = any-key client_in (λ x. eqb x c) w.intents

same-clients : (xs : List Holder) → map client_in (map (λ (x : Holder). holder x.client no_layout) xs) ≡ map client_in xs
same-clients xs = map-key client_in (λ (x : Holder). holder x.client no_layout) (λ x. refl) xs

-- ---- THE RELATION of a row w and that of the same file in the ledger with one more restart, v: more clients have intents, fewer of w's have reclaimed, and it
-- has the mark and the blame that w has
pub record Worse (w v : Row) : Type 0 where
  pub number : v.number ≡ w.number
  pub mirrors : v.mirrors ≡ w.mirrors
  pub proxy : v.proxy ≡ w.proxy
  pub intents : Within (clients w) (clients v)
  pub reclaims : (c : ℕ) → has c (clients w) ≡ true → has c v.reclaimed ≡ true → has c w.reclaimed ≡ true
  pub marked : w.marked ≡ true → v.marked ≡ true
  pub blamed : (i : ℕ) → has i w.blamed ≡ true → has i v.blamed ≡ true
  pub sound : Sound w

pub nothing-in : (n : ℕ) → has n [] ≡ false
unfolding has any
nothing-in n = refl

-- the restart itself
pub after-restart : (w : Row) → Sound w → Worse w (restarted w)
after-restart w h = record {
  number = refl;
  mirrors = refl;
  proxy = refl;
  intents = rw (same-clients w.intents) (within-self (clients w));
  reclaims = λ c e k. true-false (sym k ∙ nothing-in c);
  marked = λ e. e;
  blamed = λ i e. e;
  sound = h;
}

-- ---- what a call in grace does to its file's row: t is its status, g the change
abbrev pub heeded : (Row → ℕ) → (Row → Row) → Row → Row
heeded t g w = cond (eqb (t w) 0) (g w) w

-- the change keeps the relation, whichever of the two calls is accepted
abbrev pub Kept : (Row → ℕ) → (Row → Row) → Type 0
Kept t g = (w v : Row) → Worse w v → Worse (heeded t g w) (heeded t g v)

-- reclaim
pub reclaim-kept : (c : ℕ) → Kept (λ w. refused (intent_rules c w)) (has_reclaimed c)
reclaim-kept c w v h = by (holds c w) (holds c v) (held_by c w) (held_by c v)
  where
    other : (d : ℕ) (a b : Bool) → eqb d c ≡ a → has c (clients w) ≡ b → has d (clients w) ≡ true → cond a true (has d v.reclaimed) ≡ true → has d (cond b (with c w.reclaimed) w.reclaimed) ≡ true
    other d true true e k p q = has-with c d w.reclaimed ∙ rw e
    other d true false e k p q = true-false (sym p ∙ ap (λ z. has z (clients w)) (eqb-true d c e) ∙ k)
    other d false true e k p q = has-with c d w.reclaimed ∙ rw e (h.reclaims d p q)
    other d false false e k p q = h.reclaims d p q

    by : (a b : Bool) → has c (clients w) ≡ a → has c (clients v) ≡ b
        → Worse (cond (eqb (cond (not a) 10034 0) 0) (has_reclaimed c w) w) (cond (eqb (cond (not b) 10034 0) 0) (has_reclaimed c v) v)
    by true true e k = record {
      number = h.number;
      mirrors = h.mirrors;
      proxy = h.proxy;
      intents = h.intents;
      reclaims = λ d p q. other d (eqb d c) true refl e p (sym (has-with c d v.reclaimed) ∙ q);
      marked = h.marked;
      blamed = h.blamed;
      sound = as-was refl refl h.sound;
    }
    by true false e k = true-false (sym (has_within c h.intents e) ∙ k)
    by false true e k = record {
      number = h.number;
      mirrors = h.mirrors;
      proxy = h.proxy;
      intents = h.intents;
      reclaims = λ d p q. other d (eqb d c) false refl e p (sym (has-with c d v.reclaimed) ∙ q);
      marked = h.marked;
      blamed = h.blamed;
      sound = h.sound;
    }
    by false false e k = h

-- close: a and b are whether the client has an intent and has reclaimed
abbrev closing : Bool → Bool → ℕ
closing a b = cond (not a) 10025 (cond (not b) 10025 0)

pub close-kept : (c : ℕ) → Kept (λ w. refused (close_rules true c w)) (closed c)
unfolding has
close-kept c w v h = by (holds c w) (has c w.reclaimed) (holds c v) (has c v.reclaimed) (held_by c w) refl (held_by c v) refl
  where
    fewer : (xs ys : List Holder) → Within (map client_in xs) (map client_in ys) → ((d : ℕ) → has d (map client_in xs) ≡ true → has d (clients w) ≡ true) → Worse (with_intents xs w) (with_intents ys v)
    fewer xs ys s f = record { number = h.number; mirrors = h.mirrors; proxy = h.proxy; intents = s; reclaims = λ d p q. h.reclaims d (f d p) q; marked = h.marked; blamed = h.blamed; sound = as-was refl refl h.sound }

    but : (u : Row) → map client_in (closed c u).intents ≡ discard (λ x. eqb x c) (clients u)
    but u = discard-key client_in (λ x. eqb x c) u.intents

    less : (d : ℕ) → has d (clients (closed c w)) ≡ true → has d (clients w) ≡ true
    less d e = has_within d (within-less (λ x. eqb x c) (within-self (clients w))) (rw (but w) at e)

    by : (a b a' b' : Bool) → has c (clients w) ≡ a → has c w.reclaimed ≡ b → has c (clients v) ≡ a' → has c v.reclaimed ≡ b'
        → Worse (cond (eqb (closing a b) 0) (closed c w) w) (cond (eqb (closing a' b') 0) (closed c v) v)
    by true true true true p q r s = fewer (closed c w).intents (closed c v).intents (rw (but w, but v) (within-discard (λ x. eqb x c) h.intents)) less
    by true true true false p q r s = fewer (closed c w).intents v.intents (rw (but w) (within-less (λ x. eqb x c) h.intents)) less
    by true true false b' p q r s = fewer (closed c w).intents v.intents (rw (but w) (within-less (λ x. eqb x c) h.intents)) less
    by true false true true p q r s = true-false (sym (h.reclaims c p s) ∙ q)
    by true false true false p q r s = h
    by true false false b' p q r s = h
    by false b true true p q r s = fewer w.intents (closed c v).intents (rw (but v) (within-but (λ x. eqb x c) p h.intents)) (λ d e. e)
    by false b true false p q r s = h
    by false b false b' p q r s = h

-- repaired: a and b are whether the file is marked and has no intent
abbrev mending : Bool → Bool → ℕ
mending a b = cond (not a) 22 (cond (not b) 10008 0)

pub repaired-kept : Kept (λ w. refused (repaired_rules w)) mended
repaired-kept w v h = by w.marked (none w.intents) v.marked (none v.intents) refl refl refl refl
  where
    by : (a b a' b' : Bool) → w.marked ≡ a → none w.intents ≡ b → v.marked ≡ a' → none v.intents ≡ b'
        → Worse (cond (eqb (mending a b) 0) (mended w) w) (cond (eqb (mending a' b') 0) (mended v) v)
    by true true true true p q r s = record { number = h.number; mirrors = h.mirrors; proxy = h.proxy; intents = h.intents; reclaims = h.reclaims; marked = λ e. e; blamed = λ i e. e; sound = record { no-blame = λ e. refl } }
    by true true true false p q r s = clean v h
      where
        clean : (u : Row) → Worse w u → Worse (mended w) u
        clean u k = record { number = k.number; mirrors = k.mirrors; proxy = k.proxy; intents = k.intents; reclaims = k.reclaims; marked = λ e. true-false (sym e); blamed = λ i e. true-false (sym e ∙ nothing-in i); sound = record { no-blame = λ e. refl } }
    by true true false b' p q r s = true-false (sym (h.marked p) ∙ r)
    by true false true true p q r s = true-false (sym (none_within h.intents (none-key client_in v.intents ∙ s)) ∙ none-key client_in w.intents ∙ q)
    by true false true false p q r s = h
    by true false false b' p q r s = h
    by false b true true p q r s = record {
      number = h.number;
      mirrors = h.mirrors;
      proxy = h.proxy;
      intents = h.intents;
      reclaims = h.reclaims;
      marked = λ e. true-false (sym e ∙ p);
      blamed = λ i e. true-false (sym e ∙ ap (has i) (h.sound.no-blame p) ∙ nothing-in i);
      sound = h.sound;
    }
    by false b true false p q r s = h
    by false b false b' p q r s = h

-- a report: j and k are a device's place in either row
one-blamed : (i j k : ℕ) → k ≡ j → (b : Bool) (xs ys : List ℕ) → ((p : ℕ) → has p xs ≡ true → has p ys ≡ true) → has i (cond b (with j xs) xs) ≡ true → has i (cond b (with k ys) ys) ≡ true
one-blamed i j k q true xs ys f e = has-with k i ys ∙ rw q (by (eqb i j) (sym (has-with j i xs) ∙ e))
  where
    by : (b : Bool) → cond b true (has i xs) ≡ true → cond b true (has i ys) ≡ true
    by true h = refl
    by false h = f i h
one-blamed i j k q false xs ys f e = f i e

-- the same report blames more where more was blamed, and takes no blame away
blame-more : (w v : Row) → v.mirrors ≡ w.mirrors → (zs : List DeviceError) (xs ys : List ℕ) → ((p : ℕ) → has p xs ≡ true → has p ys ≡ true) → (i : ℕ) → has i (blame w zs xs) ≡ true → has i (blame v zs ys) ≡ true
unfolding blame
blame-more w v m [] xs ys f i e = f i e
blame-more w v m (z ∷ zs) xs ys f i e = blame-more w v m zs _ _ (λ p h. one-blamed p _ _ (ap (copy_place (device_of z)) m) (is_fault z) xs ys f h) i e

blame-stays : (v : Row) (zs : List DeviceError) (ys : List ℕ) (i : ℕ) → has i ys ≡ true → has i (blame v zs ys) ≡ true
unfolding blame
blame-stays v [] ys i e = e
blame-stays v (z ∷ zs) ys i e = blame-stays v zs _ i (by (is_fault z))
  where
    by : (b : Bool) → has i (cond b (with (place_in v (device_of z)) ys) ys) ≡ true
    by true = has-with _ i ys ∙ or-true (eqb i (place_in v (device_of z))) (has i ys) e
    by false = e

module _ {w v : Row} (h : Worse w v) (xs : List DeviceError) where
  both-reported : (a a' b : Bool) → a' ≡ a
      → Worse (cond a (with_mark true w) (cond b (with_mark true (with_blame (blame w xs w.blamed) w)) w)) (cond a' (with_mark true v) (cond b (with_mark true (with_blame (blame v xs v.blamed) v)) v))
  both-reported true true b e = record {
    number = h.number;
    mirrors = h.mirrors;
    proxy = h.proxy;
    intents = h.intents;
    reclaims = h.reclaims;
    marked = λ q. q;
    blamed = h.blamed;
    sound = record { no-blame = λ q. true-false q };
  }
  both-reported false false true e = record {
    number = h.number;
    mirrors = h.mirrors;
    proxy = h.proxy;
    intents = h.intents;
    reclaims = h.reclaims;
    marked = λ q. q;
    blamed = λ i q. blame-more w v h.mirrors xs w.blamed v.blamed h.blamed i q;
    sound = record { no-blame = λ q. true-false q };
  }
  both-reported false false false e = h
  both-reported true false b e = true-false (sym e)
  both-reported false true b e = true-false e

  one-reported : (a b : Bool) → Worse w (cond a (with_mark true v) (cond b (with_mark true (with_blame (blame v xs v.blamed) v)) v))
  one-reported true b = record { number = h.number; mirrors = h.mirrors; proxy = h.proxy; intents = h.intents; reclaims = h.reclaims; marked = λ q. refl; blamed = h.blamed; sound = h.sound }
  one-reported false true = record {
    number = h.number;
    mirrors = h.mirrors;
    proxy = h.proxy;
    intents = h.intents;
    reclaims = h.reclaims;
    marked = λ q. refl;
    blamed = λ i q. blame-stays v xs v.blamed i (h.blamed i q);
    sound = h.sound;
  }
  one-reported false false = h

pub report-kept : (c : ℕ) (xs : List DeviceError) → Kept (λ w. refused (intent_rules c w)) (reported Current xs)
report-kept c xs w v h = by (holds c w) (holds c v) (held_by c w) (held_by c v)
  where
    by : (a b : Bool) → has c (clients w) ≡ a → has c (clients v) ≡ b
        → Worse (cond (eqb (cond (not a) 10034 0) 0) (reported Current xs w) w) (cond (eqb (cond (not b) 10034 0) 0) (reported Current xs v) v)
    by true true e k = both-reported h xs (any (is_stranger w) xs) (any (is_stranger v) xs) (any is_fault xs) (any_same (is_stranger v) (is_stranger w) (λ x. ap₂ (λ ms p. not (is_copy (device_of x) ms p)) h.mirrors h.proxy) xs)
    by true false e k = true-false (sym (has_within c h.intents e) ∙ k)
    by false true e k = one-reported h xs (any (is_stranger v) xs) (any is_fault xs)
    by false false e k = h

pub restart-kept : (w v : Row) → Worse w v → Worse (restarted w) (restarted v)
restart-kept w v h = record {
  number = h.number;
  mirrors = h.mirrors;
  proxy = h.proxy;
  intents = rw (same-clients w.intents, same-clients v.intents) h.intents;
  reclaims = λ c e k. k;
  marked = h.marked;
  blamed = h.blamed;
  sound = as-was refl refl h.sound;
}
