-- Calls on one file: each answers what the rules of its row say, and leaves a file that goes with the row as the ledger changes it. In this order: tests of
-- intents; open; reclaim; close; repaired; the proxy; restart; the end of grace; a report; the source; a new file.
use mathlib.Core.Path.{◌≡◌, refl, ap, sym, ◌∙◌, subst}
use mathlib.Core.List.{List, [], ◌∷◌, ◌++◌, map}
use mathlib.Core.Bool.{Bool, true, false, not, cond}
use Prim.Native.Nat.{ℕ, suc, ◌+◌, ◌<◌, ◌≤◌}
use native.Mathlib.Omega.{arith}
use lib.ListN.{get_or, length, take, length-set, length-map}
use lib.Dec.{eqb, leb}
use borrow.Author.Tests.{eqb-true, le-leb, lt-leb}
use Rattle.statuses.specs.Names.{Bytes}
use Rattle.statuses.specs.Rules.{refused}
use Rattle.reports.specs.Device.{Device, halves}
use Rattle.reports.specs.Statistics.{Statistic}
use Rattle.reports.specs.Report.{DeviceError, Whole}
use Rattle.places.specs.Lists.{any, chosen, has, with, none}
use Rattle.places.specs.Places.{first}
use Rattle.mirroring.specs.Devices.{Proxy, no_proxy, proxy_at, is_there}
use Rattle.mirroring.specs.Mirrors.{no_mirror, is_device, has_proxy, with_proxy, without_proxy, placed_mirrors}
use Rattle.mirroring.specs.Direction.{first_by}
use Rattle.mirroring.specs.Source.{good_from, source_in}
use Rattle.mirroring.specs.declared.source.Direction.{Direction}
use Rattle.mirroring.specs.Blame.{assessment_of}
use Rattle.mirroring.specs.declared.blame.Change.{Change}
use Rattle.intents.specs.Intents.{no_intent, no_intents, intent_of, is_intent, is_free, is_kept, is_lost, first_taken, reclaimed_if, unreclaimed_intent, stayed_intent}
use Rattle.files.specs.declared.head.Edition.TheVariants.{Current}
use Rattle.files.specs.File as file
use Rattle.files.specs.File.{file_of, file_answered, becomes, head_after, takes, opens, reclaims, leaves, mended_file, restarted_file, ended_file, source_of}
use Rattle.layoutreturn.specs.LayoutReturn.{of_client}
use Rattle.intents.specs.declared.Intent.{Intent}
use Rattle.mirroring.specs.declared.mirrors.Mirror.{Mirror}
use Rattle.files.specs.declared.file.File.{File}
use Rattle.files.specs.declared.head.Head.{Head}
use Rattle.places.proofs.Slots.{All, Pairs, Slots, Focus, Room, slots_map, slots-left, slots-fill, slots-any, slots-chosen, focus, room_for, all_replicate, fill-length, chosen-length, left_out-length, missing, found, full, room}
use Rattle.places.proofs.Sets.{true-false, has-with}
use Rattle.mirroring.proofs.Copies.{MirrorIs, PlacesAre, Copies, five, known, has-proxy, copies-unblamed, copies-proxied, copies-bare, copies-new}
use Rattle.ledger.specs.Ledger.{no_layout, Holder, holder, is_holder, Row, new_row, with_intents, reclaimed_by, names, source, unblamed_from, open_rules, intent_rules, close_rules, repaired_rules, add_proxy_rules, remove_proxy_rules, opened, has_reclaimed, closed, mended, proxy_added, proxy_removed, restarted, ended, reported, lost}
use Rattle.ledger.proofs.Relation.{no-stateid, IntentIs, NoIntent, FileIs, with-intents, with-mark, with-copies, with-proxy, FileAgrees, branch, phase_in}
use Rattle.ledger.proofs.Reported.{assessed_file, none-raised, nothing-changed, file-after-report, whole-status}

-- ---- tests of intents
module _ (g : Bool) (rs : List ℕ) (c : ℕ) where
  pub is-intent : (x : Intent) (y : Holder) → IntentIs g rs x y → is_intent c x ≡ is_holder c y
  is-intent x y h = rw (h.taken, h.client)

  is-no-intent : (x : Intent) → NoIntent x → is_intent c x ≡ false
  is-no-intent x h = rw h

abbrev pub AtIntent : ℕ → Bool → File → Row → Type 0
AtIntent c g f w = Focus (IntentIs g w.reclaimed) NoIntent (is_intent c) (is_holder c) f.intents w.intents

pub at-intent : {g : Bool} {f : File} {w : Row} (c : ℕ) → FileIs g f w → AtIntent c g f w
at-intent {g} {f} {w} c h = focus (is_intent c) (is_holder c) (is-intent g w.reclaimed c) (is-no-intent g w.reclaimed c) h.intents.places

first_taken_lem : {g : Bool} {rs : List ℕ} {xs : List Intent} {hs : List Holder} → Slots (IntentIs g rs) NoIntent xs hs → first_taken xs ≡ not (none hs)
unfolding none
first_taken_lem (Slots.rest All.all_nil) = refl
first_taken_lem (Slots.rest (All.all_cons h t)) = h
first_taken_lem (Slots.item r s) = r.taken

pub some-taken : {g : Bool} {f : File} {w : Row} → FileIs g f w → first_taken f.intents ≡ not (none w.intents)
some-taken h = first_taken_lem h.intents.places

-- ---- open, out of grace
takes_one : {f : File} {w : Row} (d : Head) (c : ℕ) → FileIs false f w
    → Room (IntentIs false w.reclaimed) NoIntent is_free f.intents w.intents
    → FileAgrees d false (takes c d f (first is_free f.intents)) w (with_intents (w.intents ++ holder c no_layout ∷ []) w) (cond (leb 8 (length w.intents)) 28 0)
takes_one {f} {w} d c h (full a b) = rw (a, le-leb 8 (length w.intents) (omega (arith, b, h.intents.eight))) (record { same = refl; kept = record { head = refl; file = h } })
takes_one {f} {w} d c h (room i s) = rw (s.at, lt-leb 8 (length w.intents) (omega (arith, s.less, h.intents.eight))) (record {
  same = refl;
  kept = record {
    head = refl;
    file = with-intents h (record {
      places = s.put (intent_of c) (holder c no_layout) (record { taken = refl; client = refl; reclaimed = λ z. true-false (sym z); stateid = no-stateid refl; bare = λ z. refl });
      eight = simp length-set h.intents.eight;
    });
  };
})

opens_at : {f : File} {w : Row} (d : Head) (c : ℕ) → FileIs false f w → AtIntent c false f w → FileAgrees d false (opens c d f (first (is_intent c) f.intents)) w (opened c w) (refused (open_rules c w))
unfolding has
opens_at {f} {w} d c h (missing a b) = rw (a, b) (takes_one d c h (room_for is_free (λ x y k. rw k.taken) (λ x k. rw k) h.intents.places))
opens_at {f} {w} d c h (found i y t) = rw (t.at, t.there) (record { same = refl; kept = record { head = refl; file = h } })

pub file-opened : {f : File} {w : Row} (d : Head) (c : ℕ) → FileIs false f w → FileAgrees d false (opens c d f (first (is_intent c) f.intents)) w (opened c w) (refused (open_rules c w))
file-opened d c h = opens_at d c h (at-intent c h)

-- ---- reclaim, in grace
reclaimed-intent : (rs : List ℕ) (c : ℕ) (x : Intent) (y : Holder) → IntentIs true rs x y → IntentIs true (with c rs) (reclaimed_if c x) y
reclaimed-intent rs c x y h = record {
  taken = h.taken;
  client = h.client;
  reclaimed = λ z. rw (has-with c y.client rs, h.taken, h.client, h.reclaimed refl);
  stateid = h.stateid;
  bare = h.bare;
}

reclaims-at : {f : File} {w : Row} (d : Head) (c : ℕ) → FileIs true f w → AtIntent c true f w → FileAgrees d true (reclaims c d f (first (is_intent c) f.intents)) w (has_reclaimed c w) (refused (intent_rules c w))
unfolding has
reclaims-at d c h (missing a b) = rw (a, b) (record { same = refl; kept = record { head = refl; file = h } })
reclaims-at {f} {w} d c h (found i y t) = rw (t.at, t.there) (record {
  same = refl;
  kept = record {
    head = refl;
    file = record {
      used = h.used;
      number = h.number;
      copies = h.copies;
      intents = record {
        places = slots-left (reclaimed_if c) (reclaimed-intent w.reclaimed c) (λ x k. k) h.intents.places;
        eight = length-map f.intents (reclaimed_if c) ∙ h.intents.eight;
      };
      marked = h.marked;
    };
  };
})

pub file-reclaimed : {f : File} {w : Row} (d : Head) (c : ℕ) → FileIs true f w → FileAgrees d true (reclaims c d f (first (is_intent c) f.intents)) w (has_reclaimed c w) (refused (intent_rules c w))
file-reclaimed d c h = reclaims-at d c h (at-intent c h)

-- ---- close
grace-test : (g a b : Bool) → (g ≡ true → a ≡ b) → cond g (not a) false ≡ cond g (not b) false
grace-test true a b h = ap not (h refl)
grace-test false a b h = refl

leaves_at : {g : Bool} {f : File} {w : Row} (d : Head) (c : ℕ) → d.grace ≡ g → FileIs g f w → AtIntent c g f w → FileAgrees d g (leaves d f (first (is_intent c) f.intents)) w (closed c w) (refused (close_rules g c w))
unfolding has
leaves_at {g} {f} {w} d c e h (missing a b) = rw (a, b) (record { same = refl; kept = record { head = refl; file = h } })
leaves_at {g} {f} {w} d c e h (found i y t) = rw (t.at, e, t.there) (branch (cond g (not (has c w.reclaimed)) false)
    (grace-test g _ _ (λ z. (t.pair no_intent).reclaimed z ∙ ap (λ x. has x w.reclaimed) (eqb-true y.client c t.passes)))
    (λ z. record { same = refl; kept = record { head = refl; file = h } })
    (λ z. record { same = refl; kept = record { head = refl; file = with-intents h (record { places = t.out no_intent refl; eight = left_out-length no_intent i f.intents ∙ h.intents.eight }) } }))

pub file-closed : {g : Bool} {f : File} {w : Row} (d : Head) (c : ℕ) → d.grace ≡ g → FileIs g f w → FileAgrees d g (leaves d f (first (is_intent c) f.intents)) w (closed c w) (refused (close_rules g c w))
file-closed d c e h = leaves_at d c e h (at-intent c h)

-- ---- repaired
pub file-repaired : {g : Bool} {f : File} {w : Row} (d : Head) → FileIs g f w
    → FileAgrees d g (cond (not f.marked) (file_answered 22 d f) (cond (first_taken f.intents) (file_answered 10008 d f) (becomes d f (mended_file f)))) w (mended w) (refused (repaired_rules w))
file-repaired {g} {f} {w} d h = branch (not w.marked) (ap not h.marked) (λ z. record { same = refl; kept = record { head = refl; file = h } })
    (λ z. branch (not (none w.intents)) (some-taken h) (λ y. record { same = refl; kept = record { head = refl; file = h } })
    (λ y. record { same = refl; kept = record { head = refl; file = with-mark (with-copies h (copies-unblamed h.copies)) refl } }))

-- ---- the proxy, out of grace
none-there : (p : Proxy) → is_there p ≡ false → p ≡ no_proxy
none-there no_proxy e = refl
none-there (proxy_at d) e = true-false e

pub file-proxy-added : {g : Bool} {f : File} {w : Row} (d : Head) (s : Bytes) → FileIs g f w
    → FileAgrees d g
    (cond (not (eqb (length s) 16)) (file_answered 22 d f)
    (cond (any (is_device (halves s)) f.mirrors) (file_answered 22 d f)
    (cond (has_proxy f.mirrors) (file_answered 17 d f)
    (file_answered 0 d (file.with_mirrors (with_proxy (halves s).high (halves s).low f.mirrors) f))))) w (proxy_added s w) (refused (add_proxy_rules s w))
file-proxy-added {f = f} {w = w} d s h =
    branch (not (eqb (length s) 16)) refl (λ z. record { same = refl; kept = record { head = refl; file = h } })
    (λ z. branch (names w (halves s)) (known (halves s) h.copies) (λ y. record { same = refl; kept = record { head = refl; file = h } })
    (λ y. branch (is_there w.proxy) (has-proxy h.copies) (λ x. record { same = refl; kept = record { head = refl; file = h } })
    (λ x. record { same = refl; kept = record { head = refl; file = with-proxy h (copies-proxied (halves s) (subst (λ p. Copies f.mirrors w.mirrors p w.blamed) (none-there w.proxy x) h.copies)) } })))

pub file-proxy-removed : {g : Bool} {f : File} {w : Row} (d : Head) → FileIs g f w → FileAgrees d g (cond (not (has_proxy f.mirrors)) (file_answered 2 d f) (file_answered 0 d (file.with_mirrors (without_proxy f.mirrors) f))) w (proxy_removed w) (refused (remove_proxy_rules w))
file-proxy-removed {w = w} d h =
    branch (not (is_there w.proxy)) (ap not (has-proxy h.copies)) (λ z. record { same = refl; kept = record { head = refl; file = h } })
    (λ z. record { same = refl; kept = record { head = refl; file = with-proxy h (copies-bare h.copies) } })

-- ---- restart
pub file-restarted : (g : Bool) (f : File) (w : Row) → FileIs g f w → FileIs true (restarted_file f) (restarted w)
unfolding restarted_file has any
file-restarted g f w h = record {
  used = h.used;
  number = h.number;
  copies = h.copies;
  intents = record {
    places = slots_map unreclaimed_intent (λ (y : Holder). holder y.client no_layout) (λ x y k. record { taken = k.taken; client = k.client; reclaimed = λ z. refl; stateid = no-stateid refl; bare = λ z. refl }) (λ x k. k) h.intents.places;
    eight = length-map f.intents unreclaimed_intent ∙ h.intents.eight;
  };
  marked = h.marked;
}

-- ---- the end of grace
pairs-left : {A B C : Type 0} {R : A → B → Type 0} {S : C → B → Type 0} {xs : List A} {ys : List B} (f : A → C)
    → ((x : A) (y : B) → R x y → S (f x) y) → Pairs R xs ys → Pairs S (map f xs) ys
pairs-left f k Pairs.pairs-nil = Pairs.pairs-nil
pairs-left f k (Pairs.pairs-cons {x} {y} r s) = Pairs.pairs-cons (k x y r) (pairs-left f k s)

kept-intents : {f : File} {w : Row} → FileIs true f w
    → Pairs (IntentIs true w.reclaimed) (chosen is_kept f.intents) (chosen (λ (y : Holder). reclaimed_by y.client w) w.intents)
kept-intents {w} h = slots-chosen is_kept (λ (y : Holder). reclaimed_by y.client w) (λ x y k. rw k.taken (k.reclaimed refl)) (λ x k. rw k) h.intents.places

lost-intents : {f : File} {w : Row} → FileIs true f w → any is_lost f.intents ≡ lost w
lost-intents {w} h = slots-any is_lost (λ (y : Holder). not (reclaimed_by y.client w)) (λ x y k. rw (k.taken, k.reclaimed refl)) (λ x k. rw k) h.intents.places

-- one that stays has no stateid
stays : (rs : List ℕ) (x : Intent) (y : Holder) → IntentIs true rs x y → IntentIs false rs (stayed_intent x) y
stays rs x y k = record { taken = refl; client = k.client; reclaimed = λ z. true-false (sym z); stateid = rw (k.bare refl) (no-stateid refl); bare = λ z. k.bare refl }

pub file-ended : (f : File) (w : Row) → FileIs true f w → FileIs false (ended_file f) (ended w)
unfolding ended_file
file-ended f w h = record {
  used = h.used;
  number = h.number;
  copies = h.copies;
  intents = record {
    places = slots-fill (pairs-left stayed_intent (stays w.reclaimed) (kept-intents h)) (all_replicate 8 no_intent refl)
        (omega (arith, chosen-length is_kept f.intents, length-map (chosen is_kept f.intents) stayed_intent, h.intents.eight));
    eight = fill-length (map stayed_intent (chosen is_kept f.intents)) no_intents;
  };
  marked = rw (lost-intents h, h.marked);
}

-- ---- a report
pub told-phase : (x : Change) (d : Head) (f : File) → phase_in (head_after x d f) ≡ phase_in d
unfolding head_after
told-phase x d f = refl

reports-at : {g : Bool} {f : File} {w : Row} (d : Head) (c : ℕ) (xs : List DeviceError) (ys : List Statistic) → FileIs g f w → AtIntent c g f w
    → FileAgrees d g (assessed_file d c f (of_client (assessment_of f.mirrors (Whole xs ys)) (first (is_intent c) f.intents))) w (reported Current xs w) (refused (intent_rules c w))
unfolding has
reports-at {f} d c xs ys h (missing a b) = rw (a, b, nothing-changed d c 10034 f) (record { same = refl; kept = record { head = refl; file = h } })
reports-at {f} d c xs ys h (found i y t) = rw (t.at, t.there) (record { same = whole-status f.mirrors xs ys; kept = record { head = told-phase (assessment_of f.mirrors (Whole xs ys)).change d f; file = rw (none-raised c _) (file-after-report xs ys h) } })

pub file-reported : {g : Bool} {f : File} {w : Row} (d : Head) (c : ℕ) (xs : List DeviceError) (ys : List Statistic) → FileIs g f w
    → FileAgrees d g (assessed_file d c f (of_client (assessment_of f.mirrors (Whole xs ys)) (first (is_intent c) f.intents))) w (reported Current xs w) (refused (intent_rules c w))
file-reported d c xs ys h = reports-at d c xs ys h (at-intent c h)

-- ---- the source
-- no place after the mirrors is good
good_none : {p : Proxy} {n : ℕ} {ms : List Mirror} (k : ℕ) → PlacesAre p n ms [] → good_from k (take n ms) ≡ []
unfolding good_from
good_none k (PlacesAre.bare h e) = refl
good_none k (PlacesAre.proxied h) = refl
good_none k (PlacesAre.free h s) = rw h (good_none (suc k) s)

-- `b` is whether the first place is blamed
good-item : {m : Mirror} {d : Device} (ms : List Mirror) (ds : List Device) (k : ℕ) (bs : List ℕ) (b : Bool) → has k bs ≡ b → m.blamed ≡ b → MirrorIs m d
    → good_from (suc k) ms ≡ unblamed_from (suc k) ds bs → good_from k (m ∷ ms) ≡ unblamed_from k (d ∷ ds) bs
unfolding good_from unblamed_from
good-item ms ds k bs true e q r h = rw (e, r.present, q) h
good-item ms ds k bs false e q r h = rw (e, r.present, q) (ap {B = List ℕ} (λ ps. k ∷ ps) h)

good-from : {p : Proxy} {n : ℕ} {ms : List Mirror} {ds : List Device} (k : ℕ) (bs : List ℕ) → PlacesAre p n ms ds → ((i : ℕ) → i < length ms → (get_or ms i no_mirror).blamed ≡ has (k + i) bs)
    → good_from k (take n ms) ≡ unblamed_from k ds bs
unfolding good_from unblamed_from
good-from k bs (PlacesAre.bare h e) f = refl
good-from k bs (PlacesAre.proxied h) f = refl
good-from k bs (PlacesAre.free {m = m} h s) f = good_none k (PlacesAre.free {m = m} h s)
good-from k bs (PlacesAre.item {k = n} {ms = ms} {ds = ds} r s) f =
    good-item (take n ms) ds k bs (has k bs) refl (f 0 (omega arith) ∙ ap (λ j. has j bs) (omega arith)) r (good-from (suc k) bs s (λ i p. f (suc i) (omega arith) ∙ ap (λ j. has j bs) (omega arith)))

pub few-devices : {p : Proxy} {n : ℕ} {ms : List Mirror} {ds : List Device} → PlacesAre p n ms ds → length ds ≤ n
few-devices (PlacesAre.bare h e) = omega arith
few-devices (PlacesAre.proxied h) = omega arith
few-devices (PlacesAre.free h s) = omega arith
few-devices (PlacesAre.item r s) = omega (arith, few-devices s)

pub file-source : (d : Direction) (g : Bool) (f : File) (w : Row) → FileIs g f w → source_of d f ≡ source d w
unfolding source_of source_in
file-source d g f w h =
    ap (first_by d) (good-from 0 w.blamed h.copies.places (λ i p. h.copies.blame i (omega (arith, p, five h.copies)) ∙ ap (λ j. has j w.blamed) (omega arith)))

-- ---- a new file
pub file-new : (n : ℕ) (ds : List Device) → length ds ≤ 4 → FileIs false (file_of n (placed_mirrors ds)) (new_row n ds)
file-new n ds h = record {
  used = refl;
  number = refl;
  copies = copies-new ds h;
  intents = record { places = Slots.rest (all_replicate 8 no_intent refl); eight = refl };
  marked = refl;
}
