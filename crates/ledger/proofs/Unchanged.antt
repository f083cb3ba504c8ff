-- What leaves the record as it was: `unchanged : Unchanged`. In this order: what it is to be kept; calls on one file; register, forget and the end of grace;
-- LAYOUTRETURN; a step; open where the intent is held; reclaim again.
use mathlib.Core.Path.{◌≡◌, refl, ap, sym, ◌∙◌}
use mathlib.Core.List.{List, [], ◌∷◌, map}
use mathlib.Core.Bool.{Bool, true, false, not, cond}
use Prim.Native.Nat.{ℕ}
use lib.ListN.{length}
use lib.Dec.{eqb}
use borrow.Author.Tests.{eqb-true}
use Rattle.reports.specs.Report.{report_of}
use Rattle.wire.specs.Request.{body_of}
use Rattle.wire.specs.Stateid.{new_stateid, stateid_in}
use Rattle.places.specs.Lists.{any}
use Rattle.places.specs.Places.{first}
use Rattle.places.proofs.Sets.{true-false, first-nothing, first-no, rest-no}
use Rattle.mirroring.specs.Mirrors.{enrolled_of, Enrolled}
use Rattle.mirroring.specs.declared.totals.Totals.{Totals}
use Rattle.intents.specs.Intents.{is_intent, reclaimed_if}
use Rattle.intents.specs.declared.Intent.{Intent}
use Rattle.files.specs.File.{FileAnswered, is_file, file_answered, opens, opened_file, reclaims, reclaimed_file, closed_file, repaired_file, proxy_added_file, proxy_removed_file, stated_file, forgettable}
use Rattle.layoutreturn.specs.LayoutReturn.{handed_on_code, decision_of, Decision}
use Rattle.layoutreturn.specs.LayoutReturn as decision
use Rattle.layoutreturn.specs.declared.Outcome.{Outcome}
use Rattle.files.specs.declared.head.Head.{Head}
use Rattle.files.specs.declared.file.File.{File}
use Rattle.recovery.specs.Calls.{register, opening, set_up, reclaim, close, repaired, add_proxy, remove_proxy, forget, end_grace, restart, layout_return, listing, replied, handed_on}
use Rattle.recovery.specs.Record.{Answered, answered, file_at, on_place, open_of, is_barred, set_up_of, reclaim_of, close_of, repaired_of, add_proxy_of, remove_proxy_of, is_full, register_with, register_of, forgets, forget_of, end_of, restart_of}
use Rattle.recovery.specs.LayoutReturn.{answered_by, report_file, return_file, asked, reported_of, ordinary_of, returned_by, layoutreturn_of, reply_after}
use Rattle.recovery.specs.declared.record.Record.{Record}
use Rattle.ledger.specs.Ledger.{accepted}
use Rattle.ledger.specs.History.{step_of, return_step, step}
use Rattle.ledger.specs.Unchanged.{RefusedUnchanged, HeldUnchanged, AgainUnchanged, Unchanged}
use Rattle.ledger.proofs.Calls.{still}
use Rattle.ledger.proofs.OneCall.{Does, keeps, makes, open-does, set-up-does, reclaim-does, close-does, repaired-does, add-proxy-does, remove-proxy-does, report-does, return-does}
use Rattle.std.specs.Prelude.{Option, Some, None}

-- ---- what is answered other than 0 leaves the record: it is that number, given back with what was there
record Kept (r : Record) (a : Answered) : Type 0 where
  kept : eqb a.status 0 ≡ false → a ≡ answered a.status r

either : {r : Record} {a c : Answered} (b : Bool) → Kept r a → Kept r c → Kept r (cond b a c)
either true h k = h
either false h k = k

refuses : (r : Record) (s : ℕ) → Kept r (answered s r)
refuses r s = record { kept = λ e. refl }

accepts : (r q : Record) → Kept r (answered 0 q)
accepts r q = record { kept = λ e. true-false e }

-- ---- calls on one file: one that is given back is put back where it was
given_back : {d : Head} {f : File} (a : FileAnswered) → Does d f a → eqb a.status 0 ≡ false → a ≡ file_answered a.status d f
given_back a (keeps s) e = refl
given_back a (makes h g k) e = true-false e

on-place : (n : ℕ) (h : File → FileAnswered) (r : Record) → Does r.head (file_at n r) (h (file_at n r)) → Kept r (on_place n h r)
on-place n h r k = record { kept = λ e. still r n (h (file_at n r)).status (h (file_at n r)) (given_back (h (file_at n r)) k e) }

as_before : (r : Record) (a : Answered) → Kept r a → eqb a.status 0 ≡ false → a.after ≡ r
as_before r a k e = ap (λ (x : Answered). x.after) (k.kept e)

-- ---- register, forget and the end of grace
registering : (n : ℕ) (e : Enrolled) (r : Record) → Kept r (register_with n e r)
registering n e r =
    either e.good (either (is_file n (file_at n r)) (refuses r 17) (either (is_full r) (refuses r 28) (accepts r _))) (refuses r 22)

forgetting : (s n : ℕ) (r : Record) → Kept r (forgets s n r)
forgetting s n r = either (eqb s 0) (accepts r _) (refuses r s)

-- ---- LAYOUTRETURN
handed-on : (k : ℕ) (t : Totals) (d : List ℕ) (b : Bool) → eqb k handed_on_code ≡ b → accepted (cond b (handed_on t d) (replied k t d)) ≡ false → eqb k 0 ≡ false
handed-on k t d true e h = rw (eqb-true k handed_on_code e)
handed-on k t d false e h = h

module _ (n c : ℕ) (s d : List ℕ) (r : Record) where
  -- o is what is made of the file
  asked-kept : (o : File → Outcome) → Does r.head (file_at n r) (answered_by (file_at n r) (o (file_at n r))) → accepted (return_step (asked n r o) d).answer ≡ false → (asked n r o).after ≡ r
  asked-kept o k h =
      let q : File → FileAnswered = λ f. answered_by f (o f) in
      as_before r (on_place n q r) (on-place n q r k) (handed-on (o (file_at n r)).status _ d (eqb (o (file_at n r)).status handed_on_code) refl h)

  -- by what was decided before any file was looked at
  return-by : (x : Decision) → accepted (return_step (returned_by n c s r x) d).answer ≡ false → (returned_by n c s r x).after ≡ r
  unfolding reported_of ordinary_of
  return-by (decision.Answered k) h = refl
  return-by decision.HandedOn h = refl
  return-by (decision.ReadBody len) h = asked-kept (report_file n c s r) (report-does r.head (file_at n r) n c (report_of (body_of s))) h
  return-by (decision.ReturnBody len) h = asked-kept (return_file n c s r) (return-does r.head (file_at n r) n c (stateid_in s) (report_of (body_of s))) h

-- ---- a step
refused-unchanged : RefusedUnchanged
unfolding step register_of open_of set_up_of reclaim_of close_of repaired_of add_proxy_of remove_proxy_of forget_of end_of restart_of layoutreturn_of
refused-unchanged r (register n s) h = as_before r _ (either r.head.grace (refuses r 10013) (registering n (enrolled_of s) r)) h
refused-unchanged r (opening n c) h = as_before r _ (on-place n (opened_file n r.head c) r (open-does r.head (file_at n r) n c)) h
refused-unchanged r (set_up n c s) h =
    let b = is_barred s r.files in
    as_before r _ (on-place n (stated_file n r.head c (new_stateid s) b) r (set-up-does r.head (file_at n r) n c (new_stateid s) b)) h
refused-unchanged r (reclaim n c) h = as_before r _ (on-place n (reclaimed_file n r.head c) r (reclaim-does r.head (file_at n r) n c)) h
refused-unchanged r (close n c) h = as_before r _ (on-place n (closed_file n r.head c) r (close-does r.head (file_at n r) n c)) h
refused-unchanged r (repaired n) h = as_before r _ (on-place n (repaired_file n r.head) r (repaired-does r.head (file_at n r) n)) h
refused-unchanged r (add_proxy n s) h = as_before r _ (on-place n (proxy_added_file n r.head s) r (add-proxy-does r.head (file_at n r) n s)) h
refused-unchanged r (remove_proxy n) h = as_before r _ (on-place n (proxy_removed_file n r.head) r (remove-proxy-does r.head (file_at n r) n)) h
refused-unchanged r (forget n) h = as_before r _ (forgetting (forgettable n r.head (file_at n r)) n r) h
refused-unchanged r end_grace h = as_before r _ (either r.head.grace (accepts r _) (refuses r 10033)) h
refused-unchanged r restart h = true-false h
refused-unchanged r (layout_return n c s d) h = return-by n c s (reply_after n c s d r) r (decision_of r.head s (length d)) h
refused-unchanged r (listing k e a b) h = refl

-- ---- open where the intent is held
both : (a b : Bool) → cond a b false ≡ true → (a ≡ true) × (b ≡ true)
both true b h = (refl, h)
both false b h = true-false (sym h)

held_by : (c : ℕ) (d : Head) (f : File) (o : Option ℕ) → first (is_intent c) f.intents ≡ o → any (is_intent c) f.intents ≡ true → opens c d f o ≡ file_answered 0 d f
held_by c d f (Some i) e h = refl
held_by c d f None e h = true-false (sym h ∙ first-nothing (is_intent c) f.intents e)

held-file : (n c : ℕ) (d : Head) (f : File) → d.grace ≡ false → is_file n f ≡ true → any (is_intent c) f.intents ≡ true → opened_file n d c f ≡ file_answered 0 d f
unfolding opened_file
held-file n c d f e i h = rw (e, i) (rw e at (held_by c d f (first (is_intent c) f.intents) refl h))

held-unchanged : HeldUnchanged
unfolding step open_of
held-unchanged r n c g h =
    let f = file_at n r in
    let k = both (is_file n f) (any (is_intent c) f.intents) h in
    ap step_of (still r n 0 (opened_file n r.head c f) (held-file n c r.head f g k.0 k.1))

-- ---- reclaim again
module _ (c : ℕ) where
  reclaimed-already : (x : Intent) (b d : Bool) → is_intent c x ≡ b → x.reclaimed ≡ d → cond b (not d) false ≡ false → reclaimed_if c x ≡ x
  reclaimed-already x true true p q h = rw (p, ← q)
  reclaimed-already x true false p q h = true-false h
  reclaimed-already x false d p q h = rw p

  all-already : (xs : List Intent) → any (λ (x : Intent). cond (is_intent c x) (not x.reclaimed) false) xs ≡ false → map (reclaimed_if c) xs ≡ xs
  unfolding any
  all-already [] h = refl
  all-already (x ∷ xs) h =
      let owes = cond (is_intent c x) (not x.reclaimed) false in
      rw (reclaimed-already x (is_intent c x) x.reclaimed refl refl (first-no owes _ h), all-already xs (rest-no owes _ h))

  again_by : (d : Head) (f : File) (o : Option ℕ) → first (is_intent c) f.intents ≡ o → any (is_intent c) f.intents ≡ true → map (reclaimed_if c) f.intents ≡ f.intents → reclaims c d f o ≡ file_answered 0 d f
  again_by d f (Some i) e h k = rw k
  again_by d f None e h k = true-false (sym h ∙ first-nothing (is_intent c) f.intents e)

again-file : (n c : ℕ) (d : Head) (f : File) → d.grace ≡ true → is_file n f ≡ true → any (is_intent c) f.intents ≡ true → map (reclaimed_if c) f.intents ≡ f.intents → reclaimed_file n d c f ≡ file_answered 0 d f
unfolding reclaimed_file
again-file n c d f e i h w = rw (e, i) (rw e at (again_by c d f (first (is_intent c) f.intents) refl h w))

again-unchanged : AgainUnchanged
unfolding step reclaim_of
again-unchanged r n c g h w =
    let f = file_at n r in
    let k = both (is_file n f) (any (is_intent c) f.intents) h in
    ap step_of (still r n 0 (reclaimed_file n r.head c f) (again-file n c r.head f g k.0 k.1 (all-already c f.intents w)))

pub unchanged : Unchanged
unchanged = record { refused = refused-unchanged; held = held-unchanged; again = again-unchanged }
