-- A ledger that is fed its own verdicts is the ledger of a history; and after any history a row without a mark has no blame.
use mathlib.Core.Path.{◌≡◌, refl, ap, sym, ◌∙◌}
use mathlib.Core.List.{List, [], ◌∷◌, ◌++◌}
use mathlib.Core.Bool.{Bool, true, false, cond}
use lib.Dec.{leb}
use Rattle.reports.specs.Report.{DeviceError, report_of}
use Rattle.wire.specs.Request.{body_of}
use Rattle.places.specs.Lists.{any, chosen, amend, discard}
use Rattle.places.proofs.Slots.{All, all_map}
use Rattle.places.proofs.Sets.{true-false}
use Rattle.mirroring.specs.Devices.{mirrors_in}
use Rattle.files.specs.declared.head.Edition.{Edition}
use Rattle.files.specs.Head.{is_old}
use Rattle.recovery.specs.Calls.{Call, register, opening, set_up, reclaim, close, repaired, add_proxy, remove_proxy, forget, end_grace, restart, layout_return, listing}
use Rattle.recovery.specs.Record.{fresh_as}
use Rattle.recovery.specs.declared.record.Record.{Record}
use Rattle.ledger.specs.Ledger.{Row, Ledger, no_rows, is_row, new_row, insert, lost, proxy_removed, restarted, ended, is_fault, is_stranger, blame, reported, errors_of, with_mark, with_blame, judge, apply, accepted, feed}
use Rattle.ledger.specs.History.{step, answers, ledger_after}
use Rattle.ledger.specs.Demand3.{ledger_of}
use Rattle.ledger.proofs.Relation.{Matches}
use Rattle.ledger.proofs.History.{step-agrees, fresh-matches}

-- ---- a ledger fed with its own verdicts is the ledger of a history
unfoldable pub fed : Ledger → List Call → Ledger
fed l [] = l
fed l (x ∷ xs) = fed (feed l x (judge l x)) xs

fed_by : (calls : List Call) (r : Record) (l : Ledger) → Matches r l → ledger_after l calls (answers r calls) ≡ fed l calls
unfolding answers ledger_after fed
fed_by [] r l m = refl
fed_by (x ∷ xs) r l m =
    let s = step-agrees r l x m in
    fed_by xs (step r x).after (feed l x (step r x).answer) (rw s.answer s.after) ∙ ap (λ a. fed (feed l x a) xs) s.answer

pub fed-ledger : (ed : Edition) (calls : List Call) → ledger_of ed calls ≡ fed (no_rows ed) calls
fed-ledger ed calls = fed_by calls (fresh_as ed) (no_rows ed) (fresh-matches ed)

pub fed-append : (xs ys : List Call) (l : Ledger) → fed l (xs ++ ys) ≡ fed (fed l xs) ys
unfolding fed
fed-append [] ys l = refl
fed-append (x ∷ xs) ys l = fed-append xs ys (feed l x (judge l x))

-- ---- a row without a mark has no blame, after any history
pub record Sound (w : Row) : Type 0 where
  pub no-blame : w.marked ≡ false → w.blamed ≡ []

module _ {P : Row → Type 0} where
  all-amend : (p : Row → Bool) (g : Row → Row) → ((w : Row) → P w → P (g w)) → {ws : List Row} → All P ws → All P (amend p g ws)
  unfolding amend
  all-amend p g k All.all_nil = All.all_nil
  all-amend p g k (All.all_cons {x = w} {xs = ws} h t) = by (p w) (all-amend p g k t)
    where
      by : (b : Bool) → All P (amend p g ws) → All P (cond b (g w ∷ ws) (w ∷ amend p g ws))
      by true s = All.all_cons (k w h) t
      by false s = All.all_cons h s

  all-discard : (p : Row → Bool) {ws : List Row} → All P ws → All P (discard p ws)
  unfolding discard
  all-discard p All.all_nil = All.all_nil
  all-discard p (All.all_cons {x = w} {xs = ws} h t) = by (p w) (all-discard p t)
    where
      by : (b : Bool) → All P (discard p ws) → All P (cond b ws (w ∷ discard p ws))
      by true s = t
      by false s = All.all_cons h s

  all_insert : (v : Row) → P v → {ws : List Row} → All P ws → All P (insert v ws)
  unfolding insert
  all_insert v k All.all_nil = All.all_cons k All.all_nil
  all_insert v k (All.all_cons {x = w} {xs = ws} h t) = by (leb w.number v.number) (all_insert v k t)
    where
      by : (b : Bool) → All P (insert v ws) → All P (cond b (w ∷ insert v ws) (v ∷ w ∷ ws))
      by true s = All.all_cons h s
      by false s = All.all_cons k (All.all_cons h t)

sound-ended : (w : Row) → Sound w → Sound (ended w)
sound-ended w h = record { no-blame = by (lost w) }
  where
    by : (b : Bool) → cond b true w.marked ≡ false → w.blamed ≡ []
    by true e = true-false e
    by false e = h.no-blame e

sound-reported : (o : Edition) (xs : List DeviceError) (w : Row) → Sound w → Sound (reported o xs w)
sound-reported o xs w h = by (is_old o) (any (is_stranger w) xs) (any is_fault xs)
  where
    by : (o a b : Bool) → Sound (cond o w (cond a (with_mark true w) (cond b (with_mark true (with_blame (blame w xs w.blamed) w)) w)))
    by true a b = h
    by false true b = record { no-blame = λ e. true-false e }
    by false false true = record { no-blame = λ e. true-false e }
    by false false false = h

pub as-was : {w v : Row} → v.marked ≡ w.marked → v.blamed ≡ w.blamed → Sound w → Sound v
as-was e k h = record { no-blame = λ q. k ∙ h.no-blame (sym e ∙ q) }

sound-removed : (w : Row) → Sound w → Sound (proxy_removed w)
unfolding chosen
sound-removed w h = record { no-blame = λ e. rw (h.no-blame e) }

sound-apply : (l : Ledger) (x : Call) → All Sound l.rows → All Sound (apply l x).rows
unfolding apply
sound-apply l (register n s) h = all_insert (new_row n (mirrors_in s)) (record { no-blame = λ e. refl }) h
sound-apply l (opening n c) h = all-amend (is_row n) _ (λ w k. as-was refl refl k) h
sound-apply l (set_up n c s) h = all-amend (is_row n) _ (λ w k. as-was refl refl k) h
sound-apply l (reclaim n c) h = all-amend (is_row n) _ (λ w k. as-was refl refl k) h
sound-apply l (close n c) h = all-amend (is_row n) _ (λ w k. as-was refl refl k) h
sound-apply l (repaired n) h = all-amend (is_row n) _ (λ w k. record { no-blame = λ e. refl }) h
sound-apply l (add_proxy n s) h = all-amend (is_row n) _ (λ w k. as-was refl refl k) h
sound-apply l (remove_proxy n) h = all-amend (is_row n) _ sound-removed h
sound-apply l (forget n) h = all-discard (is_row n) h
sound-apply l end_grace h = all_map ended sound-ended h
sound-apply l restart h = all_map restarted (λ w k. as-was refl refl k) h
sound-apply l (layout_return n c s d) h = all-amend (is_row n) _ (λ w k. as-was refl refl (sound-reported l.edition (errors_of (report_of (body_of s))) w k)) h
sound-apply l (listing k e a b) h = h

pub sound-fed : (calls : List Call) (l : Ledger) → All Sound l.rows → All Sound (fed l calls).rows
unfolding fed feed
sound-fed [] l h = h
sound-fed (x ∷ xs) l h = sound-fed xs (feed l x (judge l x)) (by (accepted (judge l x)) (sound-apply l x h))
  where
    by : (b : Bool) → All Sound (apply l x).rows → All Sound (cond b (apply l x) l).rows
    by true k = k
    by false k = h
