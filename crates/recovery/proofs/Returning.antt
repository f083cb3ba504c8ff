-- LAYOUTRETURN at any place of the record that holds the file where one is wanted: what it answers, and the record with the file put back there, are what the
-- definition says by what was decided, and so is the stateid of the reply. In this order: a file that is put back as it was; the law.
use mathlib.Core.Path.{◌≡◌, refl, sym, ap, ◌∙◌}
use Prim.Native.Nat.{ℕ}
use lib.ListN.{length, get_or}
use lib.Seq.{set-get_or}
use Rattle.statuses.specs.Names.{Bytes, Status, Client, FileNumber}
use Rattle.mirroring.specs.Blame.{status_only}
use Rattle.files.specs.File.{no_file, file_answered, raised_file}
use Rattle.wire.specs.Stateid.{no_stateid}
use Rattle.files.proofs.Changing.{unchanged, unraised}
use Rattle.layoutreturn.specs.LayoutReturn.{handed_on_code, decision_of, outcome_of, outcome_by, Decision, Answered, HandedOn, ReadBody, ReturnBody}
use Rattle.layoutreturn.specs.declared.Outcome.{Outcome}
use Rattle.layoutreturn.proofs.Deciding.{body-decided, return-decided}
use Rattle.recovery.specs.Record.{place_in, put_file}
use Rattle.recovery.specs.LayoutReturn.{returning, answered_by, place_for, reported_of, ordinary_of, returned_by, layoutreturn_of, stateid_by}
use Rattle.recovery.specs.declared.record.Record.{Record}
use Rattle.recovery.specs.declared.returns.Returned.{Returned}

-- the place i is that of the file n, where the body is read
abbrev pub Placed : FileNumber → Record → ℕ → Decision → Type 0
Placed n r i (Answered k) = Unit {0}
Placed n r i HandedOn = Unit {0}
Placed n r i (ReadBody len) = i ≡ place_in n r
Placed n r i (ReturnBody len) = i ≡ place_in n r

pub placed-for : (n : FileNumber) (r : Record) (i : ℕ) (x : Decision) → i ≡ place_for n r x → Placed n r i x
placed-for n r i (Answered k) e = tt
placed-for n r i HandedOn e = tt
placed-for n r i (ReadBody len) e = e
placed-for n r i (ReturnBody len) e = e

-- an outcome on the file at the place i
abbrev pub returned_at : Record → ℕ → Outcome → Returned
returned_at r i o = returning o.status o.totals (put_file r i (answered_by (get_or r.files i no_file) o)).after

-- a file that is put back as it was changes nothing
stays : (r : Record) (i : ℕ) (c : Client) (k : Status) → returned_at r i (outcome_of r.head c (status_only k)) ≡ returning k (status_only k).totals r
stays r i c k =
    ap (λ f. returning k (status_only k).totals (put_file r i (file_answered k r.head f)).after) (ap (raised_file c no_stateid) (unchanged (get_or r.files i no_file)) ∙ unraised c (get_or r.files i no_file))
    ∙ ap (λ fs. returning k (status_only k).totals (record { files = fs; head = r.head })) (set-get_or r.files i no_file)

module _ (n : FileNumber) (c : Client) (s d : Bytes) (r : Record) (i : ℕ) where
  by-decision : (x : Decision) → decision_of r.head s (length d) ≡ x → Placed n r i x → returned_at r i (outcome_by n r.head c s (get_or r.files i no_file) x) ≡ returned_by n c s r x
  unfolding outcome_by reported_of ordinary_of
  by-decision (Answered k) e p = stays r i c k
  by-decision HandedOn e p = stays r i c handed_on_code
  by-decision (ReadBody len) e p = rw (p, body-decided s r.head (length d) e)
  by-decision (ReturnBody len) e p = rw (p, return-decided s r.head (length d) e)

  -- and the stateid of its reply is the one that the definition says
  replies-by : (x : Decision) → decision_of r.head s (length d) ≡ x → Placed n r i x → (outcome_by n r.head c s (get_or r.files i no_file) x).stateid ≡ stateid_by n c s r x
  unfolding outcome_by
  replies-by (Answered k) e p = refl
  replies-by HandedOn e p = refl
  replies-by (ReadBody len) e p = refl
  replies-by (ReturnBody len) e p = rw (p, return-decided s r.head (length d) e)

  pub returned-at : (x : Decision) → x ≡ decision_of r.head s (length d) → Placed n r i x → returned_at r i (outcome_by n r.head c s (get_or r.files i no_file) x) ≡ layoutreturn_of n c s d r
  unfolding layoutreturn_of
  returned-at x e p = by-decision x (sym e) p ∙ ap (returned_by n c s r) e

  pub stateid-at : (x : Decision) → x ≡ decision_of r.head s (length d) → Placed n r i x → (outcome_by n r.head c s (get_or r.files i no_file) x).stateid ≡ stateid_by n c s r (decision_of r.head s (length d))
  stateid-at x e p = replies-by x (sym e) p ∙ ap (stateid_by n c s r) e
