-- LAYOUTRETURN parted before any file is looked up is what the definition of crate recovery says of it, in this order: the file, changed in place where the return is
-- accepted; at the place that is sought; by the phase; where a file is wanted; where none is.
use Rattle.std.proofs.Common.{◌≡◌, ℕ, ◌<◌, ◌≤◌, Bool, true, false, cond, eqb, ltb, List, map, length, get_or, set, Result, Ok, Err, is_ok, sym, refl, ap, ◌∙◌, arith}
use lib.Seq.{set-get_or, set_out, set-set}
use Rattle.std.proofs.lemmas.List.{get_or-set_same}
use Rattle.places.proofs.Sets.{true-false}
use Rattle.records.proofs.Headed.{if-called}
use Rattle.mirroring.specs.Totals.{no_totals}
use Rattle.wire.specs.Request.{Request, request_of}
use Rattle.wire.specs.Stateid.{no_stateid}
use Rattle.wire.specs.declared.request.Kind.{Kind}
use Rattle.wire.specs.declared.request.Kind.TheVariants.{Anonymous, Bypass, Current, Invalid, Ordinary}
use Rattle.wire.specs.Request as request
use Rattle.intents.specs.Intents.{is_stated, stated_if}
use Rattle.files.specs.File.{no_file, with_intents, blamed_file, raised_file}
use Rattle.files.specs.declared.file.File.{File}
use Rattle.files.specs.declared.head.Head.{Head}
use Rattle.layoutreturn.specs.LayoutReturn.{phase_of, decided, decision_of, outcome_by, file_after, Decision, Answered, HandedOn, ReadBody, ReturnBody}
use Rattle.layoutreturn.specs.Settled.{without_totals, settled_file}
use Rattle.layoutreturn.specs.declared.Outcome.{Outcome}
use Rattle.layoutreturn.specs.declared.Settled.{Settled}
use Rattle.layoutreturn.proofs.Settling.{file-so}
use Rattle.recovery.specs.Record.{with_files, with_head, place_in, file_at}
use Rattle.recovery.specs.LayoutReturn.{returning, returned_by, layoutreturn_of, stateid_by}
use Rattle.recovery.specs.declared.record.Record.{Record}
use Rattle.recovery.proofs.Returning.{Placed, returned_at, returned-at, stateid-at}
use Rattle.capi.specs.Place.{sought_in}
use Rattle.capi.specs.LayoutReturn.{begun_of, body_read, outcome_in, returned_in, stateid_for, changed_files}
use Rattle.capi.proofs.Places.{sought-place}

-- ---- the file where the return is accepted: the report is said of it, and then the client's stateid is raised in it, where it is raised
module _ (f : File) (o : Settled) (g : File) (is : g ≡ blamed_file o.marks o.blamed f) where
  pub settled-raised : is_stated o.stateid ≡ true → with_intents (map (stated_if o.client o.stateid) g.intents) g ≡ settled_file f o
  unfolding raised_file
  settled-raised e = ap (λ (h : File). with_intents (map (stated_if o.client o.stateid) h.intents) h) is ∙ rw e

  pub settled-reported : is_stated o.stateid ≡ false → g ≡ settled_file f o
  unfolding raised_file
  settled-reported e = is ∙ rw e

-- so the file at the place i, of which g is with the report and h with the stateid raised too; past the last place nothing is done
module _ (r : Record) (i : ℕ) (o : Settled) (long : length r.files ≡ 64) where
  module _ (below : i < 64) (g : File) (is : g ≡ blamed_file o.marks o.blamed (get_or r.files i no_file)) where
    pub changed-raised : (h : File) → h ≡ with_intents (map (stated_if o.client o.stateid) (get_or (set r.files i g) i no_file).intents) (get_or (set r.files i g) i no_file) → is_stated o.stateid ≡ true → with_files (set (set r.files i g) i h) r ≡ changed_files r i o
    unfolding changed_files
    changed-raised h made e =
        ap (λ fs. with_files fs r) (set-set r.files i g h ∙ ap (set r.files i) (made ∙ ap (λ (f : File). with_intents (map (stated_if o.client o.stateid) f.intents) f) (get_or-set_same r.files i g no_file (omega (arith, long, below)))
        ∙ settled-raised (get_or r.files i no_file) o g is e))

    pub changed-reported : is_stated o.stateid ≡ false → with_files (set r.files i g) r ≡ changed_files r i o
    unfolding changed_files
    changed-reported e = ap (λ (f : File). with_files (set r.files i f) r) (settled-reported (get_or r.files i no_file) o g is e)

  pub changed-past : 64 ≤ i → r ≡ changed_files r i o
  unfolding changed_files
  changed-past h = sym (ap (λ fs. with_files fs r) (set_out r.files i (settled_file (get_or r.files i no_file) o) (omega (arith, long, h))))

-- ---- where it is refused, the file stays
abbrev pub after-change : Record → ℕ → Settled → Record
after-change r i o = with_head o.head (if-called (eqb o.status 0) (changed_files r i o) r)

pub returned-so : (r : Record) (i : ℕ) (o : Outcome) → (eqb o.status 0 ≡ false → file_after (get_or r.files i no_file) o ≡ get_or r.files i no_file) → after-change r i (without_totals o) ≡ (returned_at r i o).after
unfolding changed_files
returned-so r i o stays = by (eqb o.status 0) refl
  where
    f : File
    f = get_or r.files i no_file

    by : (b : Bool) → eqb o.status 0 ≡ b → with_head o.head (if-called b (with_files (set r.files i (settled_file f (without_totals o))) r) r) ≡ (returned_at r i o).after
    by true e = ap (λ g. with_head o.head (with_files (set r.files i g) r)) (file-so f o)
    by false e = sym (ap (λ g. with_head o.head (with_files (set r.files i g) r)) (stays e) ∙ ap (λ fs. with_head o.head (with_files fs r)) (set-get_or r.files i no_file))

-- ---- at the place that is sought
pub sought-so : (n len c : ℕ) (s : List ℕ) (r : Record) → length r.files ≡ 64 → returned_at r (sought_in n r) (outcome_in n len c s r (get_or r.files (sought_in n r) no_file)) ≡ returned_in n len c s r
unfolding returned_in
sought-so n len c s r h = ap (λ i. returned_at r i (outcome_in n len c s r (get_or r.files i no_file))) (sought-place n r h)

pub sought-stateid : (n len c : ℕ) (s : List ℕ) (r : Record) → length r.files ≡ 64 → (outcome_in n len c s r (get_or r.files (sought_in n r) no_file)).stateid ≡ stateid_for n len c s r
unfolding stateid_for
sought-stateid n len c s r h = ap (λ i. (outcome_in n len c s r (get_or r.files i no_file)).stateid) (sought-place n r h)

-- ---- what the phase says of a decision is that decision
abbrev Phased : Head → Decision → Type 0
Phased h (Answered k) = Unit {0}
Phased h HandedOn = Unit {0}
Phased h (ReadBody len) = body_read h len ≡ ReadBody len
Phased h (ReturnBody len) = body_read h len ≡ ReturnBody len

abbrev head_of : Head → Bool → Bool → Head
head_of h o g = record { waiting = h.waiting; offered = h.offered; grace = g; old = o }

kind-phased : (h : Head) (k : Kind) (len : ℕ) (o g : Bool) → Phased (head_of h o g) (phase_of k (head_of h o g) len)
kind-phased h Anonymous len true g = tt
kind-phased h Anonymous len false true = refl
kind-phased h Anonymous len false false = tt
kind-phased h Bypass len o true = tt
kind-phased h Bypass len o false = tt
kind-phased h Invalid len o true = tt
kind-phased h Invalid len o false = tt
kind-phased h Current len o true = tt
kind-phased h Current len o false = tt
kind-phased h Ordinary len o true = tt
kind-phased h Ordinary len o false = refl

request-phased : (h : Head) (q : Request) → Phased h (decided h q)
request-phased h (request.Refused k) = tt
request-phased h request.Bulk = tt
request-phased h (request.File k len) = kind-phased h k len h.old h.grace

phased : (h : Head) (s : List ℕ) (room : ℕ) → Phased h (decision_of h s room)
unfolding decision_of
phased h s room = by (ltb room 24)
  where
    by : (b : Bool) → Phased h (cond b (Answered 28) (decided h (request_of s)))
    by true = tt
    by false = request-phased h (request_of s)

-- what is known before a file is looked up: the bytes of a body, or a status
abbrev body_in : Result ℕ ℕ → ℕ
body_in (Ok len) = len
body_in (Err k) = 0

abbrev status_in : Result ℕ ℕ → ℕ
status_in (Ok len) = 0
status_in (Err k) = k

module _ (n c : ℕ) (s d : List ℕ) (r : Record) where
  -- ---- where a file is wanted
  on-file : (x : Decision) (len : ℕ) → body_read r.head len ≡ x → x ≡ decision_of r.head s (length d) → Placed n r (place_in n r) x → returned_in n len c s r ≡ layoutreturn_of n c s d r
  unfolding returned_in
  on-file x len q e p = ap (λ y. returned_at r (place_in n r) (outcome_by n r.head c s (file_at n r) y)) q ∙ returned-at n c s d r (place_in n r) x e p

  wanted_by : (x : Decision) (len : ℕ) → x ≡ decision_of r.head s (length d) → Phased r.head x → begun_of x ≡ Ok len → returned_in n len c s r ≡ layoutreturn_of n c s d r
  wanted_by (Answered k) len e q w = true-false (sym (ap is_ok w))
  wanted_by HandedOn len e q w = true-false (sym (ap is_ok w))
  wanted_by (ReadBody m) len e q w = ap (λ k. returned_in n k c s r) (sym (ap body_in w)) ∙ on-file (ReadBody m) m q e refl
  wanted_by (ReturnBody m) len e q w = ap (λ k. returned_in n k c s r) (sym (ap body_in w)) ∙ on-file (ReturnBody m) m q e refl

  pub wanted-so : (len : ℕ) → begun_of (decision_of r.head s (length d)) ≡ Ok len → returned_in n len c s r ≡ layoutreturn_of n c s d r
  wanted-so len = wanted_by (decision_of r.head s (length d)) len refl (phased r.head s (length d))

  stateid-on : (x : Decision) (len : ℕ) → body_read r.head len ≡ x → x ≡ decision_of r.head s (length d) → Placed n r (place_in n r) x → stateid_for n len c s r ≡ stateid_by n c s r (decision_of r.head s (length d))
  unfolding stateid_for
  stateid-on x len q e p = ap (λ y. (outcome_by n r.head c s (file_at n r) y).stateid) q ∙ stateid-at n c s d r (place_in n r) x e p

  stateid-wanted-by : (x : Decision) (len : ℕ) → x ≡ decision_of r.head s (length d) → Phased r.head x → begun_of x ≡ Ok len → stateid_for n len c s r ≡ stateid_by n c s r (decision_of r.head s (length d))
  stateid-wanted-by (Answered k) len e q w = true-false (sym (ap is_ok w))
  stateid-wanted-by HandedOn len e q w = true-false (sym (ap is_ok w))
  stateid-wanted-by (ReadBody m) len e q w = ap (λ k. stateid_for n k c s r) (sym (ap body_in w)) ∙ stateid-on (ReadBody m) m q e refl
  stateid-wanted-by (ReturnBody m) len e q w = ap (λ k. stateid_for n k c s r) (sym (ap body_in w)) ∙ stateid-on (ReturnBody m) m q e refl

  pub stateid-wanted : (len : ℕ) → begun_of (decision_of r.head s (length d)) ≡ Ok len → stateid_for n len c s r ≡ stateid_by n c s r (decision_of r.head s (length d))
  stateid-wanted len = stateid-wanted-by (decision_of r.head s (length d)) len refl (phased r.head s (length d))

  -- ---- where none is
  unwanted-by : (x : Decision) (k : ℕ) → begun_of x ≡ Err k → returning k no_totals r ≡ returned_by n c s r x
  unwanted-by (Answered j) k w = ap (λ i. returning i no_totals r) (sym (ap status_in w))
  unwanted-by HandedOn k w = ap (λ i. returning i no_totals r) (sym (ap status_in w))
  unwanted-by (ReadBody len) k w = true-false (ap is_ok w)
  unwanted-by (ReturnBody len) k w = true-false (ap is_ok w)

  pub unwanted-so : (k : ℕ) → begun_of (decision_of r.head s (length d)) ≡ Err k → returning k no_totals r ≡ layoutreturn_of n c s d r
  unfolding layoutreturn_of
  unwanted-so = unwanted-by (decision_of r.head s (length d))

  pub stateid-unwanted : (x : Decision) (k : ℕ) → begun_of x ≡ Err k → no_stateid ≡ stateid_by n c s r x
  stateid-unwanted (Answered j) k w = refl
  stateid-unwanted HandedOn k w = refl
  stateid-unwanted (ReadBody len) k w = true-false (ap is_ok w)
  stateid-unwanted (ReturnBody len) k w = true-false (ap is_ok w)
