-- How a record and a ledger go together, and what it is for an answer to agree with the ledger's. In this order: a file's intents; a file; the relation;
-- a file with one field changed; agreement.
use Rattle.recovery.specs.Record.{Answered}
use Rattle.files.specs.File.{FileAnswered}
use mathlib.Core.Path.{◌≡◌, refl}
use mathlib.Core.List.{List}
use mathlib.Core.Bool.{Bool, true, false, cond}
use Prim.Native.Nat.{ℕ}
use lib.ListN.{length}
use lib.Dec.{eqb}
use Rattle.places.specs.Lists.{has, Rising}
use Rattle.files.specs.Head.{is_old}
use Rattle.files.specs.File as file
use Rattle.intents.specs.Intents.{is_stated}
use Rattle.intents.specs.declared.Intent.{Intent}
use Rattle.wire.specs.declared.stateid.Stateid.{Stateid}
use Rattle.mirroring.specs.Devices.{Proxy}
use Rattle.mirroring.specs.declared.mirrors.Mirror.{Mirror}
use Rattle.files.specs.declared.file.File.{File}
use Rattle.files.specs.declared.head.Head.{Head}
use Rattle.places.proofs.Slots.{Slots}
use Rattle.mirroring.proofs.Copies.{Copies}
use Rattle.ledger.specs.Ledger.{Layout, no_layout, held, Holder, Row, Ledger, numbers, with_proxy, with_intents, with_mark, with_blame}
use Rattle.recovery.specs.declared.record.Record.{Record}

-- ---- a place's stateid and a client's: a seqid of 0 is none
pub data LayoutIs (t : Stateid) : Layout → Type 0 where
  no-stateid : is_stated t ≡ false → LayoutIs t no_layout
  its-stateid : {u : Stateid} → t ≡ u → is_stated u ≡ true → LayoutIs t (held u)

-- ---- a file's intents and a row's holders; g: in grace. Only there does a place say whether its client has reclaimed, and there nobody has a stateid
pub record IntentIs (g : Bool) (rs : List ℕ) (x : Intent) (h : Holder) : Type 0 where
  pub taken : x.taken ≡ true
  pub client : x.client ≡ h.client
  pub reclaimed : g ≡ true → x.reclaimed ≡ has h.client rs
  pub stateid : LayoutIs x.stateid h.layout
  pub bare : g ≡ true → h.layout ≡ no_layout

abbrev pub NoIntent : Intent → Type 0
NoIntent x = x.taken ≡ false

pub record Intents (g : Bool) (rs : List ℕ) (xs : List Intent) (hs : List Holder) : Type 0 where
  pub places : Slots (IntentIs g rs) NoIntent xs hs
  pub eight : length xs ≡ 8

-- ---- a file and a row
pub record FileIs (g : Bool) (f : File) (w : Row) : Type 0 where
  pub used : f.used ≡ true
  pub number : f.number ≡ w.number
  pub copies : Copies f.mirrors w.mirrors w.proxy w.blamed
  pub intents : Intents g w.reclaimed f.intents w.intents
  pub marked : f.marked ≡ w.marked

abbrev pub NoFile : File → Type 0
NoFile f = f.used ≡ false

-- ---- THE RELATION
pub record Matches (r : Record) (l : Ledger) : Type 0 where
  pub old : r.head.old ≡ is_old l.edition
  pub grace : r.head.grace ≡ l.grace
  pub long : length r.files ≡ 64
  pub rows : Slots (FileIs l.grace) NoFile r.files l.rows
  pub rising : Rising (numbers l.rows)

-- ---- one field changed
module _ {g : Bool} {f : File} {w : Row} (h : FileIs g f w) where
  pub with-intents : {xs : List Intent} {hs : List Holder} → Intents g w.reclaimed xs hs → FileIs g (file.with_intents xs f) (with_intents hs w)
  with-intents s = record { used = h.used; number = h.number; copies = h.copies; intents = s; marked = h.marked }

  pub with-mark : {a b : Bool} → a ≡ b → FileIs g (file.with_mark a f) (with_mark b w)
  with-mark e = record { used = h.used; number = h.number; copies = h.copies; intents = h.intents; marked = e }

  pub with-copies : {ms : List Mirror} {bs : List ℕ} → Copies ms w.mirrors w.proxy bs → FileIs g (file.with_mirrors ms f) (with_blame bs w)
  with-copies s = record { used = h.used; number = h.number; copies = s; intents = h.intents; marked = h.marked }

  pub with-proxy : {ms : List Mirror} {p : Proxy} {bs : List ℕ} → Copies ms w.mirrors p bs → FileIs g (file.with_mirrors ms f) (with_proxy p (with_blame bs w))
  with-proxy s = record { used = h.used; number = h.number; copies = s; intents = h.intents; marked = h.marked }

-- ---- an answer agrees: the status is t, and what is left goes with l' where t is 0 and with l otherwise
pub record Agrees {X S L : Type 0} (M : S → L → Type 0) (st : X → ℕ) (af : X → S) (x : X) (l l' : L) (t : ℕ) : Type 0 where
  pub same : st x ≡ t
  pub kept : M (af x) (cond (eqb t 0) l' l)

-- a test of the code that says what a test of the ledger says
pub branch : {X S L : Type 0} {M : S → L → Type 0} {st : X → ℕ} {af : X → S} {x y : X} {l l' : L} {s t : ℕ} {b : Bool} (b' : Bool) → b ≡ b'
    → (b' ≡ true → Agrees M st af x l l' s) → (b' ≡ false → Agrees M st af y l l' t) → Agrees M st af (cond b x y) l l' (cond b' s t)
branch true e h k = rw e (h refl)
branch false e h k = rw e (k refl)

-- the file goes with the row, and phase and edition are as they were
abbrev pub phase_in : Head → Bool × Bool
phase_in d = (d.grace, d.old)

pub record FileKept (d : Head) (g : Bool) (a : FileAnswered) (w : Row) : Type 0 where
  pub head : phase_in a.head ≡ phase_in d
  pub file : FileIs g a.file w

abbrev pub FileAgrees : Head → Bool → FileAnswered → Row → Row → ℕ → Type 0
FileAgrees d g a w w' t = Agrees (FileKept d g) (λ (a : FileAnswered). a.status) (λ (a : FileAnswered). a) a w w' t

abbrev pub RecordAgrees : Answered → Ledger → Ledger → ℕ → Type 0
RecordAgrees a l l' t = Agrees Matches (λ (a : Answered). a.status) (λ (a : Answered). a.after) a l l' t
