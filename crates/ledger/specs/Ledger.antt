-- DEFINITION. The ledger of a history (Rules 5.2 to 5.4): it is fed each call and its answer, and nothing that the record holds. In this order:
-- rows and the ledger; what a row says; the rules of refusal; the two lists; LAYOUTRETURN; `judge`, which answer each call must get; rows as calls
-- change them; `feed`, what an answered call does.
use Rattle.std.specs.Prelude.{List, [], ◌∷◌, ◌++◌, map, Bool, true, false, not, cond, ℕ, suc, length, eqb, leb, ltb}
use Rattle.statuses.specs.Names.{Bytes, Status, Client, FileNumber}
use Rattle.statuses.specs.Rules.{Rule, ◌⇒◌, first_of, refused}
use Rattle.xdr.specs.Reader.{zeros}
use Rattle.reports.specs.Device.{Device, halves}
use Rattle.reports.specs.Report.{DeviceError, Report, Whole, Malformed, report_of}
use Rattle.wire.specs.Request.{Request, request_of, body_of}
use Rattle.wire.specs.Reply.{reply_in, reply_in_with}
use Rattle.wire.specs.Seqid.{age_of}
use Rattle.wire.specs.Stateid.{stateid_in, stateid_bytes, new_stateid, bad_other, has_other, raised_stateid}
use Rattle.wire.specs.declared.seqid.Age.{Age}
use Rattle.wire.specs.declared.seqid.Age.TheVariants.{Same, Older, Newer}
use Rattle.wire.specs.declared.stateid.Stateid.{Stateid}
use Rattle.wire.specs.declared.request.Kind.TheVariants as kind
use Rattle.wire.specs.Request as request
use Rattle.places.specs.Lists.{any, chosen, has, with, none, amend, discard, first_or}
use Rattle.mirroring.specs.Devices.{device_of, mirrors_in, Proxy, no_proxy, proxy_at, is_there, is_copy, copy_place, bad_mirrors}
use Rattle.mirroring.specs.Totals.{totals_of, no_totals}
use Rattle.mirroring.specs.Direction.{first_by}
use Rattle.mirroring.specs.declared.totals.Totals.{Totals}
use Rattle.mirroring.specs.declared.source.Direction.{Direction}
use Rattle.files.specs.Head.{is_old}
use Rattle.files.specs.declared.head.Edition.{Edition}
use Rattle.recovery.specs.Calls.{Call, register, opening, set_up, reclaim, close, repaired, add_proxy, remove_proxy, forget, end_grace, restart, layout_return, listing, Answer, said, replied, handed_on, listed, lend}
use Rattle.recovery.specs.declared.listing.Listing.{Listing}
use Rattle.recovery.specs.declared.listing.Listing.TheVariants.{Resilver, Offered}

-- ---- rows
-- a client's layout stateid on a file (Rules 4.11): none, or an `other`, read as numbers as a device is, with the latest seqid
pub data Layout : Type 0 where
  no_layout : Layout
  held : (stateid : Stateid) → Layout

-- a client with an intent, and its layout stateid, which goes with the intent
pub record Holder : Type 0 where
  pub client : Client
  pub layout : Layout

abbrev pub holder : Client → Layout → Holder
holder c t = record { client = c; layout = t }

-- a file's number, mirrors by place from 0, the proxy beside them at place 4 (Rules 4.8), clients with an intent, clients that reclaimed, mark and blamed places
pub record Row : Type 0 where
  pub number : FileNumber
  pub mirrors : List Device
  pub proxy : Proxy
  pub intents : List Holder
  pub reclaimed : List Client
  pub marked : Bool
  pub blamed : List ℕ

-- a row with number and mirrors only
abbrev pub new_row : FileNumber → List Device → Row
new_row n ds = record { number = n; mirrors = ds; proxy = no_proxy; intents = []; reclaimed = []; marked = false; blamed = [] }

abbrev pub with_proxy : Proxy → Row → Row
with_proxy p w = record { number = w.number; mirrors = w.mirrors; proxy = p; intents = w.intents; reclaimed = w.reclaimed; marked = w.marked; blamed = w.blamed }

abbrev pub with_intents : List Holder → Row → Row
with_intents xs w = record { number = w.number; mirrors = w.mirrors; proxy = w.proxy; intents = xs; reclaimed = w.reclaimed; marked = w.marked; blamed = w.blamed }

abbrev pub with_reclaimed : List Client → Row → Row
with_reclaimed cs w = record { number = w.number; mirrors = w.mirrors; proxy = w.proxy; intents = w.intents; reclaimed = cs; marked = w.marked; blamed = w.blamed }

abbrev pub with_mark : Bool → Row → Row
with_mark b w = record { number = w.number; mirrors = w.mirrors; proxy = w.proxy; intents = w.intents; reclaimed = w.reclaimed; marked = b; blamed = w.blamed }

abbrev pub with_blame : List ℕ → Row → Row
with_blame bs w = record { number = w.number; mirrors = w.mirrors; proxy = w.proxy; intents = w.intents; reclaimed = w.reclaimed; marked = w.marked; blamed = bs }

-- the record's edition (Rules 4.3), whether in grace, and the rows, which stand by rising number
pub record Ledger : Type 0 where
  pub edition : Edition
  pub grace : Bool
  pub rows : List Row

-- without rows and not in grace; nothing changes the edition
abbrev pub no_rows : Edition → Ledger
no_rows e = record { edition = e; grace = false; rows = [] }

abbrev pub with_rows : List Row → Ledger → Ledger
with_rows ws l = record { edition = l.edition; grace = l.grace; rows = ws }

abbrev pub with_grace : Bool → Ledger → Ledger
with_grace g l = record { edition = l.edition; grace = g; rows = l.rows }

abbrev pub is_row : FileNumber → Row → Bool
is_row n w = eqb w.number n

-- registered files are those with a row
unfoldable pub registered : FileNumber → Ledger → Bool
registered n l = any (is_row n) l.rows

unfoldable pub row_of : FileNumber → Ledger → Row
row_of n l = first_or (is_row n) (new_row n []) l.rows

-- ---- what a row says
-- whether a device is one of the mirrors or the proxy, and at which place
abbrev pub names : Row → Device → Bool
names w d = is_copy d w.mirrors w.proxy

abbrev pub place_in : Row → Device → ℕ
place_in w d = copy_place d w.mirrors

abbrev pub is_stranger : Row → DeviceError → Bool
is_stranger w x = not (names w (device_of x))

-- whether a proxy is there
abbrev pub is_proxied : Row → Bool
is_proxied w = is_there w.proxy

-- whether a client has an intent, whether anybody has, and whether a client has reclaimed
abbrev pub is_holder : Client → Holder → Bool
is_holder c x = eqb x.client c

abbrev pub holds : Client → Row → Bool
holds c w = any (is_holder c) w.intents

abbrev pub is_open : Row → Bool
is_open w = not (none w.intents)

abbrev pub reclaimed_by : Client → Row → Bool
reclaimed_by c w = has c w.reclaimed

-- whether the end of grace marks the file (Rules 4.6): there is an intent whose client has not reclaimed
abbrev pub lost : Row → Bool
lost w = any (λ (x : Holder). not (reclaimed_by x.client w)) w.intents

-- a client's stateid on the file; whether there is one; whether it has the `other` of t; how the seqid of t stands to its latest; the one with the next seqid;
-- its sixteen bytes
abbrev pub layout_of : Client → Row → Layout
layout_of c w = (first_or (is_holder c) (holder c no_layout) w.intents).layout

abbrev pub is_held : Layout → Bool
is_held no_layout = false
is_held (held u) = true

abbrev pub is_other : Stateid → Layout → Bool
is_other t no_layout = false
is_other t (held u) = has_other t u

abbrev pub age_in : Stateid → Layout → Age
age_in t no_layout = Newer
age_in t (held u) = age_of u.seqid t.seqid

abbrev pub raised_layout : Layout → Layout
raised_layout no_layout = no_layout
raised_layout (held u) = held (raised_stateid u)

abbrev pub layout_bytes : Layout → Bytes
layout_bytes no_layout = zeros 16
layout_bytes (held u) = stateid_bytes u

abbrev pub is_older : Age → Bool
is_older Same = false
is_older Older = true
is_older Newer = false

abbrev pub is_newer : Age → Bool
is_newer Same = false
is_newer Older = false
is_newer Newer = true

-- whether one of a file's clients has the `other` of t, and whether any file's has
abbrev pub uses : Stateid → Row → Bool
uses t w = any (λ (x : Holder). is_other t x.layout) w.intents

unfoldable pub in_use : Stateid → Ledger → Bool
in_use t l = any (uses t) l.rows

-- the places not blamed, if the list's first is k
unfoldable pub unblamed_from : ℕ → List Device → List ℕ → List ℕ
unblamed_from k [] bs = []
unblamed_from k (d ∷ ds) bs = cond (has k bs) (unblamed_from (suc k) ds bs) (k ∷ unblamed_from (suc k) ds bs)

-- the first of them by the direction that is asked for, or 255 (02, Ticket 11); the proxy is none of the mirrors, so it is never the source (Rules 5.7)
abbrev pub source : Direction → Row → ℕ
source d w = first_by d (unblamed_from 0 w.mirrors w.blamed)

-- ---- the rules of refusal, of which the first that applies decides
-- what each call says of the row of its file; g is whether in grace
abbrev pub open_rules : Client → Row → List (Rule Status)
open_rules c w = holds c w ⇒ 0 ∷ leb 8 (length w.intents) ⇒ 28 ∷ []

abbrev pub intent_rules : Client → Row → List (Rule Status)
intent_rules c w = not (holds c w) ⇒ 10034 ∷ []

abbrev pub close_rules : Bool → Client → Row → List (Rule Status)
close_rules g c w = not (holds c w) ⇒ 10025 ∷ cond g (not (reclaimed_by c w)) false ⇒ 10025 ∷ []

abbrev pub repaired_rules : Row → List (Rule Status)
repaired_rules w = not w.marked ⇒ 22 ∷ is_open w ⇒ 10008 ∷ []

-- a proxy is added, s being its device, or removed (Rules 4.9, 4.10)
abbrev pub add_proxy_rules : Bytes → Row → List (Rule Status)
add_proxy_rules s w = not (eqb (length s) 16) ⇒ 22 ∷ names w (halves s) ⇒ 22 ∷ is_proxied w ⇒ 17 ∷ []

abbrev pub remove_proxy_rules : Row → List (Rule Status)
remove_proxy_rules w = not (is_proxied w) ⇒ 2 ∷ []

-- a client's stateid is set up, s being its `other` (Rules 4.12)
abbrev pub set_up_rules : Ledger → Client → Bytes → Row → List (Rule Status)
set_up_rules l c s w = not (holds c w) ⇒ 10025 ∷ is_held (layout_of c w) ⇒ 17 ∷ bad_other s ⇒ 22 ∷ in_use (new_stateid s) l ⇒ 22 ∷ []

-- step 4 of a return with the ordinary stateid t (Rules 3.15): the client holds no such `other` on the file, or the seqid is newer; older
abbrev pub stateid_rules : Client → Stateid → Row → List (Rule Status)
stateid_rules c t w =
    not (is_other t (layout_of c w)) ⇒ 10025
    ∷ is_newer (age_in t (layout_of c w)) ⇒ 10025
    ∷ is_older (age_in t (layout_of c w)) ⇒ 10024
    ∷ []

abbrev pub forget_rules : Row → List (Rule Status)
forget_rules w = w.marked ⇒ 10008 ∷ is_open w ⇒ 10008 ∷ []

-- ---- the two lists, by rising number
-- whether a file is on a list: it needs repair while its row has the mark; offered for copying are those of them with no intent
abbrev pub is_on : Listing → Row → Bool
is_on Resilver w = w.marked
is_on Offered w = cond w.marked (not (is_open w)) false

abbrev pub rows_on : Listing → Ledger → List Row
rows_on k l = chosen (is_on k) l.rows

abbrev pub numbers : List Row → List FileNumber
numbers ws = map (λ w. w.number) ws

abbrev pub sources : Direction → List Row → List ℕ
sources d ws = map (source d) ws

abbrev pub list_of : Direction → List Row → List FileNumber → List ℕ → Answer
list_of d ws a b = lend (numbers ws) (sources d ws) a b

-- ---- LAYOUTRETURN
-- the totals of a report, by mirror and for the proxy (Rules 3.11); none if a named device is neither
abbrev pub row_totals : Report → Row → Totals
row_totals Malformed w = no_totals
row_totals (Whole xs ys) w = cond (any (is_stranger w) xs) no_totals (totals_of ys w.mirrors w.proxy)

-- an old record reads a report for its form alone
abbrev pub totals_in : Edition → Report → Row → Totals
totals_in e p w = cond (is_old e) no_totals (row_totals p w)

-- an answer with a reply; only with status 0 does it have totals, and a stateid, whose sixteen bytes are o
abbrev pub refusal : Status → Bytes → Answer
refusal s d = replied s no_totals (reply_in s d)

abbrev pub reply : Status → Totals → Bytes → Bytes → Answer
reply s t o d = replied s (cond (eqb s 0) t no_totals) (reply_in_with s o d)

-- step 5
abbrev pub body_rules : Report → List (Rule Status)
body_rules Malformed = true ⇒ 10036 ∷ []
body_rules (Whole xs ys) = []

-- steps 5 and 6
abbrev pub report_rules : Ledger → FileNumber → Client → Report → List (Rule Status)
report_rules l n c p = body_rules p ++ not (registered n l) ⇒ 70 ∷ intent_rules c (row_of n l)

-- steps 4 and 5 of a return with an ordinary stateid, out of grace (Rules 3.15)
abbrev pub return_rules : Ledger → FileNumber → Client → Stateid → Report → List (Rule Status)
return_rules l n c t p = not (registered n l) ⇒ 70 ∷ stateid_rules c t (row_of n l) ++ body_rules p

-- steps 1 to 6 (Rules 3.7): s is the request, d the reply buffer. Step 4, by the kind of stateid (02, Tickets 1, 6 and 13): the anonymous one gets 10025 from a record set up
-- as old, and 10033 if not in grace; in grace any other gets 10013; out of it read bypass and an invalid one get 10025, the current one is handed on, and an
-- ordinary one is judged by the client's on the file, and the reply of one that is accepted has it with the next seqid
abbrev pub judge_request : Ledger → FileNumber → Client → Bytes → Bytes → Request → Answer
judge_request l n c s d (request.Refused k) = refusal k d
judge_request l n c s d request.Bulk = handed_on no_totals d
judge_request l n c s d (request.File kind.Anonymous k) =
    reply (refused (is_old l.edition ⇒ 10025 ∷ not l.grace ⇒ 10033 ∷ report_rules l n c (report_of (body_of s)))) (row_totals (report_of (body_of s)) (row_of n l)) (zeros 16) d
judge_request l n c s d (request.File kind.Bypass k) = first_of (l.grace ⇒ refusal 10013 d ∷ []) (refusal 10025 d)
judge_request l n c s d (request.File kind.Invalid k) = first_of (l.grace ⇒ refusal 10013 d ∷ []) (refusal 10025 d)
judge_request l n c s d (request.File kind.Current k) = first_of (l.grace ⇒ refusal 10013 d ∷ []) (handed_on no_totals d)
judge_request l n c s d (request.File kind.Ordinary k) =
    first_of (l.grace ⇒ refusal 10013 d ∷ [])
    (reply (refused (return_rules l n c (stateid_in s) (report_of (body_of s)))) (totals_in l.edition (report_of (body_of s)) (row_of n l)) (layout_bytes (raised_layout (layout_of c (row_of n l)))) d)

-- ---- what the ledger before a call says that it is answered
unfoldable pub judge : Ledger → Call → Answer
judge l (register n s) = said (refused (l.grace ⇒ 10013 ∷ bad_mirrors s ⇒ 22 ∷ registered n l ⇒ 17 ∷ leb 64 (length l.rows) ⇒ 28 ∷ []))
judge l (opening n c) = said (refused (l.grace ⇒ 10013 ∷ not (registered n l) ⇒ 70 ∷ open_rules c (row_of n l)))
judge l (set_up n c s) = said (refused (l.grace ⇒ 10013 ∷ not (registered n l) ⇒ 70 ∷ set_up_rules l c s (row_of n l)))
judge l (reclaim n c) = said (refused (not l.grace ⇒ 10033 ∷ not (registered n l) ⇒ 70 ∷ intent_rules c (row_of n l)))
judge l (close n c) = said (refused (not (registered n l) ⇒ 70 ∷ close_rules l.grace c (row_of n l)))
judge l (repaired n) = said (refused (not (registered n l) ⇒ 70 ∷ repaired_rules (row_of n l)))
judge l (add_proxy n s) = said (refused (l.grace ⇒ 10013 ∷ not (registered n l) ⇒ 70 ∷ add_proxy_rules s (row_of n l)))
judge l (remove_proxy n) = said (refused (l.grace ⇒ 10013 ∷ not (registered n l) ⇒ 70 ∷ remove_proxy_rules (row_of n l)))
judge l (forget n) = said (refused (l.grace ⇒ 10013 ∷ not (registered n l) ⇒ 70 ∷ forget_rules (row_of n l)))
judge l end_grace = said (refused (not l.grace ⇒ 10033 ∷ []))
judge l restart = said 0
judge l (layout_return n c s d) = first_of (ltb (length d) 24 ⇒ replied 28 no_totals d ∷ []) (judge_request l n c s d (request_of s))
judge l (listing k e a b) = list_of e (rows_on k l) a b

-- ---- rows as calls change them
abbrev pub opened : Client → Row → Row
opened c w = with_intents (cond (holds c w) w.intents (w.intents ++ holder c no_layout ∷ [])) w

-- the client's intent gets the layout stateid t
abbrev pub stated : Client → Layout → Row → Row
stated c t w = with_intents (map (λ x. cond (is_holder c x) (holder c t) x) w.intents) w

abbrev pub is_set_up : Client → Bytes → Row → Row
is_set_up c s w = stated c (held (new_stateid s)) w

-- an accepted return with an ordinary stateid raises the client's seqid
abbrev pub is_ordinary : Request → Bool
is_ordinary (request.Refused k) = false
is_ordinary request.Bulk = false
is_ordinary (request.File kind.Anonymous k) = false
is_ordinary (request.File kind.Bypass k) = false
is_ordinary (request.File kind.Invalid k) = false
is_ordinary (request.File kind.Current k) = false
is_ordinary (request.File kind.Ordinary k) = true

abbrev pub raised_by : Request → Client → Row → Row
raised_by q c w = with_intents (cond (is_ordinary q) (stated c (raised_layout (layout_of c w)) w).intents w.intents) w

abbrev pub has_reclaimed : Client → Row → Row
has_reclaimed c w = with_reclaimed (with c w.reclaimed) w

abbrev pub closed : Client → Row → Row
closed c w = with_intents (discard (is_holder c) w.intents) w

abbrev pub mended : Row → Row
mended w = with_mark false (with_blame [] w)

-- the proxy is added; it goes, and its blame with it (Rules 4.9, 4.10)
abbrev pub proxy_added : Bytes → Row → Row
proxy_added s w = with_proxy (proxy_at (halves s)) w

abbrev pub proxy_removed : Row → Row
proxy_removed w = with_proxy no_proxy (with_blame (chosen (λ i. not (eqb i 4)) w.blamed) w)

-- nobody has reclaimed, and nobody has a stateid
abbrev pub restarted : Row → Row
restarted w = with_reclaimed [] (with_intents (map (λ (x : Holder). holder x.client no_layout) w.intents) w)

-- the mark first, then the intent of each client that has not reclaimed is dropped
abbrev pub ended : Row → Row
ended w = with_mark (cond (lost w) true w.marked) (with_intents (chosen (λ (x : Holder). reclaimed_by x.client w) w.intents) w)

-- step 7 (Rules 3.8): a device with a status other than 0 is blamed
abbrev pub is_fault : DeviceError → Bool
is_fault x = not (eqb x.status 0)

unfoldable pub blame : Row → List DeviceError → List ℕ → List ℕ
blame w [] bs = bs
blame w (x ∷ xs) bs = blame w xs (cond (is_fault x) (with (place_in w (device_of x)) bs) bs)

-- an old record takes no report; else, if a named device is neither a mirror nor the proxy, the file is marked and nobody blamed; else each fault is blamed, and one such marks
abbrev pub reported : Edition → List DeviceError → Row → Row
reported e xs w =
    cond (is_old e) w
    (cond (any (is_stranger w) xs) (with_mark true w)
    (cond (any is_fault xs) (with_mark true (with_blame (blame w xs w.blamed) w)) w))

-- the device errors of an accepted request
abbrev pub errors_of : Report → List DeviceError
errors_of Malformed = []
errors_of (Whole xs ys) = xs

-- a row among others, before the first that is greater
unfoldable pub insert : Row → List Row → List Row
insert w [] = w ∷ []
insert w (v ∷ vs) = cond (leb v.number w.number) (v ∷ insert w vs) (w ∷ v ∷ vs)

abbrev pub on_row : Ledger → FileNumber → (Row → Row) → Ledger
on_row l n g = with_rows (amend (is_row n) g l.rows) l

-- ---- what an accepted call does
unfoldable pub apply : Ledger → Call → Ledger
apply l (register n s) = with_rows (insert (new_row n (mirrors_in s)) l.rows) l
apply l (opening n c) = on_row l n (opened c)
apply l (set_up n c s) = on_row l n (is_set_up c s)
apply l (reclaim n c) = on_row l n (has_reclaimed c)
apply l (close n c) = on_row l n (closed c)
apply l (repaired n) = on_row l n mended
apply l (add_proxy n s) = on_row l n (proxy_added s)
apply l (remove_proxy n) = on_row l n proxy_removed
apply l (forget n) = with_rows (discard (is_row n) l.rows) l
apply l end_grace = with_grace false (with_rows (map ended l.rows) l)
apply l restart = with_grace true (with_rows (map restarted l.rows) l)
apply l (layout_return n c s d) = on_row l n (λ w. raised_by (request_of s) c (reported l.edition (errors_of (report_of (body_of s))) w))
apply l (listing k e a b) = l

-- a call that is refused or handed on, and a listing, change nothing
abbrev pub accepted : Answer → Bool
accepted (said s) = eqb s 0
accepted (replied s t d) = eqb s 0
accepted (handed_on t d) = false
accepted (listed s n a b) = false

unfoldable pub feed : Ledger → Call → Answer → Ledger
feed l x a = cond (accepted a) (apply l x) l
