-- Where a body is read, the part of the length that was decided is the body of the request.
use mathlib.Core.Path.{◌≡◌, refl}
use mathlib.Core.Bool.{Bool, true, false, cond}
use Prim.Native.Nat.{ℕ}
use lib.Dec.{ltb}
use Rattle.statuses.specs.Names.{Bytes}
use Rattle.wire.specs.Request.{Request, request_of, part_of, body_of}
use Rattle.wire.specs.declared.request.Kind.{Kind}
use Rattle.wire.specs.declared.request.Kind.TheVariants.{Anonymous, Bypass, Current, Invalid, Ordinary}
use Rattle.wire.specs.Request as request
use Rattle.wire.proofs.Requests.{body-part}
use Rattle.files.specs.declared.head.Head.{Head}
use Rattle.layoutreturn.specs.LayoutReturn.{phase_of, decided, decision_of, Decision, Answered, HandedOn, ReadBody, ReturnBody}

-- the length that a decision reads, if it reads one
abbrev Reads : Bytes → Decision → Type 0
Reads s (Answered k) = Unit {0}
Reads s HandedOn = Unit {0}
Reads s (ReadBody len) = part_of len s ≡ body_of s
Reads s (ReturnBody len) = part_of len s ≡ body_of s

phase-reads : (s : Bytes) (len : ℕ) → part_of len s ≡ body_of s → (h : Head) (k : Kind) (o g : Bool) → Reads s (phase_of k (record { waiting = h.waiting; offered = h.offered; grace = g; old = o }) len)
phase-reads s len e h Anonymous true g = tt
phase-reads s len e h Anonymous false true = e
phase-reads s len e h Anonymous false false = tt
phase-reads s len e h Bypass o true = tt
phase-reads s len e h Bypass o false = tt
phase-reads s len e h Invalid o true = tt
phase-reads s len e h Invalid o false = tt
phase-reads s len e h Current o true = tt
phase-reads s len e h Current o false = tt
phase-reads s len e h Ordinary o true = tt
phase-reads s len e h Ordinary o false = e

request-reads : (s : Bytes) (h : Head) (q : Request) → request_of s ≡ q → Reads s (decided h q)
request-reads s h (request.Refused k) e = tt
request-reads s h request.Bulk e = tt
request-reads s h (request.File a n) e = phase-reads s n (body-part s e) h a h.old h.grace

reads : (s : Bytes) (h : Head) (room : ℕ) → Reads s (decision_of h s room)
unfolding decision_of
reads s h room = by (ltb room 24)
  where
    by : (b : Bool) → Reads s (cond b (Answered 28) (decided h (request_of s)))
    by true = tt
    by false = request-reads s h (request_of s) refl

pub body-decided : (s : Bytes) (h : Head) (room : ℕ) {len : ℕ} → decision_of h s room ≡ ReadBody len → part_of len s ≡ body_of s
body-decided s h room e = rw e at (reads s h room)

pub return-decided : (s : Bytes) (h : Head) (room : ℕ) {len : ℕ} → decision_of h s room ≡ ReturnBody len → part_of len s ≡ body_of s
return-decided s h room e = rw e at (reads s h room)
