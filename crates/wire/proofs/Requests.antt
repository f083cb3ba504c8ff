-- What the code's tests say of a request. In order: step 1 for return type 1; a form fits the bytes; steps 1 to 3;
-- refusals are not 0; where the body lies.
use Rattle.std.proofs.Common.{Option, Some, None, Err, ◌≡◌, ℕ, ◌+◌, ◌-◌, ◌<◌, ◌≤◌, Bool, true, false, cond, ◌&&◌, eqb, ltb, leb, List, [], length, get_or, take, drop, sym, refl, ap, ◌∙◌, arith, length-drop, take_all, ltb-false, le-ltb, lt-ltb, eq-eqb, ne_eqb}
use borrow.Author.Tests.{eqb-false}
use Rattle.statuses.specs.Numbers.{number, code}
use Rattle.statuses.specs.declared.Status.{Status}
use Rattle.statuses.specs.declared.Status.TheVariants as status
use Rattle.std.specs.Bool.{then_some}
use Rattle.std.specs.Option.{ok_or}
use Rattle.std.specs.Cmp.Lexicographic.{pointwise}
use Rattle.xdr.specs.Be.{be_nat}
use Rattle.xdr.specs.Reader.{same_bytes, zeros, padding, Got}
use Rattle.wire.specs.Stateid.{stateid_in}
use Rattle.wire.specs.Request.{Request, Refused, Bulk, File, Arguments, of_file, refusal_of, unless, arguments, request_of, part_of, body_of}
use Rattle.wire.specs.RequestSteps.{file_as, form_as, file_form, form_of, kind_in, kind_of_numbers, judged_in, answer_in, request_in}
use Rattle.wire.specs.Form.{Form}
use Rattle.wire.specs.Form as form
use Rattle.wire.specs.declared.request.Form as declared
use Rattle.wire.specs.declared.request.Form.TheVariants as laid
use Rattle.wire.specs.declared.request.Kind.{Kind}
use Rattle.wire.specs.declared.stateid.Stateid.{Stateid}
use Rattle.xdr.proofs.Readers.{by-test}
use Rattle.xdr.proofs.Bytes.{first-zeros}
use Rattle.wire.proofs.Bytes.{as_same}
use Rattle.wire.proofs.Stateids.{by-numbers}
use Rattle.wire.proofs.RequestModel.{as-tested, body-lies}

-- ---- step 1, return type 1

-- the part of a slice from a place on
from_on : (k : ℕ) (s : List ℕ) → take (length s - k) (drop k s) ≡ drop k s
from_on k s = take_all (length s - k) (drop k s) (rw length-drop (omega arith))

module _ (s : List ℕ) where
  module _ (h : 52 ≤ length s) {n : ℕ} (e : n ≡ be_nat 4 (drop 48 s)) where
    file-padded : n ≤ 4096 → 52 + n ≤ length s → file_form s ≡ cond (same_bytes (drop (52 + n) s) (zeros (padding n))) (form.File n) form.Malformed
    unfolding file_form
    file-padded k l = simp (← e, le-ltb (length s) 52 h, le-ltb 4096 n k, le-ltb (length s) (52 + n) l)

    -- the padding is compared, and the length is answered where it is as it should be
    module _ (k : n ≤ 4096) (l : 52 + n ≤ length s) {m : ℕ} (q : m ≡ padding n) {p : List ℕ} (w : p ≡ take (length s - (52 + n)) (drop (52 + n) s)) {t : Bool} (r : t ≡ pointwise eqb p (take m (zeros 4))) where
      padded : t ≡ same_bytes (drop (52 + n) s) (zeros (padding n))
      padded =
          let z : take m (zeros 4) ≡ zeros (padding n) = first-zeros m (omega (arith, q)) ∙ ap zeros q in
          r ∙ as_same p (take m (zeros 4)) ∙ rw (w, z, from_on (52 + n) s)

      answered-if : (b : Bool) → file_as (then_some b n) ≡ cond b (form.File n) form.Malformed
      answered-if true = refl
      answered-if false = refl

      pub file-answered : file_as (then_some t n) ≡ file_form s
      file-answered = answered-if t ∙ ap (λ (b : Bool). cond b (form.File n) form.Malformed) padded ∙ sym (file-padded k l)

-- ---- a form fits the bytes
pub record Fits (s : List ℕ) (n : ℕ) : Type 0 where
  pub limit : n ≤ 4096
  pub within : 52 + n ≤ length s

abbrev Laid : List ℕ → Form → Type 0
Laid s form.Malformed = Unit
Laid s form.Bulk = 16 ≤ length s
Laid s (form.File n) = Fits s n

file-laid : (s : List ℕ) → Laid s (file_form s)
unfolding file_form
file-laid s =
    by-test (Laid s) (ltb (length s) 52) _ _ (λ _. tt)
    (λ _. by-test (Laid s) (ltb 4096 (be_nat 4 (drop 48 s))) _ _ (λ _. tt)
    (λ h. by-test (Laid s) (ltb (length s) (52 + be_nat 4 (drop 48 s))) _ _ (λ _. tt)
    (λ k. by-test (Laid s) (same_bytes (drop (52 + be_nat 4 (drop 48 s)) s) (zeros (padding (be_nat 4 (drop 48 s))))) (form.File (be_nat 4 (drop 48 s))) form.Malformed
    (λ _. record { limit = ltb-false 4096 (be_nat 4 (drop 48 s)) h; within = ltb-false (length s) (52 + be_nat 4 (drop 48 s)) k }) (λ _. tt))))

form-laid : (s : List ℕ) → Laid s (form_of s)
unfolding form_of
form-laid s =
    by-test (Laid s) (ltb (length s) 16) _ _ (λ _. tt)
    (λ h. by-test (Laid s) (ltb 1 (be_nat 4 s)) _ _ (λ _. tt)
    (λ _. by-test (Laid s) (eqb (be_nat 4 (drop 12 s)) 1) _ _ (λ _. file-laid s)
    (λ _. by-test (Laid s) (leb 2 (be_nat 4 (drop 12 s)) && leb (be_nat 4 (drop 12 s)) 3) _ _
    (λ _. by-test (Laid s) (eqb (length s) 16) form.Bulk form.Malformed (λ _. ltb-false (length s) 16 h) (λ _. tt)) (λ _. tt))))

pub file-fits : (s : List ℕ) {n : ℕ} → form_of s ≡ form.File n → Fits s n
file-fits s e = rw e at (form-laid s)

-- what has a form has the numbers of step 2
pub numbers-fit : (s : List ℕ) (f : declared.Form) → form_as (Some f) ≡ form_of s → 16 ≤ length s
numbers-fit s laid.Bulk e = rw (sym e) at (form-laid s)
numbers-fit s (laid.File n) e =
    let h : Fits s n = file-fits s (sym e) in
    omega (arith, h.within)

-- ---- steps 1 to 3
never-0 : (e : Status) → number e ≡ 0 → ⊥
never-0 status.NoEnt z = omega arith
never-0 status.Exist z = omega arith
never-0 status.Inval z = omega arith
never-0 status.NoSpc z = omega arith
never-0 status.Stale z = omega arith
never-0 status.Delay z = omega arith
never-0 status.Grace z = omega arith
never-0 status.OldStateid z = omega arith
never-0 status.BadStateid z = omega arith
never-0 status.NoGrace z = omega arith
never-0 status.ReclaimBad z = omega arith
never-0 status.BadXdr z = omega arith
never-0 status.BadIomode z = omega arith
never-0 status.UnknownLayoutType z = omega arith

module _ (s : List ℕ) where
  pub read-malformed : (o : Option declared.Form) → form_as o ≡ form_of s → o ≡ None → (e : Status) → Err e ≡ ok_or o status.BadXdr → Refused (number e) ≡ request_of s
  unfolding request_in
  read-malformed o q n e k =
      let malformed : form_of s ≡ form.Malformed = sym q ∙ ap form_as n in
      let is : number e ≡ 10036 = ap code k ∙ ap (λ (x : Option declared.Form). code (ok_or x status.BadXdr)) n in
      ap Refused is ∙ rw (as-tested s, malformed)

  module _ {layout iomode : ℕ} (l : layout ≡ be_nat 4 (drop 4 s)) (i : iomode ≡ be_nat 4 (drop 8 s)) where
    module _ (k : ℕ) (r : Request) (e : k ≡ refusal_of layout iomode) where
      number_is : refusal_of (be_nat 4 (drop 4 s)) (be_nat 4 (drop 8 s)) ≡ k
      number_is = cc

      passes : k ≡ 0 → r ≡ judged_in s r
      unfolding judged_in unless
      passes z = simp (number_is, eq-eqb k 0 z)

      refuses : (k ≡ 0 → ⊥) → Refused k ≡ judged_in s r
      unfolding judged_in unless
      refuses z = simp (number_is, ne_eqb k 0 z)

    pub read-refused : (f : declared.Form) → form_as (Some f) ≡ form_of s → (e : Status) → number e ≡ refusal_of layout iomode → Refused (number e) ≡ request_of s
    unfolding request_in
    read-refused laid.Bulk q e k = rw (as-tested s, sym q) (refuses (number e) Bulk k (never-0 e))
    read-refused (laid.File n) q e k = rw (as-tested s, sym q) (refuses (number e) (File (kind_in s) n) k (never-0 e))

    pub read-bulk : form.Bulk ≡ form_of s → 0 ≡ refusal_of layout iomode → Bulk ≡ request_of s
    unfolding request_in
    read-bulk q k = rw (as-tested s, sym q) (passes 0 Bulk k refl)

    -- with the kind by the numbers of its stateid
    pub read-file : {n : ℕ} → form.File n ≡ form_of s → 0 ≡ refusal_of layout iomode → ((k : ℕ) → get_or s k 0 < 256) → {t : Stateid} → t ≡ stateid_in s → {a : Kind} → a ≡ kind_of_numbers t → File a n ≡ request_of s
    unfolding request_in kind_in
    read-file {n} q k b p g =
        let h : Fits s n = file-fits s (sym q) in
        ap (λ (x : Kind). File x n) (g ∙ ap kind_of_numbers p ∙ by-numbers s (omega (arith, h.within)) b) ∙ rw (as-tested s, sym q) (passes 0 (File (kind_in s) n) k refl)

-- what holds of 10036 and of every number of step 2 holds of a refusal's number
module _ (P : ℕ → Type 0) (malformed : P 10036) (refusal : (layout iomode : ℕ) → (refusal_of layout iomode ≡ 0 → ⊥) → P (refusal_of layout iomode)) where
  abbrev Refuses : Request → Type 0
  Refuses (Refused k) = P k
  Refuses Bulk = Unit
  Refuses (File a n) = Unit

  judged-refuses : (s : List ℕ) (r : Request) → Refuses r → Refuses (judged_in s r)
  unfolding judged_in unless
  judged-refuses s r h =
      by-test Refuses (eqb (refusal_of (be_nat 4 (drop 4 s)) (be_nat 4 (drop 8 s))) 0) r (Refused (refusal_of (be_nat 4 (drop 4 s)) (be_nat 4 (drop 8 s)))) (λ _. h)
      (λ z. refusal (be_nat 4 (drop 4 s)) (be_nat 4 (drop 8 s)) (eqb-false (refusal_of (be_nat 4 (drop 4 s)) (be_nat 4 (drop 8 s))) 0 z))

  form-refuses : (s : List ℕ) (f : Form) → Refuses (answer_in s f)
  form-refuses s form.Malformed = malformed
  form-refuses s form.Bulk = judged-refuses s Bulk tt
  form-refuses s (form.File n) = judged-refuses s (File (kind_in s) n) tt

  of-refused : (s : List ℕ) {k : ℕ} → request_of s ≡ Refused k → P k
  unfolding request_in
  of-refused s e = rw (sym (as-tested s) ∙ e) at (form-refuses s (form_of s))

-- it is never 0
pub refused-number : (s : List ℕ) {k : ℕ} → request_of s ≡ Refused k → k ≡ 0 → ⊥
refused-number s e = of-refused (λ k. k ≡ 0 → ⊥) (λ z. omega arith) (λ layout iomode z. z) s e

-- and it is a small number, so not one that stands for something else
pub cond_below : (b : Bool) (n s t : ℕ) → s < n → t < n → cond b s t < n
cond_below true n s t h k = h
cond_below false n s t h k = k

refusal-small : (layout iomode : ℕ) → refusal_of layout iomode < 20000
unfolding refusal_of
refusal-small layout iomode =
    cond_below (eqb layout 4) 20000 (cond (leb 1 iomode && leb iomode 3) 0 10049) 10062 (cond_below (leb 1 iomode && leb iomode 3) 20000 0 10049 (omega arith) (omega arith)) (omega arith)

pub refused-small : (s : List ℕ) {k : ℕ} → request_of s ≡ Refused k → k < 20000
refused-small s e = of-refused (λ k. k < 20000) (omega arith) (λ layout iomode _. refusal-small layout iomode) s e

-- ---- the body
abbrev Lent : List ℕ → Request → Type 0
Lent s (Refused k) = Unit
Lent s Bulk = Unit
Lent s (File a n) = Fits s n

judged-lent : (s : List ℕ) (r : Request) → Lent s r → Lent s (judged_in s r)
unfolding judged_in unless
judged-lent s r h =
    by-test (Lent s) (eqb (refusal_of (be_nat 4 (drop 4 s)) (be_nat 4 (drop 8 s))) 0) r (Refused (refusal_of (be_nat 4 (drop 4 s)) (be_nat 4 (drop 8 s)))) (λ _. h) (λ _. tt)

lent : (s : List ℕ) (f : Form) → Laid s f → Lent s (answer_in s f)
lent s form.Malformed h = tt
lent s form.Bulk h = judged-lent s Bulk tt
lent s (form.File n) h = judged-lent s (File (kind_in s) n) h

-- the body of an ordinary return is within the limit and within the request
pub body-fits : (s : List ℕ) {a : Kind} {n : ℕ} → request_of s ≡ File a n → Fits s n
unfolding request_in
body-fits s e = rw (sym (as-tested s) ∙ e) at (lent s (form_of s) (form-laid s))

-- and is the one that the definition reads
pub body-read : (s : List ℕ) (a : Arguments) {stateid body : List ℕ} → arguments s ≡ Got a [] → a.returned ≡ of_file stateid body
    → refusal_of a.layout a.iomode ≡ 0 → body_of s ≡ body
unfolding body_of request_of unless
body-read s a {body = body} e r z = rw (e, z, r) (body-lies s a e r)

pub body_refused : (s : List ℕ) {k : ℕ} → request_of s ≡ Refused k → [] ≡ body_of s
unfolding body_of
body_refused s e = simp e

pub body-bulk : (s : List ℕ) → request_of s ≡ Bulk → [] ≡ body_of s
unfolding body_of
body-bulk s e = simp e

pub body-part : (s : List ℕ) {a : Kind} {n : ℕ} → request_of s ≡ File a n → part_of n s ≡ body_of s
unfolding body_of part_of
body-part s {n = n} e = simp (e, le-ltb (length s) (52 + n) (body-fits s e).within)

-- ---- a part of a length
module _ (s : List ℕ) (n : ℕ) where
  pub part-short : length s < 52 + n → [] ≡ part_of n s
  unfolding part_of
  part-short h = rw (lt-ltb (length s) (52 + n) h)

  pub part-whole : 52 + n ≤ length s → take (52 + n - 52) (drop 52 s) ≡ part_of n s
  unfolding part_of
  part-whole h =
      let q : 52 + n - 52 ≡ n = omega arith in
      rw (le-ltb (length s) (52 + n) h, q)
