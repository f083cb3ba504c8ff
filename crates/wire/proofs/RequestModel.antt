-- The definition of a request and the model of the code are equal: `as-tested`. The body's padding first, then a file's return, then the whole.
use Rattle.std.proofs.Common.{◌≡◌, ℕ, zero, suc, ◌+◌, ◌≤◌, Bool, true, false, cond, ◌&&◌, eqb, ltb, leb, List, [], ◌∷◌, length, take, drop, refl, ap, ◌∙◌, arith, length-drop, length-take-le, drop-drop, ltb-false, ltb-true, le-ltb, lt-ltb, ne_eqb}
use Rattle.xdr.specs.Be.{be_nat}
use Rattle.xdr.specs.Reader.{same_bytes, zeros, padding, Read, Got, Bad, onward, give, only}
use Rattle.wire.specs.Request.{Request, Refused, Returned, of_file, of_many, Arguments, file_return, return_of, arguments, refusal_of, asked, unless, answered, request_of}
use Rattle.wire.specs.RequestSteps.{file_form, form_of, kind_in, judged_in, answer_in, request_in}
use Rattle.wire.specs.Form.{Form}
use Rattle.wire.specs.Form as form
use Rattle.xdr.proofs.Readers.{Leads, no_bytes, number-first, opaque-first, boolean-first, bounded-first, bounded_rest, rest-tests, then, shifted, none_left, at_most, where-long, by-test}

-- ---- what is read must be all of the bytes
abbrev closed : {A : Type 0} → Read A → (A → Request) → Request
closed Bad f = Refused 10036
closed (Got a (x ∷ t)) f = Refused 10036
closed (Got a []) f = f a

closed-if : {A : Type 0} (b : Bool) (x y : Read A) (f : A → Request) → closed (cond b x y) f ≡ cond b (closed x f) (closed y f)
closed-if true x y f = refl
closed-if false x y f = refl

closed-with : {A B : Type 0} (r : Read A) (g : A → B) (f : B → Request) → closed (onward r (λ a. give (g a))) f ≡ closed r (λ a. f (g a))
closed-with Bad g f = refl
closed-with (Got a []) g f = refl
closed-with (Got a (x ∷ t)) g f = refl

closed-got : {A : Type 0} (a : A) (t : List ℕ) (f : A → Request) → closed (Got a t) f ≡ cond (eqb (length t) 0) (f a) (Refused 10036)
closed-got a [] f = refl
closed-got a (x ∷ t) f = rw (ne_eqb (suc (length t)) 0 (λ h. omega arith))

-- ---- the padding is all that is left, and zero
one_less : (n p : ℕ) → ltb (suc n) (suc p) ≡ ltb n p
one_less n p = by-case (ltb n p) refl
  where
    by-case : (b : Bool) → ltb n p ≡ b → ltb (suc n) (suc p) ≡ b
    by-case true e = lt-ltb (suc n) (suc p) (omega (arith, ltb-true n p e))
    by-case false e = le-ltb (suc n) (suc p) (omega (arith, ltb-false n p e))

padded : {A : Type 0} (p : ℕ) (v : List ℕ) (b : A) (f : A → Request)
    → closed (cond (ltb (length v) p) Bad (cond (same_bytes (take p v) (zeros p)) (Got b (drop p v)) Bad)) f
    ≡ cond (same_bytes v (zeros p)) (f b) (Refused 10036)
unfolding same_bytes
padded zero [] b f = refl
padded zero (x ∷ v) b f = rw (le-ltb (suc (length v)) 0 (omega arith))
padded (suc p) [] b f = rw (lt-ltb 0 (suc p) (omega arith))
padded (suc p) (x ∷ v) b f = rw one_less (by_byte (eqb x 0) (ltb (length v) p) (padded p v b f))
  where
    by_byte : (e c : Bool)
        → closed (cond c Bad (cond (same_bytes (take p v) (zeros p)) (Got b (drop p v)) Bad)) f ≡ cond (same_bytes v (zeros p)) (f b) (Refused 10036)
        → closed (cond c Bad (cond (e && same_bytes (take p v) (zeros p)) (Got b (drop p v)) Bad)) f ≡ cond (e && same_bytes v (zeros p)) (f b) (Refused 10036)
    by_byte true c h = h
    by_byte false true h = refl
    by_byte false false h = refl

-- ---- a file's return: 36 bytes, the last four of which are the body's length, then the body and its padding
file-read : Leads 36 file_return (λ s t. onward (bounded_rest 4096 (be_nat 4 (drop 16 (drop 8 (drop 8 s)))) t) (λ body. give (of_file (take 16 (drop 8 (drop 8 s))) body)))
unfolding file_return
file-read = then (number-first 8) (λ offset. then (number-first 8) (λ len. then (opaque-first 16) (λ stateid. bounded-first 4096 (λ body. give (of_file stateid body)))))

body_closed : (n : ℕ) (u : List ℕ) (f : List ℕ → Request)
    → closed (bounded_rest 4096 n u) f
    ≡ cond (ltb 4096 n) (Refused 10036)
    (cond (ltb (length u) n) (Refused 10036) (cond (same_bytes (drop n u) (zeros (padding n))) (f (take n u)) (Refused 10036)))
body_closed n u f = rw (rest-tests 4096 n u, closed-if, closed-if, padded)

answer-if : (s : List ℕ) (b : Bool) (x y : Form) → answer_in s (cond b x y) ≡ cond b (answer_in s x) (answer_in s y)
answer-if s true x y = refl
answer-if s false x y = refl

judged_as : List ℕ → Returned → Request
judged_as s r = judged_in s (asked r)

-- a file's return as the code tests it, after the sixteen bytes before it
module _ (s : List ℕ) (h : 16 ≤ length s) where
  abbrev size : ℕ
  size = be_nat 4 (drop 48 s)

  abbrev found : Request
  found = judged_as s (of_file (take 16 (drop 32 s)) (take size (drop 52 s)))

  abbrev whole : Bool
  whole = same_bytes (drop (52 + size) s) (zeros (padding size))

  file-closed : closed (file_return (drop 16 s)) (judged_as s)
      ≡ cond (ltb (length s) 52) (Refused 10036)
      (cond (ltb 4096 size) (Refused 10036) (cond (ltb (length (drop 52 s)) size) (Refused 10036) (cond whole found (Refused 10036))))
  file-closed =
      let e : ltb (length (drop 16 s)) 36 ≡ ltb (length s) 52 = rw length-drop (shifted (length s) 16 36 h) in
      let d : drop 16 (drop 8 (drop 8 (drop 16 s))) ≡ drop 48 s = simp drop-drop in
      let t : drop 8 (drop 8 (drop 16 s)) ≡ drop 32 s = simp drop-drop in
      let b : drop 36 (drop 16 s) ≡ drop 52 s = drop-drop 36 16 s in
      rw (file-read.reads (drop 16 s), closed-if, e, d, t, b, closed-with (bounded_rest 4096 size (drop 52 s)) (λ body. of_file (take 16 (drop 32 s)) body), body_closed, drop-drop)

  same-found : 52 + size ≤ length s → found ≡ answer_in s (form.File size)
  unfolding judged_as kind_in
  same-found g = rw (length-take-le size (drop 52 s) (rw length-drop (omega arith)))

  file-agrees : closed (file_return (drop 16 s)) (judged_as s) ≡ answer_in s (file_form s)
  unfolding file_form
  file-agrees =
      file-closed
      ∙ rw (answer-if, answer-if, answer-if, answer-if)
      (where-long (length s) 52 (Refused 10036)
      (λ g. ap (λ (x : Request). cond (ltb 4096 size) (Refused 10036) x)
      (rw (length-drop, shifted (length s) 52 size g) (where-long (length s) (52 + size) (Refused 10036) (λ l. ap (λ (x : Request). cond whole x (Refused 10036)) (same-found l))))))

  -- by the return type
  return-agrees : (type : ℕ) → closed (return_of type (drop 16 s)) (judged_as s)
      ≡ cond (eqb type 1) (answer_in s (file_form s))
      (cond (leb 2 type && leb type 3) (cond (eqb (length s) 16) (answer_in s form.Bulk) (Refused 10036)) (Refused 10036))
  unfolding return_of judged_as
  return-agrees type = by-type (eqb type 1) (leb 2 type && leb type 3)
    where
      by-type : (b c : Bool) → closed (cond b file_return (only c of_many) (drop 16 s)) (judged_as s)
          ≡ cond b (answer_in s (file_form s)) (cond c (cond (eqb (length s) 16) (answer_in s form.Bulk) (Refused 10036)) (Refused 10036))
      by-type true c = file-agrees
      by-type false true = closed-got of_many (drop 16 s) (judged_as s) ∙ rw (length-drop, none_left (length s) 16 h)
      by-type false false = refl

-- ---- the whole request
arguments-read : Leads 16 arguments
    (λ s t. cond (leb (be_nat 4 s) 1)
    (onward (return_of (be_nat 4 (drop 4 (drop 4 (drop 4 s)))) t) (λ r. give (record { layout = be_nat 4 (drop 4 s); iomode = be_nat 4 (drop 4 (drop 4 s)); returned = r }))) Bad)
unfolding arguments
arguments-read =
    boolean-first _ _ (λ reclaim. then (number-first 4) (λ layout. then (number-first 4) (λ iomode. then (number-first 4) (λ type. no_bytes _))))

all-judged : Arguments → Request
all-judged a = unless (refusal_of a.layout a.iomode) (asked a.returned)

answered-closed : (r : Read Arguments) → answered r ≡ closed r all-judged
unfolding all-judged
answered-closed Bad = refl
answered-closed (Got a []) = refl
answered-closed (Got a (x ∷ t)) = refl

-- the code's tests give the answer of steps 1 to 3
pub as-tested : (s : List ℕ) → request_of s ≡ request_in s
unfolding request_of request_in form_of all-judged judged_as judged_in
as-tested s =
    let i : drop 4 (drop 4 s) ≡ drop 8 s = drop-drop 4 4 s in
    let t : drop 4 (drop 8 s) ≡ drop 12 s = drop-drop 4 8 s in
    let w : Returned → Arguments = λ r. record { layout = be_nat 4 (drop 4 s); iomode = be_nat 4 (drop 8 s); returned = r } in
    answered-closed (arguments s)
    ∙ rw (arguments-read.reads s, closed-if, closed-if, at_most (be_nat 4 s) 1, i, t, closed-with (return_of (be_nat 4 (drop 12 s)) (drop 16 s)) w, answer-if, answer-if, answer-if, answer-if, answer-if)
    (where-long (length s) 16 (Refused 10036)
    (λ h. ap (λ (x : Request). cond (ltb 1 (be_nat 4 s)) (Refused 10036) x) (return-agrees s h (be_nat 4 (drop 12 s)))))

-- ---- a body that is read lies in the request from byte 52 on
abbrev Lies : List ℕ → Read (List ℕ) → Type 0
Lies s Bad = Unit
Lies s (Got body t) = take (length body) (drop 52 s) ≡ body

abbrev LiesIn : List ℕ → Read Returned → Type 0
LiesIn s Bad = Unit
LiesIn s (Got (of_file stateid body) t) = take (length body) (drop 52 s) ≡ body
LiesIn s (Got of_many t) = Unit

rest-lies : (s : List ℕ) (n : ℕ) → Lies s (bounded_rest 4096 n (drop 52 s))
rest-lies s n =
    let u = drop 52 s in
    let p = padding n in
    rw (rest-tests 4096 n u)
    (by-test (Lies s) (ltb 4096 n) Bad _ (λ _. tt)
    (λ _. by-test (Lies s) (ltb (length u) n) Bad _ (λ _. tt)
    (λ h. by-test (Lies s) (ltb (length (drop n u)) p) Bad _ (λ _. tt)
    (λ _. by-test (Lies s) (same_bytes (take p (drop n u)) (zeros p)) (Got (take n u) (drop p (drop n u))) Bad
    (λ _. rw (length-take-le n u (ltb-false (length u) n h))) (λ _. tt)))))

file-lies : (s : List ℕ) → LiesIn s (file_return (drop 16 s))
file-lies s =
    let b : drop 36 (drop 16 s) ≡ drop 52 s = drop-drop 36 16 s in
    rw (file-read.reads (drop 16 s), b)
    (by-test (LiesIn s) (ltb (length (drop 16 s)) 36) Bad _ (λ _. tt)
    (λ _. named (take 16 (drop 8 (drop 8 (drop 16 s)))) (bounded_rest 4096 (be_nat 4 (drop 16 (drop 8 (drop 8 (drop 16 s))))) (drop 52 s)) (rest-lies s (be_nat 4 (drop 16 (drop 8 (drop 8 (drop 16 s))))))))
  where
    named : (stateid : List ℕ) (r : Read (List ℕ)) → Lies s r → LiesIn s (onward r (λ body. give (of_file stateid body)))
    named stateid Bad h = tt
    named stateid (Got body t) h = h

return-lies : (s : List ℕ) (type : ℕ) → LiesIn s (return_of type (drop 16 s))
unfolding return_of
return-lies s type = by-type (eqb type 1) (leb 2 type && leb type 3)
  where
    by-type : (b c : Bool) → LiesIn s (cond b file_return (only c of_many) (drop 16 s))
    by-type true c = file-lies s
    by-type false true = tt
    by-type false false = tt

abbrev LiesAll : List ℕ → Read Arguments → Type 0
LiesAll s Bad = Unit
LiesAll s (Got a t) = LiesIn s (Got a.returned t)

all-lies : (s : List ℕ) → LiesAll s (arguments s)
all-lies s =
    let t : drop 4 (drop 4 (drop 4 s)) ≡ drop 12 s = simp drop-drop in
    rw (arguments-read.reads s, t)
    (by-test (LiesAll s) (ltb (length s) 16) Bad _ (λ _. tt)
    (λ _. by-test (LiesAll s) (leb (be_nat 4 s) 1) _ Bad (λ _. given (return_of (be_nat 4 (drop 12 s)) (drop 16 s)) (return-lies s (be_nat 4 (drop 12 s)))) (λ _. tt)))
  where
    given : (r : Read Returned) → LiesIn s r → LiesAll s (onward r (λ r. give (record { layout = be_nat 4 (drop 4 s); iomode = be_nat 4 (drop 4 (drop 4 s)); returned = r })))
    given Bad h = tt
    given (Got r t) h = h

pub body-lies : (s : List ℕ) (a : Arguments) {t stateid body : List ℕ} → arguments s ≡ Got a t → a.returned ≡ of_file stateid body → take (length body) (drop 52 s) ≡ body
body-lies s a e r = rw (e, r) at (all-lies s)
