-- A call on one file is the definition's call on that file. In this order: what a method answers is put back at the file's place; what is decided, s, is done to the file where it lies.
use Rattle.std.proofs.Common.{◌≡◌, ℕ, Bool, true, false, cond, eqb, length, get_or, sym, refl, ap, ◌∙◌}
use lib.Seq.{set-get_or}
use Rattle.records.proofs.Headed.{if-called}
use Rattle.files.specs.File.{FileAnswered, no_file, file_answered}
use Rattle.files.specs.declared.file.File.{File}
use Rattle.files.specs.declared.head.Head.{Head}
use Rattle.recovery.specs.Record.{Answered, with_head, put_file, on_place}
use Rattle.recovery.specs.declared.record.Record.{Record}
use Rattle.capi.specs.Place.{sought_in}
use Rattle.capi.specs.OneFile.{changed_at}
use Rattle.capi.proofs.Places.{on-sought}

-- the status and the record of a call
abbrev pub Same : ℕ → Record → Answered → Type 0
Same s r a = (s ≡ a.status) × (r ≡ a.after)

same : (a b : Answered) → a ≡ b → Same a.status a.after b
same a b e = (ap (λ (z : Answered). z.status) e, ap (λ (z : Answered). z.after) e)

-- a refusal puts the file back that stands at its place
pub unchanged : (r : Record) (i k : ℕ) → r ≡ (put_file r i (file_answered k r.head (get_or r.files i no_file))).after
unchanged r i k = sym (ap (λ fs. record { files = fs; head = r.head }) (set-get_or r.files i no_file))

module _ (n : ℕ) (q : File → FileAnswered) (r : Record) (long : length r.files ≡ 64) (i : ℕ) (there : i ≡ sought_in n r) where
  placed : put_file r i (q (get_or r.files i no_file)) ≡ on_place n q r
  placed = ap (λ j. put_file r j (q (get_or r.files j no_file))) there ∙ on-sought n q r long

  pub kept-so : (s : FileAnswered) → s ≡ q (get_or r.files i no_file) → Same s.status (put_file r i s).after (on_place n q r)
  kept-so s e = same (put_file r i s) (on_place n q r) (ap (put_file r i) e ∙ placed)

  -- z is the record in which the file lies, changed where the call is accepted
  pub decided-so : (st : ℕ) (h : Head) (g : File → File) → file_answered st h (cond (eqb st 0) (g (get_or r.files i no_file)) (get_or r.files i no_file)) ≡ q (get_or r.files i no_file)
      → (z : Record) → z ≡ if-called (eqb st 0) (changed_at g i r) r → Same st (with_head h z) (on_place n q r)
  decided-so st h g e z is = (by.0, ap (with_head h) is ∙ changed-so (eqb st 0) ∙ by.1)
    where
      here : File
      here = get_or r.files i no_file

      changed-so : (b : Bool) → with_head h (if-called b (changed_at g i r) r) ≡ (put_file r i (file_answered st h (cond b (g here) here))).after
      changed-so true = refl
      changed-so false = sym (ap (λ fs. record { files = fs; head = h }) (set-get_or r.files i no_file))

      by : Same st (put_file r i (file_answered st h (cond (eqb st 0) (g here) here))).after (on_place n q r)
      by = kept-so (file_answered st h (cond (eqb st 0) (g here) here)) e
