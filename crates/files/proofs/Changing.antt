-- A report that changes nothing leaves the file as it is; so does a return that raises no stateid, and the counts stay. The file that a report changes, by its fields.
use Rattle.std.proofs.Common.{◌≡◌, ℕ, suc, Bool, true, false, cond, List, [], ◌∷◌, refl, ap, ◌∙◌}
use Rattle.masks.proofs.Laws.{has-zero}
use Rattle.wire.specs.Stateid.{no_stateid}
use Rattle.mirroring.specs.Mirrors.{blamed_by, blamed_at}
use Rattle.mirroring.specs.Blame.{no_change}
use Rattle.mirroring.specs.declared.blame.Change.{Change}
use Rattle.mirroring.specs.declared.mirrors.Mirror.{Mirror}
use Rattle.files.specs.File.{with_mark, with_mirrors, moved_head, changed_file, raised_file, head_after}
use Rattle.files.specs.declared.file.File.{File}
use Rattle.files.specs.declared.head.Head.{Head}
use Rattle.files.proofs.Counting.{moved_same}

pub unchanged : (f : File) → changed_file no_change f ≡ f
unfolding changed_file
unchanged f = refl

-- a return that raises no stateid
pub unraised : (c : ℕ) (f : File) → raised_file c no_stateid f ≡ f
unfolding raised_file
unraised c f = refl

-- the counts
pub told-nothing : (f : File) (h : Head) → head_after no_change h f ≡ h
unfolding head_after
told-nothing f h = ap (λ g. moved_head f g h) (unchanged f) ∙ moved_same f h

-- ---- by its fields
-- no mirror is blamed where no place passes
unblamed-by : (p : ℕ → Bool) → ((k : ℕ) → p k ≡ false) → (ms : List Mirror) → blamed_by p ms ≡ ms
unfolding blamed_by
unblamed-by p none [] = refl
unblamed-by p none (m ∷ ms) = rw (none 0) (ap {B = List Mirror} (λ ns. m ∷ ns) (unblamed-by (λ k. p (suc k)) (λ k. none (suc k)) ms))

pub by-fields : (x : Change) (f : File)
    → with_mark (cond (cond x.unknown true x.failed) true f.marked) (with_mirrors (blamed_at (cond x.unknown 0 (cond x.failed x.blamed 0)) f.mirrors) f) ≡ changed_file x f
unfolding changed_file
by-fields x f = by x.unknown x.failed
  where
    by : (u b : Bool) → with_mark (cond (cond u true b) true f.marked) (with_mirrors (blamed_at (cond u 0 (cond b x.blamed 0)) f.mirrors) f)
        ≡ cond u (with_mark true f) (cond b (with_mark true (with_mirrors (blamed_at x.blamed f.mirrors) f)) f)
    by true b = ap (λ ms. with_mark true (with_mirrors ms f)) (unblamed-by _ has-zero f.mirrors)
    by false true = refl
    by false false = ap (λ ms. with_mirrors ms f) (unblamed-by _ has-zero f.mirrors)
