-- The set-up of a stateid, where std's `any` says whether a file uses its `other`, is what the definition of crate recovery says of it.
use Rattle.std.proofs.Common.{◌≡◌, Bool, true, false, cond, ◌||◌, ℕ, List, [], ◌∷◌, refl, ap, ◌∙◌}
use Rattle.std.specs.List.{list_any}
use Rattle.places.specs.Lists.{any}
use Rattle.wire.specs.Stateid.{new_stateid, bad_other}
use Rattle.wire.specs.declared.stateid.Stateid.{Stateid}
use Rattle.files.specs.File.{uses_stateid}
use Rattle.files.specs.declared.file.File.{File}
use Rattle.recovery.specs.Record.{is_barred}

any-so : {A : Type 0} (p : A → Bool) (l : List A) → list_any p l ≡ any p l
unfolding any
any-so p [] = refl
any-so p (x ∷ l) = ap (λ b. p x || b) (any-so p l) ∙ by (p x) (any p l)
  where
    by : (b r : Bool) → (b || r) ≡ cond b true r
    by true r = refl
    by false r = refl

module _ (s : List ℕ) (fs : List File) where
  pub barred-in : bad_other s ≡ true → true ≡ is_barred s fs
  unfolding is_barred
  barred-in e = rw e refl

  pub barred-by-file : (t : Stateid) → t ≡ new_stateid s → bad_other s ≡ false → list_any (uses_stateid t) fs ≡ is_barred s fs
  unfolding is_barred
  barred-by-file t is e = rw e (ap (λ (u : Stateid). list_any (uses_stateid u) fs) is ∙ any-so (uses_stateid (new_stateid s)) fs)
