-- A loop that counts files as it changes them: `Tallying` holds at its head, of what it began with, what stands beside the files, the files and the place. Then
-- that the end of grace counts both lists.
use mathlib.Core.Path.{◌≡◌, refl, sym, ap, ap₂, ◌∙◌}
use mathlib.Core.Bool.{false}
use mathlib.Core.List.{List, map}
use Prim.Native.Nat.{ℕ, ◌+◌, ◌<◌, ◌≤◌}
use native.Mathlib.Numerals.{add-one}
use native.Mathlib.Nat.{zero-add}
use native.Mathlib.Omega.{arith}
use lib.ListN.{length, take, set, length-map}
use lib.Seq.{take-suc-set, take_all}
use Rattle.places.specs.Lists.{chosen}
use Rattle.files.specs.File.{counted_head, tallied, ended_file, is_listed, is_ready}
use Rattle.files.specs.declared.file.File.{File}
use Rattle.files.specs.declared.head.Head.{Head}
use Rattle.files.proofs.Counting.{tallied-snoc, tallied-lengths}
use Rattle.recovery.specs.Record.{ended_head}

pub record Tallying (h₀ h : Head) (fs : List File) (i : ℕ) : Type 0 where
  pub so_far : h ≡ tallied h₀ (take i fs)

pub tallying-none : (h : Head) (fs : List File) → Tallying h h fs 0
unfolding tallied
tallying-none h fs = record { so_far = refl }

module _ {h₀ h : Head} {fs : List File} {i : ℕ} (s : Tallying h₀ h fs i) where
  pub tallying-more : i < length fs → (g : File) {h' : Head} → h' ≡ counted_head h g → Tallying h₀ h' (set fs i g) (i + 1)
  tallying-more l g e = record {
    so_far = e ∙ ap (λ d. counted_head d g) s.so_far ∙ sym (ap (tallied h₀) (ap (λ j. take j (set fs i g)) (add-one i) ∙ take-suc-set fs i g l) ∙ tallied-snoc h₀ (take i fs) g);
  }

  pub tallying-done : length fs ≤ i → h ≡ tallied h₀ fs
  tallying-done l = s.so_far ∙ ap (tallied h₀) (take_all i fs l)

pub ended-counts : (fs : List File) (h : Head) → length fs ≡ 64 → tallied (record { waiting = 0; offered = 0; grace = false; old = h.old }) (map ended_file fs) ≡ ended_head (map ended_file fs) h
ended-counts fs h long =
    let n : length (map ended_file fs) ≡ 64 = length-map fs ended_file ∙ long in
    tallied-lengths (record { waiting = 0; offered = 0; grace = false; old = h.old }) (map ended_file fs) (omega (arith, n)) (omega (arith, n))
    ∙ ap₂ {C = Head} (λ w o. record { waiting = w; offered = o; grace = false; old = h.old }) (zero-add (length (chosen is_listed (map ended_file fs)))) (zero-add (length (chosen is_ready (map ended_file fs))))
