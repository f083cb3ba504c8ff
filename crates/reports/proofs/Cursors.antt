-- The cursor over counted records. In order: it begins with all of them; a place past the bytes is as good as their end.
use Prim.Native.Nat.{ℕ, ◌+◌, ◌-◌, ◌≤◌, ◌<◌}
use mathlib.Core.Path.{◌≡◌, refl}
use mathlib.Core.List.{List, []}
use mathlib.Core.Bool.{Bool, true, false, cond}
use native.Mathlib.Omega.{arith}
use borrow.Author.Tests.{lt-ltb, leb-true, leb-false}
use lib.ListN.{length, drop, length-drop}
use lib.Seq.{drop-drop, drop-length}
use lib.Dec.{ltb, leb}
use Rattle.xdr.specs.Be.{be_nat}
use Rattle.xdr.specs.Reader.{Got, Bad, Reader, onward, number, in_turn, counted}
use Rattle.reports.specs.Cursors.{nowhere, cursor_at}

module _ {A : Type 0} (p : Reader A) (none : p [] ≡ Bad) (s : List ℕ) where
  pub nothing-there : in_turn 1 p (drop (length s) s) ≡ Bad
  unfolding in_turn
  nothing-there = rw (drop-length, none)

  -- the records from the first cursor on are those of the counted list
  pub rows-begin : (at : ℕ) → in_turn (cursor_at s at).left p (drop (cursor_at s at).at s) ≡ counted p (drop at s)
  unfolding cursor_at number
  rows-begin at = rw length-drop (by_size (ltb (length s - at) 4))
    where
      by_size : (b : Bool) → in_turn (cond b (nowhere s) (record { at = at + 4; left = be_nat 4 (drop at s) })).left p (drop (cond b (nowhere s) (record { at = at + 4; left = be_nat 4 (drop at s) })).at s)
          ≡ onward (cond b Bad (Got (be_nat 4 (drop at s)) (drop 4 (drop at s)))) (λ n. in_turn n p)
      by_size true = nothing-there
      by_size false = rw drop-drop

pub same-cursor : (s : List ℕ) (at : ℕ) → cursor_at s (length s - (length s - at)) ≡ cursor_at s at
unfolding cursor_at
same-cursor s at = by_size (leb at (length s)) refl
  where
    by_size : (b : Bool) → leb at (length s) ≡ b → cursor_at s (length s - (length s - at)) ≡ cursor_at s at
    by_size true e =
        let h : at ≤ length s = leb-true at (length s) e in
        let q : length s - (length s - at) ≡ at = omega arith in
        rw q
    by_size false e =
        let h : length s < at = leb-false at (length s) e in
        rw (lt-ltb (length s - (length s - (length s - at))) 4 (omega arith), lt-ltb (length s - at) 4 (omega arith))
