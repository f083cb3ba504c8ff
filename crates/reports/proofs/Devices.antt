-- Device ids and their halves: two ids of sixteen bytes are equal exactly when their halves are (the other way is `ap halves`).
use Prim.Native.Nat.{ℕ, ◌+◌, ◌<◌}
use mathlib.Core.Path.{◌≡◌, sym, ap, ◌∙◌}
use mathlib.Core.List.{List}
use native.Mathlib.Omega.{arith}
use lib.ListN.{length, get_or, take, drop, length-drop, take-append-drop}
use lib.Seq.{get_or-drop, take_all}
use Rattle.xdr.specs.Be.{be_nat}
use Rattle.xdr.proofs.Be.{equal-numbers, number-within}
use Rattle.reports.specs.Device.{Device, halves}

-- the halves are those of the first sixteen bytes
pub halves-taken : (s : List ℕ) → halves (take 16 s) ≡ halves s
halves-taken s =
    let high : be_nat 8 (take 16 s) ≡ be_nat 8 s = number-within 8 0 16 s (omega arith) in
    rw (high, number-within 8 8 16 s (omega arith))

-- sixteen bytes
pub record Id (s : List ℕ) : Type 0 where
  pub size : length s ≡ 16
  pub small : (k : ℕ) → get_or s k 0 < 256

pub same-device : {a b : List ℕ} → Id a → Id b → halves a ≡ halves b → a ≡ b
same-device {a} {b} x y e =
    let high : take 8 a ≡ take 8 b = equal-numbers 8 a b (omega arith) (omega arith) x.small y.small (ap (λ (d : Device). d.high) e) in
    let last : (s : List ℕ) → Id s → take 8 (drop 8 s) ≡ drop 8 s = λ s i. take_all 8 (drop 8 s) (rw length-drop (omega arith)) in
    let low : take 8 (drop 8 a) ≡ take 8 (drop 8 b) =
    equal-numbers 8 (drop 8 a) (drop 8 b) (rw length-drop (omega arith)) (rw length-drop (omega arith))
    (λ k. rw get_or-drop (x.small (8 + k))) (λ k. rw get_or-drop (y.small (8 + k))) (ap (λ (d : Device). d.low) e)
    in
    sym (take-append-drop 8 a) ∙ rw (high, ← last a x, low, last b y) (take-append-drop 8 b)
