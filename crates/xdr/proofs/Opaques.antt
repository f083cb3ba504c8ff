-- What the code's tests say of an opaque field of at most `limit` bytes.
use Prim.Native.Nat.{ℕ, ◌+◌, ◌-◌, ◌≤◌, ◌<◌}
use mathlib.Core.Path.{◌≡◌, refl, sym, ap, ◌∙◌}
use mathlib.Core.List.{List}
use mathlib.Core.Bool.{Bool, true, false, cond}
use native.Mathlib.Omega.{arith}
use borrow.Author.Tests.{lt-ltb, le-ltb, ltb-false}
use lib.ListN.{length, take, drop, length-drop}
use lib.Seq.{drop-drop}
use lib.Dec.{ltb}
use Rattle.xdr.specs.Be.{be_nat}
use Rattle.xdr.specs.Reader.{same_bytes, zeros, padding, Read, Got, Bad, onward, give, bounded}
use Rattle.xdr.specs.Past.{past_of}
use Rattle.std.specs.Prelude.{Option, Some, None}
use Rattle.std.specs.Bool.{then_some}
use Rattle.xdr.proofs.Readers.{bounded-first, bounded_rest, rest-tests}
use Rattle.xdr.proofs.Bytes.{first-zeros}

given_back : {A : Type 0} (r : Read A) → onward r give ≡ r
given_back Bad = refl
given_back (Got a t) = refl

module _ (s : List ℕ) (at limit : ℕ) where
  abbrev field : Option ℕ
  field = past_of (length s) (bounded limit (drop at s))

  tests : bounded limit (drop at s) ≡ cond (ltb (length (drop at s)) 4) Bad (bounded_rest limit (be_nat 4 (drop at s)) (drop 4 (drop at s)))
  tests =
      sym (given_back (bounded limit (drop at s))) ∙ (bounded-first limit give).reads (drop at s)
      ∙ rw (given_back (bounded_rest limit (be_nat 4 (drop at s)) (drop 4 (drop at s))))

  pub opaque-short : length s - at < 4 → None ≡ field
  opaque-short h = rw (tests, lt-ltb (length (drop at s)) 4 (rw length-drop h))

  module _ (h : 4 ≤ length s - at) {n : ℕ} (e : n ≡ be_nat 4 (drop at s)) where
    rest : bounded limit (drop at s) ≡ bounded_rest limit n (drop (at + 4) s)
    rest = rw (tests, le-ltb (length (drop at s)) 4 (rw length-drop h), ← e, drop-drop)

    pub opaque-large : limit < n → None ≡ field
    opaque-large l = rw (rest, rest-tests, lt-ltb limit n l)

    module _ (l : n ≤ limit) {p : ℕ} (q : p ≡ padding n) where
      field-tests : bounded limit (drop at s)
          ≡ cond (ltb (length (drop (at + 4) s)) n) Bad
          (cond (ltb (length (drop (at + 4 + n) s)) p) Bad
          (cond (same_bytes (take p (drop (at + 4 + n) s)) (zeros p)) (Got (take n (drop (at + 4) s)) (drop (at + 4 + n + p) s)) Bad))
      field-tests = rw (rest, rest-tests, le-ltb limit n l, ← q, drop-drop n (at + 4) s, drop-drop p (at + 4 + n) s)

      pub opaque-cut : length s - at - 4 < n + p → None ≡ field
      opaque-cut k = rw field-tests (by_size (same_bytes (take p (drop (at + 4 + n) s)) (zeros p)) (Got (take n (drop (at + 4) s)) (drop (at + 4 + n + p) s)) (ltb (length (drop (at + 4) s)) n) refl)
        where
          by_size : (b : Bool) (x : Read (List ℕ)) (c : Bool) → ltb (length (drop (at + 4) s)) n ≡ c
              → None ≡ past_of (length s) (cond c Bad (cond (ltb (length (drop (at + 4 + n) s)) p) Bad (cond b x Bad)))
          by_size b x true y = refl
          by_size b x false y =
              let g : n ≤ length s - (at + 4) = rw length-drop at (ltb-false (length (drop (at + 4) s)) n y) in
              rw (lt-ltb (length (drop (at + 4 + n) s)) p (rw length-drop (omega arith)))

      -- the code compares the padding with the first of four zeros
      module _ (k : n + p ≤ length s - at - 4) {b : Bool} (g : b ≡ same_bytes (take (at + 4 + n + p - (at + 4 + n)) (drop (at + 4 + n) s)) (take p (zeros 4))) where
        padded : bounded limit (drop at s) ≡ cond b (Got (take n (drop (at + 4) s)) (drop (at + 4 + n + p) s)) Bad
        padded =
            let y : at + 4 + n + p - (at + 4 + n) ≡ p = omega arith in
            let x : b ≡ same_bytes (take p (drop (at + 4 + n) s)) (zeros p) = rw (y, first-zeros p (omega (arith, q))) at g in
            rw (field-tests, le-ltb (length (drop (at + 4) s)) n (rw length-drop (omega arith)), le-ltb (length (drop (at + 4 + n) s)) p (rw length-drop (omega arith)), ← x)

        pub opaque-past : b ≡ true → Some (at + 4 + n + p) ≡ field
        opaque-past t =
            let z : length s - (length s - (at + 4 + n + p)) ≡ at + 4 + n + p = omega arith in
            rw (padded, t, length-drop, z)

        pub opaque-unpadded : b ≡ false → None ≡ field
        opaque-unpadded t = rw (padded, t)
