-- Whether one of a list passes, by what was seen of those before the place i and those from it on: a turn, and where no turn is left. Then: where no place has the first 8 bytes of an `other`, none has the `other`.
use Rattle.std.proofs.Common.{◌≡◌, refl, Bool, true, false, cond, not, eqb, ◌||◌, ℕ, suc, ◌+◌, ◌<◌, ◌≤◌, List, [], ◌∷◌, length, get_or, drop, arith, drop-cons, drop_of_length-le}
use borrow.Author.Tests.{ne_eqb}
use mir.Val.{bool_byte}
use Rattle.std.specs.Prelude.{Option, Some, None}
use Rattle.places.specs.Lists.{any}
use Rattle.places.specs.Places.{first, bump, is_found}
use Rattle.places.proofs.Sets.{first-no, rest-no}
use Rattle.wire.specs.declared.stateid.Stateid.{Stateid}
use Rattle.intents.specs.Intents.{is_near, is_stated, uses_other}
use Rattle.intents.specs.declared.Intent.{Intent}

module _ {A : Type 0} (p : A → Bool) (xs : List A) (i : ℕ) (b : Bool) where
  pub any-turn : (d : A) (r : Bool) → i < length xs → r ≡ p (get_or xs i d) → cond b true (any p (drop i xs)) ≡ cond (b || r) true (any p (drop (i + 1) xs))
  unfolding any
  any-turn d r l is = let n : i + 1 ≡ suc i = omega arith in rw (n, is, drop-cons xs i d l) (by b (p (get_or xs i d)) (any p (drop (suc i) xs)))
    where
      by : (b c r : Bool) → cond b true (cond c true r) ≡ cond (b || c) true r
      by true c r = refl
      by false true r = refl
      by false false r = refl

  pub any-over : length xs ≤ i → cond b true (any p (drop i xs)) ≡ b
  unfolding any
  any-over l = rw (drop_of_length-le xs l) (by b)
    where
      by : (b : Bool) → cond b true false ≡ b
      by true = refl
      by false = refl

-- one more is counted where a place passes: so many are no more than before or one more, and some are counted where some were or it passes
pub one-most : (r : Bool) (k : ℕ) → k ≡ bool_byte r → k ≤ 1
one-most true k is = omega (arith, is)
one-most false k is = omega (arith, is)

pub counted-on : (n k : ℕ) (r : Bool) → k ≡ bool_byte r → (not (eqb n 0) || r) ≡ not (eqb (n + k) 0)
counted-on n k true is = let some : eqb (n + k) 0 ≡ false = ne_eqb (n + k) 0 (λ e. omega (arith, is, e)) in rw some (by (not (eqb n 0)))
  where
    by : (b : Bool) → (b || true) ≡ true
    by true = refl
    by false = refl
counted-on n k false is = let none : n + k ≡ n = omega (arith, is) in rw none (by (not (eqb n 0)))
  where
    by : (b : Bool) → (b || false) ≡ b
    by true = refl
    by false = refl

-- one passes where the first that passes is found
pub found-any : {A : Type 0} (p : A → Bool) (xs : List A) → any p xs ≡ is_found (first p xs)
unfolding any first
found-any p [] = refl
found-any p (x ∷ xs) = by (p x) (first p xs) (any p xs) (found-any p xs)
  where
    by : (b : Bool) (o : Option ℕ) (a : Bool) → a ≡ is_found o → cond b true a ≡ is_found (cond b (Some 0) (bump o))
    by true o a e = refl
    by false (Some k) a e = e
    by false None a e = e

far-one : (t : Stateid) (x : Intent) → is_near t x ≡ false → uses_other t x ≡ false
far-one t x e = rw e (by x.taken (is_stated x.stateid))
  where
    by : (b c : Bool) → cond b (cond c false false) false ≡ false
    by true true = refl
    by true false = refl
    by false c = refl

pub far : (t : Stateid) (xs : List Intent) → any (is_near t) xs ≡ false → any (uses_other t) xs ≡ false
unfolding any
far t [] e = refl
far t (x ∷ xs) e = rw (far-one t x (first-no _ _ e)) (far t xs (rest-no _ _ e))
