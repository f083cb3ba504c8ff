-- Texts in a buffer. In this order: one text after another; the digits of a number; how long a line is; the lines of extents; the whole text.
use Prim.Native.Nat.{ℕ, zero, suc, ◌+◌, ◌*◌, ◌/◌, ◌%◌, ◌^◌, ◌<◌, ◌≤◌}
use mathlib.Core.Path.{◌≡◌, refl, sym, ap, ◌∙◌}
use mathlib.Core.List.{List, [], ◌∷◌, ◌++◌, append_assoc, append-nil}
use mathlib.Core.Bool.{Bool, true, false, cond}
use native.Mathlib.Omega.{arith}
use native.Mathlib.Nat.{add-zero, zero-add, pow-suc}
use borrow.Author.Tests.{lt-ltb, le-ltb}
use lib.ListN.{length, length-append}
use lib.Seq.{sets, length-sets, length-take-le}
use lib.Dec.{ltb}
use Rattle.xdr.proofs.Be.{sets-append}
use Rattle.layouts.specs.declared.kinds.Kind.{Kind}
use Rattle.layouts.specs.declared.kinds.Kind.TheVariants.{Scsi, Rdma}
use Rattle.layouts.specs.Layout.{Row}
use Rattle.listings.specs.Adds.{Adds}
use Rattle.listings.specs.declared.text.Text.{Text}
use Rattle.listings.specs.Text.{digits, decimal, number_text, last_of, line_of, lines_of, accepted_text, refused_text, listed, IsPrefixLen, Put, Listing}

-- ---- one text after another
pub nothing : (d : List ℕ) (at : ℕ) → Put d at [] d at
nothing d at = record { ends = sym (add-zero at); holds = refl }

module _ {d e : List ℕ} {at r : ℕ} {a : List ℕ} (p : Put d at a e r) where
  pub kept : length e ≡ length d
  kept = ap length p.holds ∙ length-sets d at a

  pub then : {f : List ℕ} {q : ℕ} {b : List ℕ} → Put e r b f q → Put d at (a ++ b) f q
  then {f} {q} {b} n = record {
    ends = rw length-append (omega (arith, p.ends, n.ends));
    holds = n.holds ∙ rw (p.holds, p.ends) (sym (sets-append d at a b));
  }

-- the same text in other words
pub said : {d e : List ℕ} {at r : ℕ} {a b : List ℕ} → a ≡ b → Put d at a e r → Put d at b e r
said {d} {at = at} q p = record { ends = p.ends ∙ ap (λ l. at + length l) q; holds = p.holds ∙ ap (sets d at) q }

-- the same for a text that has methods
pub none_yet : (t : Text) → Adds t [] t
none_yet t = record { same = refl; put = nothing t.d.now t.at }

module _ {t u : Text} {a : List ℕ} (p : Adds t a u) where
  pub long : length u.d.now ≡ length t.d.now
  long = kept p.put

  pub and_then : {v : Text} {b : List ℕ} → Adds u b v → Adds t (a ++ b) v
  and_then n = record { same = n.same ∙ p.same; put = then p.put n.put }

pub said_so : {t u : Text} {a b : List ℕ} → a ≡ b → Adds t a u → Adds t b u
said_so q p = record { same = p.same; put = said q p.put }

-- ---- digits
pub length_digits : (k x : ℕ) → length (digits k x) ≤ k
unfolding digits
length_digits zero x = omega arith
length_digits (suc k) x = by (ltb x 10) (length_digits k (x / 10))
  where
    by : (t : Bool) → length (digits k (x / 10)) ≤ k → length (cond t ((48 + x) ∷ []) (digits k (x / 10) ++ ((48 + x % 10) ∷ []))) ≤ suc k
    by true ih = omega arith
    by false ih = rw length-append (omega arith)

-- room for more digits than there are changes nothing
more_room : (k x : ℕ) → x < 10 ^ suc k → digits (suc (suc k)) x ≡ digits (suc k) x
unfolding digits
more_room zero x h = rw (lt-ltb x 10 (omega (arith, pow-suc 10 0)))
more_room (suc k) x h = by (ltb x 10) (more_room k (x / 10) (omega (arith, pow-suc 10 (suc k))))
  where
    by : (t : Bool) → digits (suc (suc k)) (x / 10) ≡ digits (suc k) (x / 10)
        → cond t ((48 + x) ∷ []) (digits (suc (suc k)) (x / 10) ++ ((48 + x % 10) ∷ [])) ≡ cond t ((48 + x) ∷ []) (digits (suc k) (x / 10) ++ ((48 + x % 10) ∷ []))
    by true ih = refl
    by false ih = rw ih

pub one-digit : (x : ℕ) → x < 10 → decimal x ≡ (48 + x) ∷ []
unfolding digits
one-digit x h = rw (lt-ltb x 10 h)

pub last-digit : (x : ℕ) → 10 ≤ x → x < 2 ^ 64 → decimal x ≡ decimal (x / 10) ++ ((48 + x % 10) ∷ [])
unfolding digits
last-digit x h g = rw (le-ltb x 10 h, more_room 18 (x / 10) (omega arith))

-- all digits but the last are at most 19
pub length_front : (x : ℕ) → x < 2 ^ 64 → length (decimal (x / 10)) ≤ 19
length_front x g = rw (more_room 18 (x / 10) (omega arith)) (length_digits 19 (x / 10))

-- ---- how long a text is
pub length-number : (x b : ℕ) → length (number_text x b) ≤ 21
unfolding number_text
length-number x b = rw length-append (omega (arith, length_digits 20 x))

length_last : (k : Kind) (state handle : ℕ) → length (last_of k state handle) ≤ 42
unfolding last_of
length_last Scsi state handle = omega (arith, length-number state 10)
length_last Rdma state handle = rw length-append (omega (arith, length-number state 32, length-number handle 10))

pub length-line : (k : Kind) (r : Row) → length (line_of k r) ≤ 105
unfolding line_of
length-line k r =
    simp length-append (omega (arith, length-number r.extent.offset 32, length-number r.extent.len 32, length-number r.extent.storage 32, length_last k r.extent.state r.handle))

-- ---- the lines of extents
pub line-more : (k : Kind) (l : List Row) (r : Row) → lines_of k (l ++ (r ∷ [])) ≡ lines_of k l ++ line_of k r
unfolding lines_of
line-more k [] r = append-nil (line_of k r)
line-more k (a ∷ l) r = rw (line-more k l r, append_assoc)

-- where a number's text and a line end
pub number-ends : (x b : ℕ) {d e : List ℕ} {at r : ℕ} → Put d at (number_text x b) e r → r ≤ at + 21
number-ends x b p = omega (arith, p.ends, length-number x b)

pub line-ends : (k : Kind) (x : Row) {d e : List ℕ} {at r : ℕ} → Put d at (line_of k x) e r → r ≤ at + 105
line-ends k x p = omega (arith, p.ends, length-line k x)

-- ---- the whole text
length-lines : (k : Kind) (rs : List Row) → length (lines_of k rs) ≤ 105 * length rs
unfolding lines_of
length-lines k [] = omega arith
length-lines k (r ∷ rs) = rw length-append (omega (arith, length-line k r, length-lines k rs))

pub refused-short : (k i : ℕ) → length (refused_text k i) ≤ 109568
unfolding refused_text
refused-short k i = simp length-append (omega (arith, length-number k 32, length-number i 10))

pub accepted-short : (k : Kind) (n : ℕ) (rs : List Row) → length rs ≤ 1024 → length (accepted_text k n rs) ≤ 109568
unfolding accepted_text
accepted-short k n rs h = simp length-append (omega (arith, length-number n 10, length-lines k rs))

-- a text that is the input's stands whole in a buffer that is long enough
pub whole : (k : Kind) (s : List ℕ) {d e t : List ℕ} {r : ℕ} → Put d 0 t e r → 109568 ≤ length d → t ≡ listed k s → length t ≤ 109568 → Listing k s d e r × IsPrefixLen r e
whole k s {d} {e} {t} {r} p room is short =
    let z : r ≡ length t = p.ends ∙ zero-add (length t) in
    let l : r ≤ length e = omega (arith, kept p) in (
      record {
        length-is = rw (le-ltb (length d) 109568 room) (z ∙ ap length is);
        bytes-are = rw (le-ltb (length d) 109568 room) (p.holds ∙ ap (sets d 0) is);
      },
      (l, sym (length-take-le r e l)),
    )
