-- What a call makes of a record where it is accepted, and the record as it was where it is not; z is the one or the other by the call's status s.
use Rattle.std.proofs.Common.{◌≡◌, ℕ, Bool, true, false, eqb, sym, ap, ◌∙◌}
use borrow.Author.Tests.{eq-eqb, ne_eqb}

abbrev pub if-called : {X : Type 0} → Bool → X → X → X
if-called true y h = y
if-called false y h = h

module _ {X : Type 0} (y h z : X) (s : ℕ) where
  pub accepted-so : s ≡ 0 → z ≡ y → z ≡ if-called (eqb s 0) y h
  accepted-so e is = is ∙ ap (λ b. if-called b y h) (sym (eq-eqb _ _ e))

  pub refused-so : (s ≡ 0 → ⊥) → z ≡ h → z ≡ if-called (eqb s 0) y h
  refused-so e is = is ∙ ap (λ b. if-called b y h) (sym (ne_eqb _ _ e))
