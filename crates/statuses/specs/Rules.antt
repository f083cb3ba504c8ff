-- DEFINITION. A table of refusals, as the papers write them: conditions in order, each with its number; the first that applies decides. Judges cite it.
--     Rule, ◌⇒◌     a condition and what it answers
--     decided       what a table answers: what `says` makes of the first rule that applies, or `other` where none does
--     first_of       the same where a rule holds the answer itself
--     refused       a status: the number of the first refusal that applies, or 0
use Rattle.std.specs.Prelude.{ℕ, Bool, cond, List, [], ◌∷◌}

pub data Rule (A : Type 0) : Type 0 where
  ◌⇒◌ : Bool → A → Rule A

infix 68 ◌⇒◌
abbrev pub decided : {A B : Type 0} → (A → B) → List (Rule A) → B → B
decided says [] other = other
decided says ((b ⇒ a) ∷ rules) other = cond b (says a) (decided says rules other)

abbrev pub first_of : {A : Type 0} → List (Rule A) → A → A
first_of rules other = decided (λ a. a) rules other

abbrev pub refused : List (Rule ℕ) → ℕ
refused rules = first_of rules 0
