-- Tables of refusals: a table is answered by one of its rules, or none applies. In this order:
--     Each, NoneApplies, decided-by     what holds of each rule's answer, and of the other answer where no rule applies, holds of the table's answer
--     any-rule                          what holds of every answer holds of each rule's
use mathlib.Core.Path.{◌≡◌, refl}
use mathlib.Core.Bool.{true, false}
use mathlib.Core.List.{List, [], ◌∷◌}
use Rattle.statuses.specs.Rules.{Rule, ◌⇒◌, decided}

module _ {A B : Type 0} (says : A → B) (Q : B → Type 0) where
  abbrev pub Each : List (Rule A) → Type 0
  Each [] = Unit {0}
  Each ((b ⇒ a) ∷ rules) = Q (says a) × Each rules

  pub any-rule : ((a : A) → Q (says a)) → (rules : List (Rule A)) → Each rules
  any-rule h [] = tt
  any-rule h ((b ⇒ a) ∷ rules) = (h a, any-rule h rules)

abbrev pub NoneApplies : {A : Type 0} → List (Rule A) → Type 0
NoneApplies [] = Unit {0}
NoneApplies ((b ⇒ a) ∷ rules) = (b ≡ false) × NoneApplies rules

pub decided-by : {A B : Type 0} (says : A → B) (Q : B → Type 0) (rules : List (Rule A)) (other : B) → Each says Q rules → (NoneApplies rules → Q other) → Q (decided says rules other)
decided-by says Q [] other each none = none tt
decided-by says Q ((true ⇒ a) ∷ rules) other each none = each.0
decided-by says Q ((false ⇒ a) ∷ rules) other each none = decided-by says Q rules other each.1 (λ n. none (refl, n))
