-- DEFINITION. What a check answers, as the definitions have it: how many extents there are, or the number of the rule that refuses and the extent's place.
-- In this order: the numbers of the rules; the number of an answer that says no more, 0 where no rule refuses; a verdict, and the one that an answer gives; the one that
-- an answer to a single extent gives with the rest.
use Rattle.std.specs.Prelude.{ℕ, Result, Ok, Err}
use Rattle.extents.specs.declared.Rule.{Rule}
use Rattle.extents.specs.declared.Rule.TheVariants.{Shape, Count, State, Empty, Range, Order, Overlap, Room, Place, Unfit, NoSpc, ReclaimBad, BadXdr}
use Rattle.extents.specs.declared.Refusal.{Refusal}

abbrev pub rule_number : Rule → ℕ
rule_number Shape = 1
rule_number Count = 2
rule_number State = 3
rule_number Empty = 4
rule_number Range = 5
rule_number Order = 6
rule_number Overlap = 7
rule_number Room = 8
rule_number Place = 9
rule_number Unfit = 22
rule_number NoSpc = 28
rule_number ReclaimBad = 10034
rule_number BadXdr = 10036

abbrev pub rule_of : {A : Type 0} → Result A Rule → ℕ
rule_of (Ok _) = 0
rule_of (Err rule) = rule_number rule

pub data Verdict : Type 0 where
  Accepted : ℕ → Verdict
  Refused : ℕ → ℕ → Verdict

abbrev pub verdict_of : Result ℕ Refusal → Verdict
verdict_of (Ok n) = Accepted n
verdict_of (Err r) = Refused (rule_number r.rule) r.place

-- an answer that says no more, and then the rest
abbrev pub or_rest : Result Unit Refusal → Verdict → Verdict
or_rest (Ok _) rest = rest
or_rest (Err r) rest = Refused (rule_number r.rule) r.place
