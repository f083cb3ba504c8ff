-- Where no statistics record is to come, the totals are none, and the status says whether something follows.
use Rattle.std.proofs.Common.{◌≡◌, ℕ, ◌-◌, ◌<◌, ◌≤◌, Bool, true, false, cond, eqb, List, [], length, sym, refl, arith, length-drop, eq-eqb, ne_eqb}
use Rattle.xdr.specs.Reader.{in_turn}
use Rattle.reports.specs.Report.{Whole, Malformed, over}
use Rattle.reports.specs.StatisticsSteps.{statistics_from, tally}
use Rattle.reports.specs.declared.cursor.Cursor.{Cursor}
use Rattle.mirroring.specs.Blame.{tallied_of}
use Rattle.mirroring.specs.Totals.{no_totals}
use Rattle.mirroring.specs.declared.mirrors.Mirror.{Mirror}
use Rattle.mirroring.proofs.Assessing.{told_is}

-- the report from there on
from_last : (s : List ℕ) (c : Cursor) → c.left ≡ 0 → statistics_from s c ≡ cond (eqb (length s - c.at) 0) (Whole [] []) Malformed
unfolding statistics_from in_turn
from_last s c e = rw (e, length-drop c.at s)

-- no record counts nowhere
none-summed : (ms : List Mirror) → length ms ≡ 5 → (b : Bool) → tallied_of ms b (Whole [] []) ≡ record { status = 0; totals = no_totals }
unfolding tallied_of tally over
none-summed ms e true = sym (told_is ms e (Whole [] []))
none-summed ms e false = refl

module _ (ms : List Mirror) (long : length ms ≡ 5) (b : Bool) (s : List ℕ) (c : Cursor) (e : c.left ≡ 0) where
  pub nothing-follows : length s ≤ c.at → tallied_of ms b (statistics_from s c) ≡ record { status = 0; totals = no_totals }
  nothing-follows h = rw (from_last s c e, eq-eqb (length s - c.at) 0 (omega (arith, h))) (none-summed ms long b)

  pub something-follows : c.at < length s → tallied_of ms b (statistics_from s c) ≡ record { status = 10036; totals = no_totals }
  unfolding tallied_of
  something-follows h = rw (from_last s c e, ne_eqb (length s - c.at) 0 (λ q. omega (arith, h, q)))
