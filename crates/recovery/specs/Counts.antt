-- DEFINITION. What the record answers of its two counts (Rules 5.11): those that stand beside its files. Crate ledger has the claim that they are the lengths of
-- the two lists after any history.
use Rattle.std.specs.Prelude.{ℕ}
use Rattle.files.specs.declared.head.Head.{Head}
use Rattle.recovery.specs.declared.counts.Counts.{Counts}

abbrev pub counts : ℕ → ℕ → Counts
counts w o = record { waiting = w; offered = o }

abbrev pub counts_of : Head → Counts
counts_of h = counts h.waiting h.offered
