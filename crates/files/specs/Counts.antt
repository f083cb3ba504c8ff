-- MODEL. The two counts beside a record's files (02, Ticket 8), as calls keep them. A count is kept modulo 2^8, so that no record value traps; crate ledger
-- shows that after any history both are the lengths of the two lists. In this order: what a file adds to them; a count; both, in a head.
use Rattle.std.specs.Prelude.{ℕ, ◌+◌, ◌%◌, ◌^◌, Bool, false, cond, not}
use Rattle.files.specs.declared.counts.Standing.{Standing}
use Rattle.files.specs.declared.head.Head.{Head}

-- by whether a file is on the resilver list, and whether it has an intent
abbrev pub standing : Bool → Bool → Standing
standing l b = record { listed = l; offered = cond l (not b) false }

-- a count once a file that was counted if `was` is counted if `is`
abbrev pub recounted : Bool → Bool → ℕ → ℕ
recounted was is n = cond was (cond is n ((n + 255) % 2 ^ 8)) (cond is ((n + 1) % 2 ^ 8) n)

abbrev pub with_counts : ℕ → ℕ → Head → Head
with_counts w o h = record { waiting = w; offered = o; grace = h.grace; old = h.old }

-- the head once a file that stood as `was` stands as `is`
abbrev pub moved_by : Standing → Standing → Head → Head
moved_by was is h = with_counts (recounted was.listed is.listed h.waiting) (recounted was.offered is.offered h.offered) h
