-- DEFINITION. What stands beside a record's files: how many of them are on either list, whether it is in grace, and its edition (Rules 4.3), which the head
-- keeps as a flag.
use Rattle.std.specs.Prelude.{Bool, true, false, cond}
use Rattle.files.specs.declared.head.Head.{Head}
use Rattle.files.specs.declared.head.Edition.{Edition}
use Rattle.files.specs.declared.head.Edition.TheVariants.{Current, Old}

abbrev pub is_old : Edition → Bool
is_old Current = false
is_old Old = true

-- as a record is set up: no files, not in grace
abbrev pub fresh_head : Edition → Head
fresh_head e = record { waiting = 0; offered = 0; grace = false; old = is_old e }

abbrev pub edition_of : Head → Edition
edition_of h = cond h.old Old Current
