-- MODEL of the code: the cursor over counted records.
--     nowhere, cursor_at     what `none` and `begin` answer
use Rattle.std.specs.Prelude.{ℕ, ◌+◌, ◌-◌, List, cond, length, drop, ltb}
use Rattle.xdr.specs.Be.{be_nat}
use Rattle.reports.specs.declared.cursor.Cursor.{Cursor}

-- a cursor at which nothing is well formed: a record is to come, and there are no bytes
abbrev pub nowhere : List ℕ → Cursor
nowhere s = record { at = length s; left = 1 }

unfoldable pub cursor_at : List ℕ → ℕ → Cursor
cursor_at s at = cond (ltb (length s - at) 4) (nowhere s) (record { at = at + 4; left = be_nat 4 (drop at s) })
