-- By what `head_marked` answers of whether the report marks the file.
use Rattle.std.proofs.Common.{◌∙◌}
use Rattle.files.proofs.Counting.{told-change}
use Rattle.files.proofs.file.File.head_after.Goals as goal

pub returns : goal.returns
returns c = c.head_marked.ensures ∙ rw c.marks.ensures (told-change _ _ _)
