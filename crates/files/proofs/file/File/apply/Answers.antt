-- By the parts of the change.
use Rattle.std.proofs.Common.{◌∙◌}
use Rattle.files.proofs.Changing.{by-fields}
use Rattle.files.proofs.file.File.apply.Goals as goal

pub returns : goal.returns
returns c = c.blame.ensures ∙ rw (c.blamed_by.ensures, c.marks.ensures) (by-fields _ _)
