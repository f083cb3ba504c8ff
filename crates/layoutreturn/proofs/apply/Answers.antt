-- The file with the stateid raised, which the report then changes.
use mathlib.Core.Path.{◌∙◌}
use Rattle.layoutreturn.proofs.Raising.{raised-first}
use Rattle.layoutreturn.proofs.apply.Goals as goal

pub returns : goal.returns
returns c = c.apply.ensures ∙ rw c.raised-g.ensures (raised-first _ _ _ _)
