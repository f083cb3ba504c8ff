-- By the direction.
use Rattle.mirroring.specs.Direction.{first_by}
use Rattle.mirroring.specs.Source.{source_in}
use Rattle.mirroring.proofs.source.source.Goals as goal

pub returns-in-Lowest-clause-place : goal.returns-in-Lowest-clause-place
unfolding source_in first_by
returns-in-Lowest-clause-place c = rw c.in-Lowest.is c.lowest.ensures.place

pub returns-in-Highest-clause-place : goal.returns-in-Highest-clause-place
unfolding source_in first_by
returns-in-Highest-clause-place c = rw c.in-Highest.is c.highest.ensures.place
