-- By the list.
use Rattle.recovery.specs.Record.{is_wanted}
use Rattle.recovery.proofs.listing.Listing.has.Goals as goal

pub returns-in-Resilver : goal.returns-in-Resilver
unfolding is_wanted
returns-in-Resilver c = rw c.in-Resilver.is c.listed.ensures

pub returns-in-Offered : goal.returns-in-Offered
unfolding is_wanted
returns-in-Offered c = rw c.in-Offered.is c.offered.ensures
