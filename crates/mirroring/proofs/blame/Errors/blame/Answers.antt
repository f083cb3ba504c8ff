-- By the set that `masks::with` answers, in which the place is.
use Rattle.mirroring.proofs.Flags.{some-place}
use Rattle.mirroring.proofs.blame.Errors.blame.Goals as goal

pub returns : goal.returns
returns c = let s = c in rw (c.with.ensures, some-place s.args.self.blamed s.args.at s.requires)
