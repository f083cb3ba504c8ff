-- By the length of the request.
use Rattle.std.proofs.Common.{drop-drop, le-ltb, lt-ltb}
use Rattle.wire.specs.Stateid.{stateid_in, stateid_of}
use Rattle.wire.proofs.stateid.in_request.Goals as goal

pub returns-then-request-lt48 : goal.returns-then-request-lt48
unfolding stateid_in
returns-then-request-lt48 c = rw (lt-ltb _ _ c.if-request-lt48.true) c.none.ensures

pub returns : goal.returns
unfolding stateid_in stateid_of
returns c = rw (le-ltb _ _ c.if-request-lt48.false, c.be32-seqid.ensures, c.be64-high.ensures, c.be32-low.ensures, drop-drop 4 32 _, drop-drop 12 32 _)
