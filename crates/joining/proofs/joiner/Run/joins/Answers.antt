-- joins: the devices decide.
use Rattle.std.proofs.Common.{eq-eqb, ne_eqb}
use Rattle.joining.specs.Joiner.{device_in, joins_run}
use Rattle.xdr.proofs.Bytes.{pairs_same}
use Rattle.joining.proofs.joiner.Run.joins.Goals as goal

pub returns-then-self-p-2 : goal.returns-then-self-p-2
unfolding joins_run
returns-then-self-p-2 c =
    let a = c.args in
    rw (c.eq.ensures, c.device.ensures, c.device-then-self-p-2.ensures, eq-eqb a.self.end a.p.offset c.if-self-p.true, ne_eqb a.p.state 3 c.if-p-eq3.false, eq-eqb a.self.until a.p.storage c.if-self-p-2.true)
    (pairs_same (device_in a.devs.now a.self.row) (device_in a.devs.now a.p.row))
