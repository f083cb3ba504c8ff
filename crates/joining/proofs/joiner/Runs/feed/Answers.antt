-- feed meets its contract: the run of the piece's state is lengthened, or one starts.
use Rattle.std.proofs.Common.{◌≡◌, false, sym, ap, ◌∙◌, arith}
use Rattle.joining.specs.Joiner.{joins, joins_in}
use Rattle.joining.proofs.Pieces.{run-device, longer-forward, fed-longer, step-longer, fed-started, step-started}
use Rattle.joining.proofs.joiner.Runs.feed.Goals.{in_default-via-in-Some+else-joins, in_default-via-in_default}
use Rattle.joining.proofs.joiner.Runs.feed.Goals as goal

pub joins-requires : goal.joins-requires
joins-requires c =
    let a = c.args in
    run-device a.devs.now a.self.now a.p c.requires c.in-Some.o c.in-Some.is

pub overflow_sub-result : goal.overflow_sub-result
overflow_sub-result c =
    let a = c.args in
    rw c.longer-run.ensures (omega (arith, longer-forward a.devs.now a.self.now a.p c.in-Some.o c.in-Some.is (sym c.joins.ensures ∙ c.if-joins.true) c.requires))

pub returns-in-Some-clause-runs : goal.returns-in-Some-clause-runs
returns-in-Some-clause-runs c =
    let a = c.args in
    rw c.longer-run.ensures (fed-longer a.devs.now a.self.now a.p c.in-Some.o c.in-Some.is (sym c.joins.ensures ∙ c.if-joins.true))

pub returns-in-Some-clause-step : goal.returns-in-Some-clause-step
returns-in-Some-clause-step c =
    let a = c.args in
    rw c.longer-run.ensures (step-longer a.devs.now a.self.now a.p c.in-Some.o c.in-Some.is (sym c.joins.ensures ∙ c.if-joins.true))

pub returns-in_default-clause-runs : goal.returns-in_default-clause-runs
returns-in_default-clause-runs c =
    let a = c.args in
    let n : joins a.devs.now a.self.now a.p ≡ false = elim c.in_default.branch [
      | in_default-via-in-Some+else-joins w ↦ ap (λ u. joins_in a.devs.now u a.p) w.in-Some.is ∙ sym w.joins.ensures ∙ w.if-joins.false
      | in_default-via-in_default w ↦ ap (λ u. joins_in a.devs.now u a.p) w.in_default.is
    ] in
    rw c.started.ensures (fed-started a.devs.now a.self.now a.p n)

pub returns-in_default-clause-step : goal.returns-in_default-clause-step
returns-in_default-clause-step c =
    let a = c.args in
    let n : joins a.devs.now a.self.now a.p ≡ false = elim c.in_default.branch [
      | in_default-via-in-Some+else-joins w ↦ ap (λ u. joins_in a.devs.now u a.p) w.in-Some.is ∙ sym w.joins.ensures ∙ w.if-joins.false
      | in_default-via-in_default w ↦ ap (λ u. joins_in a.devs.now u a.p) w.in_default.is
    ] in
    step-started a.devs.now a.self.now a.p n
