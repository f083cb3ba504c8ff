-- By the laws of `Assessing` and `Reports` of reports.
use mathlib.Core.Path.{◌≡◌, sym, ap, ◌∙◌}
use Prim.Native.Nat.{◌+◌, ◌-◌}
use native.Mathlib.Omega.{arith}
use Rattle.reports.specs.ReportSteps.{reading_of}
use Rattle.reports.proofs.Reports.{device-read-as, device-missing, row_more, row_done}
use Rattle.mirroring.proofs.Assessing.{change-given}
use Rattle.mirroring.specs.Blame.{changed, change_in}
use Rattle.mirroring.proofs.blame.record_errors.Goals as goal

pub loop-preserved : goal.loop-preserved
loop-preserved c =
    let a = c.args in
    let l = c.loop in
    let fewer : a.n - (l.counter + 1) ≡ a.n - l.counter - 1 = omega arith in
    let r = device-read-as a.body.now l.at (sym c.device.ensures ∙ ap reading_of c.in-Some.is) in (
      omega arith,
      rw (c.device_error-x.ensures ∙ change-given a.mirrors (change_in l.x) r.given, r.past, fewer)
          (row_more (changed a.mirrors) (change_in l.x) a.body.now l.at (a.n - l.counter) l.invariant.1 (λ h. omega arith)),
    )

pub returns-in_default : goal.returns-in_default
returns-in_default c = absurd (omega (arith, device-missing c.args.body.now c.loop.at (sym c.device.ensures ∙ ap reading_of c.in_default.is)))

pub returns : goal.returns
returns c =
    let a = c.args in
    let l = c.loop in
    row_done (changed a.mirrors) (change_in l.x) a.body.now l.at (a.n - l.counter) l.invariant.1 (omega arith)
