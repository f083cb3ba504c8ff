-- Rests on a turn, which stops or goes on, and on the first place.
use Rattle.std.proofs.Common.{◌≡◌, length, sym, ap, ◌∙◌, le-leb, arith, rules}
use borrow.Author.Tests.{lt-leb}
use Rattle.places.proofs.Loops.{mapped-length}
use Rattle.walks.proofs.Find.{sought-below}
use Rattle.files.specs.File.{no_file, is_vacant}
use Rattle.std.specs.Option.{unwrap_or}
use Rattle.recovery.specs.Record.{with_files, raised}
use Rattle.capi.proofs.Whole.{entered_so, raised-stops, raised-goes, raised-over}
use Rattle.capi.proofs.enter.Goals.{then-loop-i-test+else-x-r, else-loop-i-test}
use Rattle.capi.proofs.enter.Goals as goal

pub loop-i-init : goal.loop-i-init
loop-i-init c =
    let long : length c.args.r.now.files ≡ 64 = search (mapped-length, rules) in
    let fs = c.args.r.now.files in
    let is = c.unwrap_or-i.ensures ∙ ap (λ o. unwrap_or o 63) c.free.ensures in
    (ap (λ i. with_files (raised c.args.x i fs) c.args.r.now) is ∙ entered_so c.args.r.now c.args.x long, omega (arith, is, sought-below is_vacant 63 no_file fs (omega (arith, long))))

pub loop-i-preserved : goal.loop-i-preserved
loop-i-preserved c = (ap (λ fs. with_files fs c.loop-i.r) (sym (raised-goes c.args.x c.loop-i.i c.loop-i.r.files c.loop-i-test.true (lt-leb _ _ c.if-x-r.true))) ∙ c.loop-i.invariant.0, omega arith)

pub returns : goal.returns
returns c =
    elim c.loop-i-test.branch [
      | else-loop-i-test w ↦ ap (λ fs. with_files fs c.loop-i.r) (sym (raised-over c.args.x c.loop-i.i c.loop-i.r.files (omega arith))) ∙ c.loop-i.invariant.0
      | then-loop-i-test+else-x-r w ↦ ap (λ fs. with_files fs c.loop-i.r) (sym (raised-stops c.args.x c.loop-i.i c.loop-i.r.files w.loop-i-test.true (le-leb _ _ w.if-x-r.false))) ∙ c.loop-i.invariant.0
    ]
