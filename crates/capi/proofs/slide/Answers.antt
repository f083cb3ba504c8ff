-- Rests on a turn, and on all of them.
use Rattle.std.proofs.Common.{sym, ◌∙◌, arith}
use Rattle.records.proofs.Slid.{slides-turn, slides-over}
use Rattle.files.specs.File.{no_file}
use Rattle.capi.proofs.Whole.{slid-so}
use Rattle.capi.proofs.slide.Goals as goal

pub loop-i-preserved : goal.loop-i-preserved
loop-i-preserved c = sym (slides-turn no_file c.loop-i.fs c.loop-i.i (omega (arith, c)) (omega (arith, c))) ∙ c.loop-i.invariant

pub returns : goal.returns
returns c = sym (slides-over no_file c.loop-i.fs c.loop-i.i (omega (arith, c))) ∙ c.loop-i.invariant ∙ slid-so no_file c.args.fs.now
