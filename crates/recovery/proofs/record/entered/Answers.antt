-- By the laws of `Moving`.
use mathlib.Core.Path.{◌≡◌, refl}
use native.Mathlib.Omega.{arith}
use lib.ListN.{length}
use borrow.Author.Rules.{rules}
use Rattle.places.proofs.Loops.{mapped-length}
use Rattle.recovery.proofs.Moving.{raising, raised-here, raising-on, raised-last}
use Rattle.recovery.proofs.record.entered.Goals as goal

pub loop-i-init : goal.loop-i-init
loop-i-init c =
    let long : length c.args.files ≡ 64 = search (mapped-length, rules) in
    raising _ _ _ c.room-i.ensures.0 c.room-i.ensures.1 long

pub returns-then-y-x : goal.returns-then-y-x
returns-then-y-x c = raised-here c.loop-i.invariant c.loop-i-test.true _ refl c.if-y-x.true

pub loop-i-preserved : goal.loop-i-preserved
loop-i-preserved c = raising-on c.loop-i.invariant c.loop-i-test.true _ refl (omega arith)

pub returns : goal.returns
returns c = raised-last c.loop-i.invariant c.loop-i-test.false
