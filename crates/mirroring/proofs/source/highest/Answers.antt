-- By the laws of `Sourcing`.
use Rattle.std.proofs.Common.{rules, ◌≡◌, length}
use native.Mathlib.Omega.{arith}
use Rattle.places.proofs.Loops.{mapped-length}
use Rattle.mirroring.specs.Source.{ordinary}
use Rattle.mirroring.proofs.Sourcing.{test_of, four, downwards, found-down, on-down, none-down}
use Rattle.mirroring.proofs.source.highest.Goals as goal

pub loop-i-init : goal.loop-i-init
loop-i-init c =
    let all : length c.args.mirrors ≡ 5 = search (mapped-length, rules) in
    let long : length (ordinary c.args.mirrors) ≡ 4 = four c.args.mirrors all in
    downwards _ _ (omega (arith, long))

pub returns-then-good-clause-place : goal.returns-then-good-clause-place
returns-then-good-clause-place c =
    let all : length c.args.mirrors ≡ 5 = search (mapped-length, rules) in
    let long : length (ordinary c.args.mirrors) ≡ 4 = four c.args.mirrors all in
    found-down c.loop-i.invariant (omega arith) (omega (arith, long)) (test_of c.args.mirrors _ _ (omega arith) c.good.ensures) c.if-good.true

pub loop-i-preserved : goal.loop-i-preserved
loop-i-preserved c =
    let all : length c.args.mirrors ≡ 5 = search (mapped-length, rules) in
    let long : length (ordinary c.args.mirrors) ≡ 4 = four c.args.mirrors all in
    on-down c.loop-i.invariant (omega arith) (omega (arith, long)) (test_of c.args.mirrors _ _ (omega arith) c.good.ensures) c.if-good.false

pub returns-clause-place : goal.returns-clause-place
returns-clause-place c = none-down c.loop-i.invariant (omega arith)
