-- By what the code's tests say of a step; the record that it passes has its numbers in their places.
use Rattle.reports.proofs.StatisticsWalk.{at-end, at-spare, at-malformed, at-passed, next-given}
use native.Mathlib.Omega.{arith}
use Rattle.reports.proofs.statistics.next.Goals as goal

pub returns-then-at-s : goal.returns-then-at-s
returns-then-at-s c = at-spare c.args.s.now c.args.c (omega arith) (λ h. omega arith)

pub returns-then-c-eq0 : goal.returns-then-c-eq0
returns-then-c-eq0 c = at-end c.args.s.now c.args.c (omega arith) (omega arith)

pub returns-in_default : goal.returns-in_default
returns-in_default c =
    let a = c.args in
    at-malformed a.s.now a.c (λ h. omega arith) c.past_record.ensures.place c.in_default.is

pub returns : goal.returns
returns c = next-given c.args.s.now c.args.c (at-passed c.args.s.now c.args.c (λ h. omega arith) c.past_record.ensures.place c.in-Some.is) c.be64.ensures c.be64-2.ensures c.be64-3.ensures c.be64-4.ensures
