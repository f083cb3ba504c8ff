-- Rests on the laws of a layout update, field by field.
use Rattle.reports.proofs.StatisticsWalk.{netid-bad, address-bad, handle-bad, latencies-short, no-boolean, update-past}
use mathlib.Core.Path.{◌∙◌}
use native.Mathlib.Omega.{arith}
use Rattle.reports.proofs.statistics.past_update.Goals as goal

pub returns-in_err-address : goal.returns-in_err-address
returns-in_err-address c = c.from_residual.ensures ∙ netid-bad c.args.s.now c.args.at c.past_opaque.ensures c.in_err-address.was

pub returns-in_err-handle : goal.returns-in_err-handle
returns-in_err-handle c = c.from_residual-in_err-handle.ensures ∙ address-bad c.args.s.now c.args.at c.past_opaque.ensures c.in_ok-address.was c.past_opaque-2.ensures c.in_err-handle.was

pub returns-in_err-latency : goal.returns-in_err-latency
returns-in_err-latency c = c.from_residual-in_err-latency.ensures ∙ handle-bad c.args.s.now c.args.at c.past_opaque.ensures c.in_ok-address.was c.past_opaque-2.ensures c.in_ok-handle.was c.past_opaque-3.ensures c.in_err-latency.was

pub returns-then-left-lt144 : goal.returns-then-left-lt144
returns-then-left-lt144 c = latencies-short c.args.s.now c.args.at c.past_opaque.ensures c.in_ok-address.was c.past_opaque-2.ensures c.in_ok-handle.was c.past_opaque-3.ensures c.in_ok-latency.was (omega arith)

pub returns-then-be32-gt1 : goal.returns-then-be32-gt1
returns-then-be32-gt1 c = no-boolean c.args.s.now c.args.at c.past_opaque.ensures c.in_ok-address.was c.past_opaque-2.ensures c.in_ok-handle.was c.past_opaque-3.ensures c.in_ok-latency.was (omega arith) c.be32.ensures (omega arith)

pub returns : goal.returns
returns c = update-past c.args.s.now c.args.at c.past_opaque.ensures c.in_ok-address.was c.past_opaque-2.ensures c.in_ok-handle.was c.past_opaque-3.ensures c.in_ok-latency.was (omega arith) c.be32.ensures (omega arith)
