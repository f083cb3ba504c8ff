-- By the laws of `Summing`.
use mathlib.Core.Path.{◌≡◌, refl}
use lib.ListN.{length}
use Rattle.places.proofs.Loops.{mapped-length}
use Rattle.mirroring.proofs.Summing.{both-none, both-more, both-all, Held}
use native.Mathlib.Omega.{arith}
use borrow.Author.Rules.{rules}
use Rattle.mirroring.proofs.totals.Totals.add.Goals.{then-is, else-is}
use Rattle.mirroring.proofs.totals.Totals.add.Goals as goal

pub loop-i-init : goal.loop-i-init
loop-i-init c =
    let read_held : Held c.args.self.read = record { bytes = search rules; over = search rules } in
    let written_held : Held c.args.self.written = record { bytes = search rules; over = search rules } in
    both-none _ _ _ _ _ _ read_held written_held

pub loop-i-preserved : goal.loop-i-preserved
loop-i-preserved c =
    let read_held : Held c.args.self.read = record { bytes = search rules; over = search rules } in
    let written_held : Held c.args.self.written = record { bytes = search rules; over = search rules } in
    elim c.if-is.branch [
      | then-is w ↦ both-more c.loop-i.invariant read_held written_held (omega arith) _ c.is.ensures _ (rw (w.t-is, w.if-is.true) w.with-t.ensures)
      | else-is w ↦ both-more c.loop-i.invariant read_held written_held (omega arith) _ c.is.ensures _ (rw (w.t-is, w.if-is.false) refl)
    ]

pub returns : goal.returns
returns c =
    let mirrors-long : length c.args.mirrors ≡ 5 = search (mapped-length, rules) in
    let read_held : Held c.args.self.read = record { bytes = search rules; over = search rules } in
    let written_held : Held c.args.self.written = record { bytes = search rules; over = search rules } in
    let s = c in
    both-all s.args.mirrors s.args.high s.args.low s.args.read s.args.written s.args.self c.loop-i.invariant mirrors-long read_held written_held (omega arith)
