-- put_length: nothing without a place, else the length.
use Rattle.std.proofs.Common.{rules, ℕ, ◌+◌, ◌<◌, ◌^◌, length, ap, ◌∙◌, arith}
use lib.Seq.{sets}
use Rattle.xdr.specs.Be.{be_bytes}
use Rattle.layouts.specs.declared.kinds.Kind.TheVariants.{Scsi}
use Rattle.layouts.proofs.Sizes.{held-inside}
use Rattle.layouts.proofs.Placed.{no_length, length-put}
use Rattle.layouts.proofs.placing.put_length.Goals as goal

pub body_size-requires : goal.body_size-requires
body_size-requires c =
    let a = c.args in
    let long : length a.d.now < 2 ^ 64 = search rules in
    omega (arith, long, held-inside Scsi a.d.now a.i (omega (arith, c.held.ensures, c.if-i-held.true)))

pub put_length-requires : goal.put_length-requires
put_length-requires c =
    let a = c.args in
    omega (arith, c.body_size.ensures, held-inside Scsi a.d.now a.i (omega (arith, c.held.ensures, c.if-i-held.true)))

pub returns-then-i-held : goal.returns-then-i-held
returns-then-i-held c =
    let a = c.args in
    c.put_length.ensures ∙ ap (λ (at : ℕ). sets a.d.now (at + 24) (be_bytes 8 a.len)) c.body_size.ensures ∙ length-put a.d.now a.i a.len (omega (arith, c.held.ensures, c.if-i-held.true))

pub returns-else-i-held : goal.returns-else-i-held
returns-else-i-held c =
    let a = c.args in
    no_length a.d.now a.i a.len (omega (arith, c.held.ensures, c.if-i-held.false))
