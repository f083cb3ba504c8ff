-- numbers_at reads the four numbers where the definition has them.
use Prim.Native.Nat.{◌+◌}
use mathlib.Core.Path.{◌≡◌}
use lib.Seq.{drop-drop}
use native.Mathlib.Omega.{arith}
use Rattle.layouts.specs.Layout.{handle_size}
use Rattle.layouts.proofs.kinds.Kind.numbers_at.Goals as goal

pub returns : goal.returns
returns c =
    let at = c.args.at in
    let k = c.args.self in
    let p24 : at + handle_size k + 24 ≡ at + (24 + handle_size k) = omega arith in
    let p32 : at + handle_size k + 32 ≡ at + (32 + handle_size k) = omega arith in
    let p40 : at + handle_size k + 40 ≡ at + (40 + handle_size k) = omega arith in
    simp (c.be64.ensures, c.be64-2.ensures, c.be64-3.ensures, c.be32.ensures, c.handle_size.ensures, p24, p32, p40, drop-drop)
