-- extent_size: a handle is small.
use Rattle.std.proofs.Common.{arith}
use Rattle.layouts.proofs.Sizes.{handle-small}
use Rattle.layouts.proofs.kinds.Kind.extent_size.Goals as goal

pub overflow_add-result : goal.overflow_add-result
overflow_add-result c = record { fits = omega (arith, c.handle_size.ensures, handle-small c.args.self) }
