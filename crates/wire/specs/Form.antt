-- MODEL of the code: how the bytes of a request are laid out. RequestSteps has the rest.
use Rattle.std.specs.Prelude.{ℕ}

-- malformed; return type 2 or 3; return type 1, with the body's length
pub data Form : Type 0 where
  Malformed Bulk : Form
  File : ℕ → Form
