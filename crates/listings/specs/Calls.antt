-- DEFINITION. How many bytes several reads moved together, whether the last of them met the input's end or failed.
use Rattle.std.specs.Prelude.{ℕ, Result, Ok, Err}
use Rattle.listings.specs.declared.program.Failed.{Failed}

abbrev pub moved : Result ℕ Failed → ℕ
moved (Ok n) = n
moved (Err failed) = failed.after
