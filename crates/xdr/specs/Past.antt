-- MODEL of the code: a place in a list of bytes where the definition's readers have the bytes that are left.
--     past_of     the place past what a reader has read
use Rattle.std.specs.Prelude.{ℕ, ◌-◌, length, Option, Some, None}
use Rattle.xdr.specs.Reader.{Read, Got, Bad}

-- of n bytes, those after the last that was read are left
abbrev pub past_of : {A : Type 0} → ℕ → Read A → Option ℕ
past_of n Bad = None
past_of n (Got a t) = Some (n - length t)
