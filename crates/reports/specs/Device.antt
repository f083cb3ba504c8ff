-- DEFINITION. A device id (deviceid4, RFC 8881): sixteen bytes on the wire, two 64-bit numbers in code.
--     Device, halves   the two halves of sixteen bytes
-- That two ids are equal exactly when their halves are is proved in proofs/Devices.antt.
use Rattle.std.specs.Prelude.{ℕ, List, drop}
use Rattle.xdr.specs.Be.{be_nat}

pub record Device : Type 0 where
  pub high : ℕ
  pub low : ℕ

-- the halves of the first sixteen bytes
abbrev pub halves : List ℕ → Device
halves s = record { high = be_nat 8 s; low = be_nat 8 (drop 8 s) }
