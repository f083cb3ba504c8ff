-- How far a seqid is behind the latest: the number that takes the one to the other, modulo 2^32.
use Rattle.std.proofs.Common.{arith}
use Rattle.wire.specs.Seqid.{behind, Behind}

pub behind-is : Behind
unfolding behind
behind-is latest given n a b c e = omega (arith, a, b, c, e)
