-- Bytes that `==` finds the same are those that the definitions call so, by a name that src/ can cite.
pub use Rattle.xdr.proofs.Bytes.{pairs_same as as_same}
