-- DEFINITION. The ledger keeps a stateid as numbers; these are its bytes, as callers and clients see them (02, Ticket 13). Proved in proofs/Others.antt.
use Rattle.std.specs.Prelude.{◌≡◌, true, ◌++◌, ◌↔◌, ℕ, ◌<◌, length, get_or}
use Rattle.statuses.specs.Names.{Bytes}
use Rattle.xdr.specs.Be.{be_bytes}
use Rattle.wire.specs.Stateid.{Stateid, other, stateid_of, stateid_bytes, new_stateid, has_other, raised_stateid}
use Rattle.wire.specs.declared.stateid.Stateid as declared

-- twelve bytes
pub record Other (s : Bytes) : Type 0 where
  pub size : length s ≡ 12
  pub small : (k : ℕ) → get_or s k 0 < 256

-- the first stateid of an `other` is seqid 1 and the bytes that the caller gave; one that a client sends is written as it was sent, and the next one keeps its `other`;
-- two have the same `other` exactly when those bytes are the same
pub record Bytewise : Type 0 where
  pub given : (s : Bytes) → Other s → stateid_bytes (new_stateid s) ≡ be_bytes 4 1 ++ s
  pub sent : (s : Bytes) → Stateid s → stateid_bytes (stateid_of s) ≡ s
  pub kept : (t : declared.Stateid) → other (stateid_bytes (raised_stateid t)) ≡ other (stateid_bytes t)
  pub same : (s t : Bytes) → Stateid s → Stateid t → (has_other (stateid_of s) (stateid_of t) ≡ true) ↔ (other s ≡ other t)
