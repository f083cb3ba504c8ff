-- DEFINITION. The reply of a LAYOUTRETURN (LAYOUTRETURN4res, RFC 8881; Rules 3.9).
--     reply_with, reply_bytes           the bytes of a reply with a stateid, and with sixteen zero bytes
--     reply_in_with, reply_in            the lent buffer afterwards
--     reply_answer                     the answer
use Rattle.std.specs.Prelude.{cond, [], ◌++◌, length, ◌==◌, nat_lt}
use Rattle.std.proofs.lemmas.List.Edits.{sets}
use Rattle.statuses.specs.Names.{Bytes, Status}
use Rattle.xdr.specs.Be.{be_bytes}
use Rattle.xdr.specs.Reader.{zeros}

-- the status; for 0 then boolean 1 and the sixteen bytes of a stateid
unfoldable pub reply_with : Status → Bytes → Bytes
reply_with status stateid = be_bytes 4 status ++ cond (status == 0) (be_bytes 4 1 ++ stateid) []

abbrev pub reply_bytes : Status → Bytes
reply_bytes status = reply_with status (zeros 16)

-- under 24 bytes the buffer stays as it is; otherwise the reply stands at its start, and later bytes stay
unfoldable pub reply_in_with : Status → Bytes → Bytes → Bytes
reply_in_with status stateid d = cond (nat_lt (length d) 24) d (sets d 0 (reply_with status stateid))

abbrev pub reply_in : Status → Bytes → Bytes
reply_in status d = reply_in_with status (zeros 16) d

-- the status, or 28 where the buffer is under 24 bytes
unfoldable pub reply_answer : Status → Bytes → Status
reply_answer status d = cond (nat_lt (length d) 24) 28 status
