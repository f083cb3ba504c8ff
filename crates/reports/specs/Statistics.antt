-- DEFINITION. The statistics records of a LAYOUTRETURN's body (RFC 8435, 9.2; Rules 3.5), a line a field. Beyond the form of XDR and the limits of
-- its three opaque fields nothing in a record is judged.
--     Statistic                                 what is kept of a record
--     io_info, nfstime, io_latency, layoutupdate  the structures in a record
--     iostats                                   a record
use Rattle.std.specs.Prelude.{ℕ, List}
use Rattle.xdr.specs.Reader.{Reader, ◌>>=◌, give, number, opaque, boolean, bounded}

-- the device's sixteen bytes, and the record's own counts of bytes read and written
pub record Statistic : Type 0 where
  pub device : List ℕ
  pub read : ℕ
  pub written : ℕ

-- io_info4: its bytes
unfoldable pub io_info : Reader ℕ
io_info = do
  count ← number 8
  bytes ← number 8
  give bytes

-- nfstime4
unfoldable pub nfstime : Reader Unit
nfstime = do
  seconds ← number 8
  nseconds ← number 4
  give tt

-- ff_io_latency4
unfoldable pub io_latency : Reader Unit
io_latency = do
  ops_requested ← number 8
  bytes_requested ← number 8
  ops_completed ← number 8
  bytes_completed ← number 8
  bytes_not_delivered ← number 8
  total_busy_time ← nfstime
  aggregate_completion_time ← nfstime
  give tt

-- ff_layoutupdate4: an address of two parts, a file handle, two latencies, a duration, and whether the mirror is local
unfoldable pub layoutupdate : Reader Unit
layoutupdate = do
  netid ← bounded 128
  address ← bounded 128
  fhandle ← bounded 128
  reads ← io_latency
  writes ← io_latency
  duration ← nfstime
  is_local ← boolean
  give tt

-- ff_iostats4
unfoldable pub iostats : Reader Statistic
iostats = do
  offset ← number 8
  len ← number 8
  stateid ← opaque 16
  read ← io_info
  written ← io_info
  device ← opaque 16
  update ← layoutupdate
  give (record { device = device; read = read; written = written })
