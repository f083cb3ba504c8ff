-- The definition's answers on a few bodies, computed.
use mathlib.Core.Path.{◌≡◌, refl}
use mathlib.Core.List.{List, [], ◌∷◌, ◌++◌, map}
use Prim.Native.Nat.{ℕ}
use lib.ListN.{replicate}
use Rattle.xdr.specs.Be.{be_nat}
use Rattle.xdr.specs.Reader.{number, opaque, boolean, bounded, same_bytes, in_turn}
use Rattle.reports.specs.Report.{Whole, Malformed, device_error, ioerr, layoutreturn, joined, report_of}
use Rattle.reports.specs.Statistics.{iostats, io_info, nfstime, io_latency, layoutupdate}

abbrev pub blank : ℕ → List ℕ
blank n = replicate n 0

-- one record with one device error: 68 bytes
abbrev pub one : List ℕ
one = 0 ∷ 0 ∷ 0 ∷ 1 ∷ (blank 32 ++ (0 ∷ 0 ∷ 0 ∷ 1 ∷ (blank 7 ++ (7 ∷ (blank 7 ++ (9 ∷ 0 ∷ 0 ∷ 0 ∷ 5 ∷ 0 ∷ 0 ∷ 0 ∷ 38 ∷ blank 4))))))

-- two records, the first without device errors
abbrev two : List ℕ
two = 0 ∷ 0 ∷ 0 ∷ 2 ∷ (blank 36 ++ (blank 32 ++ (0 ∷ 0 ∷ 0 ∷ 2 ∷ (blank 48 ++ blank 4))))

-- a statistics record: 300 bytes read, 5 written, netid of 3 bytes and one of padding p, a handle of 1 byte; the boolean is b
abbrev statistic : ℕ → ℕ → List ℕ
statistic p b =
    blank 46 ++ (1 ∷ 44 ∷ (blank 15 ++ (5 ∷ (blank 15 ++ (9 ∷ 0 ∷ 0 ∷ 0 ∷ 3 ∷ 116 ∷ 99 ∷ 112 ∷ p ∷ 0 ∷ 0 ∷ 0 ∷ 0 ∷ 0 ∷ 0 ∷ 0 ∷ 1 ∷ 7 ∷ 0 ∷ 0 ∷ 0 ∷ (blank 143 ++ (b ∷ [])))))))

-- no error record, and statistics records after their count
abbrev after : ℕ → List ℕ → List ℕ
after n s = blank 7 ++ (n ∷ s)

-- in order: one record with one device error; two records; nothing to report; spare bytes; a count of statistics without a record; a count of 2^32 - 1,
-- which ends where the bytes do; a statistics record; the same with a padding byte that is not zero; with a boolean of 2; with a count of 2; with a count of 0
pub answers :
    map report_of (one ∷ two ∷ blank 8 ∷ blank 9 ∷ (blank 7 ++ (1 ∷ [])) ∷ (255 ∷ 255 ∷ 255 ∷ 255 ∷ blank 76) ∷ after 1 (statistic 0 1) ∷ after 1 (statistic 1 1) ∷ after 1 (statistic 0 2) ∷ after 2 (statistic 0 1) ∷ after 0 (statistic 0 1) ∷ [])
    ≡ Whole (record { device = blank 7 ++ (7 ∷ (blank 7 ++ (9 ∷ []))); status = 5 } ∷ []) []
    ∷ Whole (record { device = blank 16; status = 0 } ∷ record { device = blank 16; status = 0 } ∷ []) []
    ∷ Whole [] []
    ∷ Malformed
    ∷ Malformed
    ∷ Malformed
    ∷ Whole [] (record { device = blank 15 ++ (9 ∷ []); read = 300; written = 5 } ∷ [])
    ∷ Malformed
    ∷ Malformed
    ∷ Malformed
    ∷ Malformed
    ∷ []
unfolding report_of layoutreturn joined ioerr device_error iostats io_info layoutupdate io_latency nfstime boolean bounded same_bytes in_turn number opaque be_nat
answers = refl
