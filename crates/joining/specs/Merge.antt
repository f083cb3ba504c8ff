-- DEFINITION. The answer of merging a SCSI list that is lent as columns (Rules 2.15): the refusals of the list, in paper 01's order, with 4,096 in place of 1,024;
-- then 28 if the result has over 1,024 extents; then 8; both at place 0. In this order: the columns, and the list that they hold; the answer; the lent bytes
-- afterwards, which are those of the writer of crate `layouts`, of the merged list; what C is handed.
use Rattle.std.specs.Prelude.{◌≡◌, ℕ, cond, List, [], map, length, nat_lt}
use Rattle.extents.specs.Extents.{list_from, verdict, number_of, place_of}
use Rattle.extents.specs.declared.Extent.{Extent}
use Rattle.extents.specs.Verdict.{Verdict, Accepted, Refused}
use Rattle.layouts.specs.declared.kinds.Kind.TheVariants.{Scsi}
use Rattle.layouts.specs.declared.columns.Columns.{Columns as Lent}
use Rattle.layouts.specs.Columns.{Columns, column_row, even, roomy, written_by}
use Rattle.layouts.specs.Placing.{scsi}
use Rattle.merging.specs.Merged.{merged}

-- a SCSI list has no handles
abbrev pub columns_of : List ℕ → List ℕ → List ℕ → List ℕ → List ℕ → Columns
columns_of devs offs lens stos sts = record { devices = devs; offsets = offs; handles = []; lengths = lens; storages = stos; states = sts }

abbrev pub row_of : List ℕ → List ℕ → List ℕ → List ℕ → List ℕ → ℕ → Extent
row_of devs offs lens stos sts k = (column_row (columns_of devs offs lens stos sts) k).extent

abbrev pub column_list : List ℕ → List ℕ → List ℕ → List ℕ → List ℕ → List Extent
column_list devs offs lens stos sts = list_from (row_of devs offs lens stos sts) (length offs) 0

-- the same of columns that are lent; their handles are not looked at
abbrev pub scsi_columns : Lent → Columns
scsi_columns c = columns_of c.devices.now c.offsets.now c.lengths.now c.storages.now c.states.now

abbrev pub list_of : Lent → List Extent
list_of c = column_list c.devices.now c.offsets.now c.lengths.now c.storages.now c.states.now

-- an accepted list that comes to k extents
abbrev pub comes_to : Verdict → ℕ → Verdict
comes_to (Accepted n) k = Accepted k
comes_to (Refused rule i) k = Refused rule i

-- 28: more than 1,024 extents
abbrev pub few_enough : Verdict → Verdict
few_enough (Accepted k) = cond (nat_lt 1024 k) (Refused 28 0) (Accepted k)
few_enough (Refused rule i) = Refused rule i

-- the answer of merging the list into `room` bytes: 1 for uneven columns, 2, 3 to 7, 28, 8
unfoldable pub merge_columns : List ℕ → List ℕ → List ℕ → List ℕ → List ℕ → ℕ → Verdict
merge_columns devs offs lens stos sts room =
    cond (even Scsi (columns_of devs offs lens stos sts))
    (cond (nat_lt 4096 (length offs)) (Refused 2 0)
    (roomy Scsi (few_enough (comes_to (verdict [] 0 (column_list devs offs lens stos sts)) (length (merged (column_list devs offs lens stos sts))))) room))
    (Refused 1 0)

-- the lent bytes afterwards
abbrev pub merged_by : Verdict → List Extent → List ℕ → List ℕ
merged_by v es d = written_by Scsi v (map scsi es) d

-- what C is handed: the rule's number, the place, and the lent bytes afterwards
pub record MergedC (v : Verdict) (es : List Extent) (before : List ℕ) (rule place : ℕ) (after : List ℕ) : Type 0 where
  pub rule-is : rule ≡ number_of v
  pub place_is : place ≡ place_of v
  pub bytes-are : after ≡ merged_by v es before
