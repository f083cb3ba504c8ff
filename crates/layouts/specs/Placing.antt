-- DEFINITION. Storing one extent, or its length, in a place of a SCSI body (Rules 2.9, 2.13). In this order: an extent by its device id and its numbers, or
-- without device id and storage offset; the lent bytes afterwards, which stay where the body has no such place or the device ids no such row.
use Rattle.std.specs.Prelude.{ℕ, ◌+◌, ◌*◌, ◌/◌, Bool, cond, ◌&&◌, length, take, drop, replicate, ltb}
use Rattle.std.proofs.lemmas.List.Edits.{sets}
use Rattle.statuses.specs.Names.{Bytes}
use Rattle.xdr.specs.Be.{be_bytes}
use Rattle.extents.specs.declared.Extent.{Extent}
use Rattle.layouts.specs.declared.kinds.Kind.TheVariants.{Scsi}
use Rattle.extents.specs.declared.Numbers.{Numbers}
use Rattle.layouts.specs.Layout.{Row, body_size, held_in, row_bytes}

abbrev pub scsi : Extent → Row
scsi e = record { extent = e; handle = 0 }

abbrev pub placed : Bytes → Numbers → Bool → Extent
placed device n bare =
    cond bare
    (record { device = replicate 16 0; offset = n.offset; len = n.len; storage = 0; state = n.state })
    (record { device = device; offset = n.offset; len = n.len; storage = n.storage; state = n.state })

unfoldable pub extent_put : Bytes → ℕ → Bytes → ℕ → Numbers → Bool → Bytes
extent_put d i devices row n bare =
    cond (ltb i (held_in Scsi d) && ltb row (length devices / 16)) (sets d (body_size Scsi i) (row_bytes Scsi (scsi (placed (take 16 (drop (16 * row) devices)) n bare)))) d

-- the length stands after the device id and the offset
unfoldable pub length_put : Bytes → ℕ → ℕ → Bytes
length_put d i len = cond (ltb i (held_in Scsi d)) (sets d (body_size Scsi i + 24) (be_bytes 8 len)) d
