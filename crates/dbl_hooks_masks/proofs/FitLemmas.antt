-- A masked message can be encoded if the message can.
use Rattle.std.proofs.Common.{◌≡◌, ℕ, zero, suc, ◌≤◌, Option, Some, None, List, [], ◌∷◌, length, refl, ap, arith}
use Rattle.std.specs.List.{flat_map, AllByRecursion}
use Rattle.std.proofs.lemmas.List.{length-append}
use Rattle.dbl_pgmsg.specs.declared.messages.Message.{Message}
use Rattle.dbl_pgmsg.specs.declared.messages.Message.TheVariants.{Begin, Commit, Origin, TypeName, Relation, Insert, Update, Delete, Truncate, Logical}
use Rattle.dbl_pgmsg.specs.declared.messages.OldTuple.{OldTuple}
use Rattle.dbl_pgmsg.specs.declared.messages.OldTuple.TheVariants.{Key, Whole}
use Rattle.dbl_pgmsg.specs.declared.messages.Tuple.{Tuple}
use Rattle.dbl_pgmsg.specs.declared.messages.TupleCell.{TupleCell}
use Rattle.dbl_pgmsg.specs.declared.messages.TupleCell.TheVariants.{Null, Unchanged, Text}
use Rattle.dbl_pgmsg.specs.Grammar.{cell, tuple, old_tuple, optional_tuple, spelling}
use Rattle.dbl_pgmsg.specs.Grammar.{FitsCell, FitsTuple, FitsOld, FitsOptional, FitsFields, Fits}
use Rattle.dbl_pgmsg.proofs.Sizes.{text_size, tuple_size, key_size, whole_size}
use Rattle.dbl_pgmsg.proofs.MessageSizes.{insert_size, update_size, delete_size}
use Rattle.dbl_hooks_masks.specs.declared.mask.Mask.{Mask}
use Rattle.dbl_hooks_masks.specs.declared.masking.Masking.{Masking}
use Rattle.dbl_hooks_masks.specs.Masks.{masked}
use Rattle.dbl_hooks_masks.specs.Messages.{masked_cell, masked_cells, masked_tuple, masked_old, masked_optional, place_after, masked_message}
use Rattle.dbl_hooks_masks.proofs.MaskLemmas.{masked_utf8, masked_short}

-- ---- cells

cell_fits : (mask : Mask) (c : TupleCell) → FitsCell c → FitsCell (masked_cell mask c)
cell_fits mask Null fits = fits
cell_fits mask Unchanged fits = fits
cell_fits mask (Text text) fits = record { utf8 = masked_utf8 mask text fits.utf8; short = omega (arith, masked_short mask text fits.utf8, fits.short) }

cell_short : (mask : Mask) (c : TupleCell) → FitsCell c → length (cell (masked_cell mask c)) ≤ length (cell c)
cell_short mask Null fits = omega arith
cell_short mask Unchanged fits = omega arith
cell_short mask (Text text) fits = omega (arith, masked_short mask text fits.utf8, text_size text, text_size (masked mask text))

cells_count : (mask : Mask) (place : ℕ) (cells : List TupleCell) → length (masked_cells mask place cells) ≡ length cells
cells_count mask zero [] = refl
cells_count mask (suc place) [] = refl
cells_count mask zero (c ∷ cells) = refl
cells_count mask (suc place) (c ∷ cells) = ap suc (cells_count mask place cells)

cells_fit : (mask : Mask) (place : ℕ) (cells : List TupleCell) → AllByRecursion FitsCell cells
    → AllByRecursion FitsCell (masked_cells mask place cells)
cells_fit mask zero [] all = all
cells_fit mask (suc place) [] all = all
cells_fit mask zero (c ∷ cells) all = (cell_fits mask c all.0, all.1)
cells_fit mask (suc place) (c ∷ cells) all = (all.0, cells_fit mask place cells all.1)

cells_short : (mask : Mask) (place : ℕ) (cells : List TupleCell) → AllByRecursion FitsCell cells
    → length (flat_map cell (masked_cells mask place cells)) ≤ length (flat_map cell cells)
cells_short mask zero [] all = omega arith
cells_short mask (suc place) [] all = omega arith
cells_short mask zero (c ∷ cells) all =
    omega (
      arith,
      cell_short mask c all.0,
      length-append (cell c) (flat_map cell cells),
      length-append (cell (masked_cell mask c)) (flat_map cell cells),
    )
cells_short mask (suc place) (c ∷ cells) all =
    omega (
      arith,
      cells_short mask place cells all.1,
      length-append (cell c) (flat_map cell cells),
      length-append (cell c) (flat_map cell (masked_cells mask place cells)),
    )

-- ---- tuples

tuple_fits : (mask : Mask) (place : Option ℕ) (t : Tuple) → FitsTuple t → FitsTuple (masked_tuple mask place t)
tuple_fits mask None t fits = fits
tuple_fits mask (Some place) t fits =
    record { count = omega (arith, cells_count mask place t.cells, fits.count); each = cells_fit mask place t.cells fits.each }

tuple_short : (mask : Mask) (place : Option ℕ) (t : Tuple) → FitsTuple t → length (tuple (masked_tuple mask place t)) ≤ length (tuple t)
tuple_short mask None t fits = omega arith
tuple_short mask (Some place) t fits =
    omega (arith, cells_short mask place t.cells fits.each, tuple_size t, tuple_size (masked_tuple mask (Some place) t))

old_fits : (mask : Mask) (place : Option ℕ) (old : OldTuple) → FitsOld old → FitsOld (masked_old mask place old)
old_fits mask place (Key t) fits = tuple_fits mask place t fits
old_fits mask place (Whole t) fits = tuple_fits mask place t fits

old_short : (mask : Mask) (place : Option ℕ) (old : OldTuple) → FitsOld old → length (old_tuple (masked_old mask place old)) ≤ length (old_tuple old)
old_short mask place (Key t) fits = omega (arith, tuple_short mask place t fits, key_size t, key_size (masked_tuple mask place t))
old_short mask place (Whole t) fits = omega (arith, tuple_short mask place t fits, whole_size t, whole_size (masked_tuple mask place t))

optional_fits : (mask : Mask) (place : Option ℕ) (before : Option OldTuple) → FitsOptional before → FitsOptional (masked_optional mask place before)
optional_fits mask place None fits = fits
optional_fits mask place (Some old) fits = old_fits mask place old fits

optional_short : (mask : Mask) (place : Option ℕ) (before : Option OldTuple) → FitsOptional before
    → length (optional_tuple (masked_optional mask place before)) ≤ length (optional_tuple before)
optional_short mask place None fits = omega arith
optional_short mask place (Some old) fits = old_short mask place old fits

-- ---- messages

pub fields_fit : (plan : Masking) (ms : List Message) (m : Message) → FitsFields m → FitsFields (masked_message plan ms m)
fields_fit plan ms (Begin lsn time xid) fits = fits
fields_fit plan ms (Commit flags lsn end_lsn time) fits = fits
fields_fit plan ms (Origin lsn name) fits = fits
fields_fit plan ms (TypeName oid namespace name) fits = fits
fields_fit plan ms (Relation oid namespace name identity columns) fits = fits
fields_fit plan ms (Insert oid row) fits = (fits.0, tuple_fits plan.mask (place_after plan ms oid) row fits.1)
fields_fit plan ms (Update oid before row) fits =
    (fits.0, optional_fits plan.mask (place_after plan ms oid) before fits.1, tuple_fits plan.mask (place_after plan ms oid) row fits.2)
fields_fit plan ms (Delete oid before) fits = (fits.0, old_fits plan.mask (place_after plan ms oid) before fits.1)
fields_fit plan ms (Truncate options oids) fits = fits
fields_fit plan ms (Logical flags lsn prefix content) fits = fits

message_short : (plan : Masking) (ms : List Message) (m : Message) → FitsFields m
    → length (spelling (masked_message plan ms m)) ≤ length (spelling m)
message_short plan ms (Begin lsn time xid) fits = omega arith
message_short plan ms (Commit flags lsn end_lsn time) fits = omega arith
message_short plan ms (Origin lsn name) fits = omega arith
message_short plan ms (TypeName oid namespace name) fits = omega arith
message_short plan ms (Relation oid namespace name identity columns) fits = omega arith
message_short plan ms (Insert oid row) fits =
    let place = place_after plan ms oid in
    omega (arith, tuple_short plan.mask place row fits.1, insert_size oid row, insert_size oid (masked_tuple plan.mask place row))
message_short plan ms (Update oid before row) fits =
    let place = place_after plan ms oid in
    omega (
      arith,
      optional_short plan.mask place before fits.1,
      tuple_short plan.mask place row fits.2,
      update_size oid before row,
      update_size oid (masked_optional plan.mask place before) (masked_tuple plan.mask place row),
    )
message_short plan ms (Delete oid before) fits =
    let place = place_after plan ms oid in
    omega (arith, old_short plan.mask place before fits.1, delete_size oid before, delete_size oid (masked_old plan.mask place before))
message_short plan ms (Truncate options oids) fits = omega arith
message_short plan ms (Logical flags lsn prefix content) fits = omega arith

pub message_fits : (plan : Masking) (ms : List Message) (m : Message) → Fits m → Fits (masked_message plan ms m)
message_fits plan ms m fits =
    record { fields = fields_fit plan ms m fits.fields; short = omega (arith, message_short plan ms m fits.fields, fits.short) }
