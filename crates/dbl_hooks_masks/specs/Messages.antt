-- Messages of a log whose texts in one column are masked: PostgreSQL's "Logical Replication Message Formats", TupleData. Lists of messages
-- have the newest first.
use Rattle.std.specs.Prelude.{ℕ, zero, suc, ◌==◌, ◌&&◌, ◌||◌, not, Bool, if◌then◌else◌, Option, Some, None, List, [], ◌∷◌, bytes_eq}
use Rattle.std.specs.List.{position_from}
use Rattle.dbl_pgmsg.specs.declared.messages.Message.{Message}
use Rattle.dbl_pgmsg.specs.declared.messages.Message.TheVariants as says
use Rattle.dbl_pgmsg.specs.declared.messages.RelationColumn.{RelationColumn}
use Rattle.dbl_pgmsg.specs.declared.messages.OldTuple.{OldTuple}
use Rattle.dbl_pgmsg.specs.declared.messages.OldTuple.TheVariants.{Key, Whole}
use Rattle.dbl_pgmsg.specs.declared.messages.Tuple.{Tuple}
use Rattle.dbl_pgmsg.specs.declared.messages.TupleCell.{TupleCell}
use Rattle.dbl_pgmsg.specs.declared.messages.TupleCell.TheVariants.{Null, Unchanged, Text}
use Rattle.dbl_model_table.specs.declared.table.TableName.{TableName}
use Rattle.dbl_model_table.specs.Tables.{same_name, is_watermark}
use Rattle.dbl_model_commit.specs.declared.message_parts.Relation.{Relation}
use Rattle.dbl_model_commit.specs.Past.{table_named, relation_of}
use Rattle.dbl_hooks_masks.specs.declared.mask.Mask.{Mask}
use Rattle.dbl_hooks_masks.specs.declared.masking.Masking.{Masking}
use Rattle.dbl_hooks_masks.specs.Masks.{masked}

-- The column of this table with this name, and its mask.
abbrev pub masking : TableName → List ℕ → Mask → Masking
masking table column mask = record { table = table; column = column; mask = mask }

-- ---- which cells are masked

-- Whether a type has texts that are masked, by its OID (pg_type): text, varchar or bpchar.
abbrev pub is_text_type : ℕ → Bool
is_text_type oid = (oid == 25) || (oid == 1043) || (oid == 1042)

-- Whether a column of a Relation has this name and a type of texts.
abbrev pub is_masked_column : List ℕ → RelationColumn → Bool
is_masked_column name column = bytes_eq name column.name && is_text_type column.oid

-- Whether a Relation of this name describes this table, which isn't that of the watermarks.
abbrev pub describes : TableName → TableName → Bool
describes table name = same_name table name && not (is_watermark table)

-- The index of the masked column in the tuples of a table with this name and these columns.
abbrev pub place_among : TableName → List ℕ → TableName → List RelationColumn → Option ℕ
place_among table column name columns = if describes table name then position_from (is_masked_column column) 0 columns else None

-- The index of the masked column in the tuples of a table with this Relation, if it was described.
abbrev pub masked_place : TableName → List ℕ → Option Relation → Option ℕ
masked_place table column None = None
masked_place table column (Some relation) = place_among table column relation.name relation.columns

-- The OID of a Relation, and the index of its masked column; nothing for another message.
abbrev pub described_place : TableName → List ℕ → Message → Option (ℕ × Option ℕ)
described_place table column (says.Relation oid namespace name identity columns) =
    Some (oid, place_among table column (table_named namespace name) columns)
described_place table column message = None

-- ---- masked messages

-- A masked cell: null stays null, and an unsent value stays unsent.
abbrev pub masked_cell : Mask → TupleCell → TupleCell
masked_cell mask Null = Null
masked_cell mask Unchanged = Unchanged
masked_cell mask (Text text) = Text (masked mask text)

-- The cells of a tuple, of which the one at this index is masked.
abbrev pub masked_cells : Mask → ℕ → List TupleCell → List TupleCell
masked_cells mask place [] = []
masked_cells mask zero (c ∷ cells) = masked_cell mask c ∷ cells
masked_cells mask (suc place) (c ∷ cells) = c ∷ masked_cells mask place cells

-- A tuple whose cell at this index, if any, is masked.
abbrev pub masked_tuple : Mask → Option ℕ → Tuple → Tuple
masked_tuple mask None tuple = tuple
masked_tuple mask (Some place) tuple = record { cells = masked_cells mask place tuple.cells }

-- The old key or row, masked.
abbrev pub masked_old : Mask → Option ℕ → OldTuple → OldTuple
masked_old mask place (Key tuple) = Key (masked_tuple mask place tuple)
masked_old mask place (Whole tuple) = Whole (masked_tuple mask place tuple)

-- The old key or row, if one was sent, masked.
abbrev pub masked_optional : Mask → Option ℕ → Option OldTuple → Option OldTuple
masked_optional mask place None = None
masked_optional mask place (Some before) = Some (masked_old mask place before)

-- The index of the masked column in the tuples of the table with this OID, after these messages.
abbrev pub place_after : Masking → List Message → ℕ → Option ℕ
place_after plan ms oid = masked_place plan.table plan.column (relation_of oid ms)

-- A message that comes after these, masked: the new row of an Insert or an Update, and the old row or key.
abbrev pub masked_message : Masking → List Message → Message → Message
masked_message plan ms (says.Insert oid row) = says.Insert oid (masked_tuple plan.mask (place_after plan ms oid) row)
masked_message plan ms (says.Update oid before row) = says.Update oid (masked_optional plan.mask (place_after plan ms oid) before)
    (masked_tuple plan.mask (place_after plan ms oid) row)
masked_message plan ms (says.Delete oid before) = says.Delete oid (masked_old plan.mask (place_after plan ms oid) before)
masked_message plan ms message = message

-- A list of messages, each masked.
abbrev pub masked_messages : Masking → List Message → List Message
masked_messages plan [] = []
masked_messages plan (m ∷ ms) = masked_message plan ms m ∷ masked_messages plan ms
