-- The tuples of messages have as many cells as the row, at the most, so they are tuples of texts.
use Rattle.std.proofs.Common.{◌≤◌, Bool, true, false, Some, None, List, [], ◌∷◌, length, arith}
use Rattle.std.specs.Prelude.{◌||◌, if◌then◌else◌, IfSome}
use Rattle.std.specs.List.{AllByRecursion}
use Rattle.std.proofs.lemmas.List.{length-map}
use Rattle.dbl_pgmsg.specs.declared.messages.OldTuple.TheVariants as old
use Rattle.dbl_model_table.specs.declared.table.RawColumn.{RawColumn}
use Rattle.dbl_model_table.specs.declared.table.RawTable.{RawTable}
use Rattle.dbl_source_log.specs.Texts.{Texts}
use Rattle.dbl_tables_rows.specs.declared.demo_table.DemoTable.{DemoTable}
use Rattle.dbl_tables_rows.specs.Sending.{raw_of, sent_cell, whole_tuple, key_cells, key_tuple, new_cells, old_tuple, optional_old}
use Rattle.dbl_tables_rows.specs.Given.{IsUtf8Cell, IsUtf8Old, IsUtf8OldIfAny, old_tuple_cells}

key_cells_few : (raw : RawTable) (columns : List RawColumn) (row : Texts) → length (key_cells raw columns row) ≤ length row
key_cells_few raw [] row = omega arith
key_cells_few raw (column ∷ columns) [] = omega arith
key_cells_few raw (column ∷ columns) (text ∷ row) = let few = key_cells_few raw columns row in omega (arith, few)

pub new_cells_few : (table : DemoTable) (columns : List RawColumn) (before row : Texts) → length (new_cells table columns before row) ≤ length before
new_cells_few table [] before row = omega arith
new_cells_few table (column ∷ columns) [] row = omega arith
new_cells_few table (column ∷ columns) (x ∷ before) [] = omega arith
new_cells_few table (column ∷ columns) (x ∷ before) (text ∷ row) = let few = new_cells_few table columns before row in omega (arith, few)

pub old_is_utf8 : (table : DemoTable) (row : Texts) → length row ≤ 1600 → AllByRecursion IsUtf8Cell (old_tuple_cells (old_tuple table row)) → IsUtf8Old (old_tuple table row)
old_is_utf8 table row few = by table.full
  where
    by : (b : Bool) → AllByRecursion IsUtf8Cell (old_tuple_cells (if b then old.Whole (whole_tuple row) else old.Key (key_tuple (raw_of table) row))) → IsUtf8Old (if b then old.Whole (whole_tuple row) else old.Key (key_tuple (raw_of table) row))
    by true each = record { count = (let long = length-map row sent_cell in omega (arith, long, few)); each = each }
    by false each = record { count = (let less = key_cells_few (raw_of table) (raw_of table).columns row in omega (arith, less, few)); each = each }

pub optional_is_utf8 : (table : DemoTable) (moved : Bool) (row : Texts) → length row ≤ 1600 → IfSome (optional_old table moved row) (λ b. AllByRecursion IsUtf8Cell (old_tuple_cells b)) → IsUtf8OldIfAny (optional_old table moved row)
optional_is_utf8 table moved row few = by (table.full || moved)
  where
    by : (b : Bool) → IfSome (if b then Some (old_tuple table row) else None) (λ o. AllByRecursion IsUtf8Cell (old_tuple_cells o)) → IsUtf8OldIfAny (if b then Some (old_tuple table row) else None)
    by true each = old_is_utf8 table row few each
    by false each = tt
