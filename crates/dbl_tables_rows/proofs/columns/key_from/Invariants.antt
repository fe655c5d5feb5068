use Rattle.std.proofs.Common.{◌≡◌, map, take}
use Rattle.dbl_source_log.specs.ModelHistory.Typed.{typed_cells}
use Rattle.dbl_model_table.specs.Tables.{type_at}
use Rattle.dbl_tables_rows.proofs.columns.key_from.Given as goal

-- the types of the key's columns by their places; the catalogue's are the same (types_named)
abbrev pub invariant-loop-i : goal.invariant-loop-i
invariant-loop-i l = l.cells.items ≡ typed_cells (map (type_at l.info.columns) l.info.key) (take l.i l.texts)
