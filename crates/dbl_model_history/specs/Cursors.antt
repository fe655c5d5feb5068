-- The progress of the snapshots of captured tables.
use Rattle.std.specs.Prelude.{IfSome, List}
use Rattle.std.specs.List.{AllZip}
use Rattle.dbl_model_table.specs.declared.table.TableInfo.{TableInfo}
use Rattle.dbl_model_history.specs.declared.cursor.Cursor.{Cursor}
use Rattle.dbl_model_history.specs.Fit.{IsKeyOf}

-- Whether the progress is of this table: the last key, if there is one, is of the table's key types.
abbrev pub IsCursorOf : TableInfo → Cursor → Type 0
IsCursorOf info cursor = IfSome cursor.last (IsKeyOf info)

-- Whether there is one progress for each table, each of its table.
abbrev pub AreCursorsOf : List TableInfo → List Cursor → Type 0
AreCursorsOf infos cursors = AllZip IsCursorOf infos cursors
