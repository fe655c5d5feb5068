-- What the lines of the example say.
use Rattle.std.proofs.Common.{◌≡◌, ℕ, false, None, Some, List, [], ◌∷◌, refl}
use Rattle.std.specs.Prelude.{codes}
use Rattle.std.specs.Str.{chars, is_utf8}
use lib.Utf8.{encode}
use Rattle.dbl_base.specs.Lines.{lines_of, lines_text}
use Rattle.dbl_script.specs.ModelTable.declared.named_cell.NamedCell.{NamedCell}
use Rattle.dbl_script.specs.declared.script.Script.{Script}
use Rattle.dbl_script.specs.declared.script.ScriptRow.{ScriptRow}
use Rattle.dbl_script.specs.declared.script.ScriptTable.{ScriptTable}
use Rattle.dbl_script.specs.declared.script.Step.TheVariants.{Begin, Commit, Insert, Delete, Tick}
use Rattle.dbl_script.specs.Columns.{column_of, columns_of, named_column, typed_column}
use Rattle.dbl_script.specs.Grammar.{cell_in, cell_of, delete_in, identity_of, insert_in, line_at, null_cell_of, row_in, step_in, table_in, toast_of, value_cell_of, verb_in, worded}
use Rattle.dbl_script.specs.Reads.{all_of, some_of}
use Rattle.dbl_script.specs.Scripts.{first_bad, may_follow, script_of}
use Rattle.dbl_script.specs.Texts.{column_name_of, escape_of, escapes_of, listed_oid_of, measured_oid_of, name_of, number_of, oid_of, session_of, table_name_of, text_of, unescaped_bytes, utf8_text}
use Rattle.dbl_demo_wal.specs.Example.{example_workload_lines, example_wal_name}

abbrev pub table : ScriptTable
table = record {
  raw = record {
    name = example_wal_name;
    columns = record { name = codes "name"; oid = 25 } ∷ [];
    key = codes "name" ∷ [];
    version = 1;
  };
  full = false;
  toast = 2000;
  line = 1;
}

abbrev pub cells_of : List ℕ → List NamedCell
cells_of name = record { column = codes "name"; text = Some name } ∷ []

abbrev pub row : ScriptRow
row = record { table = example_wal_name; cells = cells_of (codes "a"); line = 2 }

-- the session
abbrev pub session : List ℕ
session = codes "s"

abbrev pub script : Script
script = record {
  tables = table ∷ [];
  rows = row ∷ [];
  steps =
      Begin session
      ∷ Insert session example_wal_name (cells_of (codes "b"))
      ∷ Commit session
      ∷ Tick
      ∷ Begin session
      ∷ Delete session example_wal_name (cells_of (codes "a"))
      ∷ Commit session
      ∷ [];
}

pub lines_are : lines_of (lines_text example_workload_lines) ≡ example_workload_lines
lines_are = refl

pub script_is : script ≡ script_of example_workload_lines
unfolding line_at worded table_in identity_of toast_of columns_of column_of named_column typed_column utf8_text name_of table_name_of column_name_of number_of oid_of listed_oid_of measured_oid_of some_of all_of is_utf8 chars encode row_in cell_of cell_in value_cell_of null_cell_of text_of unescaped_bytes escapes_of escape_of step_in session_of verb_in insert_in delete_in
script_is = refl

pub good : first_bad example_workload_lines ≡ None
unfolding line_at worded table_in identity_of toast_of columns_of column_of named_column typed_column utf8_text name_of table_name_of column_name_of number_of oid_of listed_oid_of measured_oid_of some_of all_of is_utf8 chars encode row_in cell_of cell_in value_cell_of null_cell_of text_of unescaped_bytes escapes_of escape_of step_in session_of verb_in insert_in delete_in may_follow
good = refl
