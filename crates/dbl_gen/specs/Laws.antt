-- Theorem about the generated workloads.
use Rattle.std.specs.Prelude.{◌≡◌, ◌≤◌, ◌+◌, ◌*◌, ℕ, zero, suc, false, Some, None, List, [], ◌∷◌, length, codes}
use Rattle.std.specs.Fmt.{decimal}
use Rattle.dbl_base.specs.Lines.{lines_of}
use Rattle.dbl_model_table.specs.declared.named_cell.NamedCell.{NamedCell}
use Rattle.dbl_script.specs.declared.script.ScriptRow.{ScriptRow}
use Rattle.dbl_script.specs.declared.script.ScriptTable.{ScriptTable}
use Rattle.dbl_script.specs.Scripts.{script_of, first_bad}
use Rattle.dbl_gen.specs.Workload.{numbered, workload}

-- the table of accounts, with the OIDs of int8 and text (PostgreSQL's catalog `pg_type`)
abbrev pub accounts_table : ScriptTable
accounts_table = record {
  raw = record {
    name = record { schema = codes "public"; name = codes "accounts" };
    columns = record { name = codes "id"; oid = 20 } ∷ record { name = codes "owner"; oid = 25 }
        ∷ record { name = codes "balance"; oid = 20 } ∷ record { name = codes "note"; oid = 25 } ∷ [];
    key = codes "id" ∷ [];
    version = 1;
  };
  full = false;
  toast = 64;
  line = 1;
}

-- the table without rows, with the OIDs of int4 and text
abbrev pub empty_table : ScriptTable
empty_table = record {
  raw = record {
    name = record { schema = codes "public"; name = codes "empty" };
    columns = record { name = codes "id"; oid = 23 } ∷ record { name = codes "name"; oid = 25 } ∷ [];
    key = codes "id" ∷ [];
    version = 1;
  };
  full = false;
  toast = 64;
  line = 2;
}

-- the cell of this text in this column
abbrev pub named_cell : List ℕ → List ℕ → NamedCell
named_cell column text = record { column = column; text = Some text }

-- the cells of an account in the initial state
abbrev pub account_cells : ℕ → List NamedCell
account_cells key =
    named_cell (codes "id") (decimal key) ∷ named_cell (codes "owner") (numbered (codes "u") key)
    ∷ named_cell (codes "balance") (codes "100")
    ∷ named_cell (codes "note") (codes "nnnnnnnnnnnnnnnnnnnnnnnnnnnnnnnnnnnnnnnnnnnnnnnnnnnnnnnnnnnnnnnn") ∷ []

-- the row of an account at a line
abbrev pub account_row : ℕ → ℕ → ScriptRow
account_row key line = record { table = accounts_table.raw.name; cells = account_cells key; line = line }

-- the rows of this many accounts, the first of which has this key and is at this line
abbrev pub account_rows : ℕ → ℕ → ℕ → List ScriptRow
account_rows key line zero = []
account_rows key line (suc count) = account_row key line ∷ account_rows (key + 1) (line + 1) count

-- the text is accepted as a script of the two tables and of this many rows
pub record IsRead (rows : ℕ) (text : List ℕ) : Type 0 where
  pub good : first_bad (lines_of text) ≡ None
  pub few : length (lines_of text) ≤ 1000000
  pub tables : (script_of (lines_of text)).tables ≡ accounts_table ∷ empty_table ∷ []
  pub rows_are : (script_of (lines_of text)).rows ≡ account_rows 1 3 rows

-- each workload within the limits of rows and groups is accepted
abbrev pub WorkloadsAreRead : Type 0
WorkloadsAreRead = (number rows groups : ℕ) → rows ≤ 400000 → groups ≤ 90000 → IsRead rows (workload number rows groups)

-- each workload within these limits has at most so many bytes, so that `init` can read it if these are at most 67,108,864
abbrev pub WorkloadsAreShort : Type 0
WorkloadsAreShort = (number rows groups : ℕ) → rows ≤ 400000 → groups ≤ 90000
    → length (workload number rows groups) ≤ 126 * rows + 231 * groups + 160
