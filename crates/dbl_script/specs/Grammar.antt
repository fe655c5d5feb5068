-- The content of a workload's line.
use Rattle.std.specs.Prelude.{ℕ, ◌==◌, Bool, true, false, if◌then◌else◌, Option, Some}
use Rattle.std.specs.Prelude.{None, option_map, List, [], ◌∷◌, length, bytes_eq, codes}
use Rattle.dbl_base.specs.Lines.{is_passed_over}
use Rattle.dbl_model_table.specs.declared.named_cell.NamedCell.{NamedCell}
use Rattle.dbl_script.specs.declared.script.ScriptTable.{ScriptTable}
use Rattle.dbl_script.specs.declared.script.ScriptRow.{ScriptRow}
use Rattle.dbl_script.specs.declared.script.Step.{Step}
use Rattle.dbl_script.specs.declared.script.Step.TheVariants.{Begin, Commit, Rollback, Insert, Update, Delete, Truncate, Tick}
use Rattle.dbl_script.specs.declared.line.Line.{Line}
use Rattle.dbl_script.specs.declared.line.Line.TheVariants.{Passed, Table, Row, Act}
use Rattle.dbl_script.specs.Columns.{columns_in, key_in, columns_of}
use Rattle.dbl_script.specs.Words.{cut_at, words_of}
use Rattle.dbl_script.specs.Reads.{◌>>=◌, some_of}
use Rattle.dbl_script.specs.Texts.{table_name_of, session_of, column_name_of, number_of, text_of}

-- ---- cells

-- `<column>=<text>`
unfoldable pub value_cell_of : List ℕ × List ℕ → Option NamedCell
value_cell_of parts = do
  column ← column_name_of parts.0
  text ← text_of parts.1
  Some (record { column = column; text = Some text })

-- `<column>~`, for null
unfoldable pub null_cell_of : Option (List ℕ × List ℕ) → Option NamedCell
null_cell_of None = None
null_cell_of (Some parts) = if length parts.1 == 0 then (do
  column ← column_name_of parts.0
  Some (record { column = column; text = None })) else None

-- a cell, given its parts around `=` if there is one
unfoldable pub cell_in : List ℕ → Option (List ℕ × List ℕ) → Option NamedCell
cell_in word None = null_cell_of (cut_at 126 word)
cell_in word (Some parts) = value_cell_of parts

-- a cell: a column's name, and `=` with a text or `~`
unfoldable pub cell_of : List ℕ → Option NamedCell
cell_of word = cell_in word (cut_at 61 word)

-- one or more cells
abbrev pub cells_of : List (List ℕ) → Option (List NamedCell)
cells_of words = some_of cell_of words

-- ---- tables

-- the replica identity, `default` or `full`
unfoldable pub identity_of : List ℕ → Option Bool
identity_of word = if bytes_eq word (codes "default") then Some false else (if bytes_eq word (codes "full") then Some true else None)

-- the size from which texts are stored out of line, `toast <N>`
unfoldable pub toast_of : List ℕ → List ℕ → Option ℕ
toast_of word size = if bytes_eq word (codes "toast") then number_of size else None

-- a table: `<schema.name> <default or full> toast <N> <columns>`
unfoldable pub table_in : ℕ → List (List ℕ) → Option ScriptTable
table_in line (name ∷ identity ∷ toast ∷ size ∷ columns) = do
  named ← table_name_of name
  full ← identity_of identity
  bytes ← toast_of toast size
  words ← columns_of columns
  Some (
      record {
        raw = record { name = named; columns = columns_in words; key = key_in words; version = 1 };
        full = full;
        toast = bytes;
        line = line;
      })
table_in line _ = None

-- ---- rows and steps

-- a row: `<schema.name> <cells>`
unfoldable pub row_in : ℕ → List (List ℕ) → Option ScriptRow
row_in line [] = None
row_in line (name ∷ words) = do
  table ← table_name_of name
  cells ← cells_of words
  Some (record { table = table; cells = cells; line = line })

-- the step, if no words are left
abbrev pub alone : {A : Type 0} → A → List (List ℕ) → Option A
alone a [] = Some a
alone a (word ∷ words) = None

-- an insert: `<schema.name> <cells>`
unfoldable pub insert_in : List ℕ → List (List ℕ) → Option Step
insert_in session [] = None
insert_in session (name ∷ words) = do
  table ← table_name_of name
  cells ← cells_of words
  Some (Insert session table cells)

-- the word is `set`
abbrev pub is_set : List ℕ → Bool
is_set word = bytes_eq word (codes "set")

-- the words before the first `set`
abbrev pub before_set : List (List ℕ) → List (List ℕ)
before_set [] = []
before_set (word ∷ words) = if is_set word then [] else word ∷ before_set words

-- the words after the first `set`
abbrev pub words_after_set : List (List ℕ) → List (List ℕ)
words_after_set [] = []
words_after_set (word ∷ words) = if is_set word then words else words_after_set words

-- an update: `<schema.name> <cells> set <cells>`, the first cells being the key's
unfoldable pub update_in : List ℕ → List (List ℕ) → Option Step
update_in session [] = None
update_in session (name ∷ words) = do
  table ← table_name_of name
  key ← cells_of (before_set words)
  set ← cells_of (words_after_set words)
  Some (Update session table key set)

-- a delete: `<schema.name> <cells>`, the cells being the key's
unfoldable pub delete_in : List ℕ → List (List ℕ) → Option Step
delete_in session [] = None
delete_in session (name ∷ words) = do
  table ← table_name_of name
  key ← cells_of words
  Some (Delete session table key)

-- a truncate: one or more tables
unfoldable pub truncate_in : List ℕ → List (List ℕ) → Option Step
truncate_in session words = do
  tables ← some_of table_name_of words
  Some (Truncate session tables)

-- a session's step, given the verb and the words after it
unfoldable pub verb_in : List ℕ → List ℕ → List (List ℕ) → Option Step
verb_in session verb words =
    if bytes_eq verb (codes "begin") then alone (Begin session) words
    else (if bytes_eq verb (codes "commit") then alone (Commit session) words
    else (if bytes_eq verb (codes "rollback") then alone (Rollback session) words
    else (if bytes_eq verb (codes "insert") then insert_in session words
    else (if bytes_eq verb (codes "update") then update_in session words
    else (if bytes_eq verb (codes "delete") then delete_in session words
    else (if bytes_eq verb (codes "truncate") then truncate_in session words else None))))))

-- a step: `<session> <verb> ..`
unfoldable pub step_in : List ℕ → List (List ℕ) → Option Step
step_in first [] = None
step_in first (verb ∷ words) = do
  session ← session_of first
  verb_in session verb words

-- ---- lines

-- the content of the line with this number and these words
unfoldable pub worded : ℕ → List (List ℕ) → Option Line
worded number [] = None
worded number (first ∷ words) =
    if bytes_eq first (codes "table") then option_map Table (table_in number words)
    else (if bytes_eq first (codes "row") then option_map Row (row_in number words)
    else (if bytes_eq first (codes "tick") then option_map Act (alone Tick words)
    else option_map Act (step_in first words)))

-- the content of the line with this number, if it is valid
unfoldable pub line_at : ℕ → List ℕ → Option Line
line_at number line = if is_passed_over line then Some Passed else worded number (words_of line)
