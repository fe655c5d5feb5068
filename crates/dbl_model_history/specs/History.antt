-- A source's history as in its catalogue and its log: tables by name, cells as texts.
use Rattle.std.specs.Prelude.{ℕ, ℤ, ◌<◌, Option, List, [], ◌∷◌, map, find}
use Rattle.dbl_base.specs.declared.lsn.Lsn.{Lsn}
use Rattle.dbl_model_table.specs.declared.table.TableName.{TableName}
use Rattle.dbl_model_table.specs.declared.table.RawColumn.{RawColumn}
use Rattle.dbl_model_table.specs.declared.table.RawTable.{RawTable}
use Rattle.dbl_model_table.specs.declared.table.RawRow.{RawRow}
use Rattle.dbl_model_table.specs.Tables.{same_name}

-- A cell of an update: a text or null, or left unsent.
pub data RawCell : Type 0 where
  Given : Option (List ℕ) → RawCell
  Unchanged : RawCell

-- The cells of a key, in key order.
abbrev pub RawKey : Type 0
RawKey = List (Option (List ℕ))

-- A change of a table, named by its table. `Update` has the old key, the old row if one was sent, and the cells; an old row has null in
-- each unsent column. `Clear` is a truncation.
pub data RawChange : Type 0 where
  Insert : TableName → RawRow → RawChange
  Update : TableName → RawKey → Option RawRow → List RawCell → RawChange
  Delete : TableName → RawKey → RawRow → RawChange
  Clear : TableName → RawChange

-- The table that a change is of.
abbrev pub name_of : RawChange → TableName
name_of (Insert name row) = name
name_of (Update name key old cells) = name
name_of (Delete name key old) = name
name_of (Clear name) = name

-- The contents of a commit: changes, the watermark's new value, or an alteration: the table, and its columns and rows from there on.
pub data RawBody : Type 0 where
  Changes : List RawChange → RawBody
  Mark : List ℕ → RawBody
  Alter : TableName → List RawColumn → List RawRow → RawBody

-- A commit of the source's log.
pub record RawCommit : Type 0 where
  pub lsn : Lsn
  pub end_lsn : Lsn
  pub time : ℤ
  pub xid : ℕ
  pub body : RawBody

-- The changes of a commit's contents; a watermark's commit has none, nor has an alteration's.
abbrev pub raw_changes_of : RawBody → List RawChange
raw_changes_of (Changes changes) = changes
raw_changes_of (Mark value) = []
raw_changes_of (Alter name columns rows) = []

-- A source's history: the catalogue's entry of each table before all commits, and the commits.
pub record History : Type 0 where
  pub tables : List RawTable
  pub commits : List RawCommit

-- Whether each number of the list is above the bound and the ones before it.
abbrev pub AreRising : ℕ → List ℕ → Type 0
AreRising below [] = Unit {0}
AreRising below (lsn ∷ lsns) = (below < lsn) × AreRising lsn lsns

-- Whether the LSNs of the commits are above 0 and rise.
abbrev pub IsRising : History → Type 0
IsRising history = AreRising 0 (map (λ commit. commit.lsn.0) history.commits)

-- The catalogue's entry of a table, the first of its name.
abbrev pub entry_of : History → TableName → Option RawTable
entry_of history name = find (λ raw. same_name raw.name name) history.tables
