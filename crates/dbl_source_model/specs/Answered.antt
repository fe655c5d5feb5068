-- The answers of describe, head and select in terms of the source's states before and after the call.
use Rattle.std.specs.Prelude.{◌≡◌, ◌≤◌, ℕ, Option, length}
use Rattle.dbl_base.specs.declared.lsn.Lsn.{Lsn}
use Rattle.dbl_model_commit.specs.ModelTable.declared.table.TableName.{TableName}
use Rattle.dbl_model_commit.specs.ModelTable.declared.table.RawTable.{RawTable}
use Rattle.dbl_model_commit.specs.ModelTable.declared.row.Key.{Key}
use Rattle.dbl_model_commit.specs.ModelHistory.History.{History}
use Rattle.dbl_model_commit.specs.ModelHistory.InForce.{entry_at}
use Rattle.dbl_source_model.specs.declared.selected.Selected.{Selected}
use Rattle.dbl_source_model.specs.Standings.{SourceState}
use Rattle.dbl_source_model.specs.Selected.{Selects}
use Rattle.dbl_source_model.specs.Calls.{Moved, IsHead}

-- Whether this is the catalogue's entry of this name at one position between two states of a history, with the columns in force and the
-- version there; None exactly if there is no such table.
pub record IsEntryBetween (name : TableName) (entry : Option RawTable) (old new : History) : Type 0 where
  pub place : ℕ
  pub not_before : length old.commits ≤ place
  pub not_after : place ≤ length new.commits
  pub is : entry ≡ entry_at new place name

-- Whether the answer is the catalogue's entry of this name at one position during the call.
abbrev pub IsDescribed : TableName → Option RawTable → SourceState → SourceState → Type 0
IsDescribed name entry s t = Moved s t × IsEntryBetween name entry s.history t.history

-- Whether the answer is the LSN of the last commit.
abbrev pub IsHeaded : Lsn → SourceState → SourceState → Type 0
IsHeaded lsn s t = Moved s t × IsHead lsn s t

-- Whether the answer is, for a conforming source, the table's version and its first rows above a key, both at one position during the call.
abbrev pub IsSelectAnswer : Type 0 → TableName → Option Key → ℕ → Selected → SourceState → SourceState → Type 0
IsSelectAnswer honest name above limit answer s t =
    Moved s t × (honest → Selects name above limit s.history t.history answer)
