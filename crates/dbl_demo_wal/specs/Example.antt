-- A small workload whose select distinguishes one position: a second row is inserted before its rows are taken, and the first is deleted
-- before it returns.
use Rattle.std.specs.Prelude.{◌≡◌, ℕ, None, Some, List, [], ◌∷◌, codes}
use Rattle.dbl_base.specs.Lines.{lines_text}
use Rattle.dbl_script.specs.ModelTable.declared.table.RawRow.{RawRow}
use Rattle.dbl_script.specs.ModelTable.declared.table.TableName.{TableName}
use Rattle.dbl_tables_laws.specs.SourceModel.declared.selected.Selected.{Selected}
use Rattle.dbl_tables_laws.specs.SourceModel.Selected.{Selects}
use Rattle.dbl_demo_wal.specs.Groups.{group_end}
use Rattle.dbl_demo_wal.specs.CrashState.{added_by, with_entries}
use Rattle.dbl_demo_wal.specs.Sound.{IsSilent}
use Rattle.dbl_demo_wal.specs.Standings.{history_in}
use Rattle.dbl_demo_wal.specs.Wals.{Wal, IsWal}
use Rattle.dbl_demo_wal.specs.Workloads.{acts_at, steps_of}
use Rattle.dbl_demo_wal.specs.Shown.{AreRowsShown}

-- The name of the example's table.
abbrev pub example_wal_name : TableName
example_wal_name = record { schema = codes "public"; name = codes "names" }

-- The example's lines: a table whose only column is its key, one row, and two groups of steps.
abbrev pub example_workload_lines : List (List ℕ)
example_workload_lines =
    codes "table public.names default toast 2000 name:text:key"
    ∷ codes "row public.names name=a"
    ∷ codes "s begin"
    ∷ codes "s insert public.names name=b"
    ∷ codes "s commit"
    ∷ codes "tick"
    ∷ codes "s begin"
    ∷ codes "s delete public.names name=a"
    ∷ codes "s commit"
    ∷ []

-- A row of one text.
abbrev pub example_name_row : List ℕ → RawRow
example_name_row name = record { cells = Some name ∷ [] }

-- The example's rows, which exist together only between its groups of steps.
abbrev pub example_both_rows : List RawRow
example_both_rows = example_name_row (codes "a") ∷ example_name_row (codes "b") ∷ []

-- The answer with these rows, of version 1.
abbrev pub example_answer : Selected
example_answer = record { version = 1; rows = example_both_rows }

-- The log with the initial row that a select of the example finds, and the rows that it returns. Its groups end after four steps and seven.
pub record IsSelectExample (bytes : List ℕ) (wal : Wal) : Type 0 where
  pub script : wal.script ≡ lines_text example_workload_lines
  pub silent : IsSilent wal.workload wal.entries 0
  pub first : group_end (steps_of wal.workload) 0 ≡ 4
  pub second : group_end (steps_of wal.workload) 4 ≡ 7
  pub is : IsWal bytes (with_entries wal (added_by wal 0 7 []))
  pub shown : AreRowsShown wal.workload.tables (acts_at wal.workload 4) example_wal_name None 10 example_both_rows
  -- Other rows are committed at the call and at the return.
  pub at_call : AreRowsShown wal.workload.tables (acts_at wal.workload 0) example_wal_name None 10 (example_name_row (codes "a") ∷ [])
  pub at_return : AreRowsShown wal.workload.tables (acts_at wal.workload 7) example_wal_name None 10 (example_name_row (codes "b") ∷ [])
  pub answered : Selects example_wal_name None 10 (history_in wal) (history_in (with_entries wal (added_by wal 0 7 []))) example_answer

-- The example's log and select exist.
abbrev pub ASelectStands : Type 0
ASelectStands = (bytes : List ℕ) × (wal : Wal) × IsSelectExample bytes wal
