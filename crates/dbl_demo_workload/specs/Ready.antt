-- A workload that was read, before its first step.
use Rattle.std.specs.Prelude.{◌≡◌, ℕ, IfSome, option_to_list, List, map}
use Rattle.dbl_model_table.specs.declared.table.TableName.{TableName}
use Rattle.dbl_tables_rows.specs.Sending.{log_tables}
use Rattle.dbl_tables.specs.Stands.{Stands}
use Rattle.dbl_demo_wal.specs.Workloads.{IsWorkload, Workload, acts_at, log_at, steps_of}
use Rattle.dbl_demo_workload.specs.declared.preparing.Prepared.{Prepared}
use Rattle.dbl_demo_workload.specs.Steps.{IsShortCommit}

-- The prepared state of a workload: its tables, the store with its initial rows, the changes that inserted them, and its steps.
pub record IsReady (w : Workload) (ready : Prepared) : Type 0 where
  pub names : ready.names.items ≡ map (λ table. table.info.name) w.tables
  pub tables : ready.tables.items ≡ log_tables w.tables
  pub stands : Stands w.tables (acts_at w 0) ready.store
  pub steps : ready.steps.items ≡ steps_of w
  pub rows : log_at w 0 ≡ option_to_list ready.rows
  pub short : IfSome ready.rows IsShortCommit

-- The names are those of the tables of a workload that can be run.
abbrev pub AreTableNames : List TableName → Type 0
AreTableNames names = (script : List ℕ) × (w : Workload) × IsWorkload script w × (names ≡ map (λ table. table.info.name) w.tables)
