-- Which session blocks another.
use Rattle.std.specs.Prelude.{ℕ, ◌&&◌, not, List, [], bytes_eq}
use Rattle.std.specs.List.{list_any}
use Rattle.dbl_model_table.specs.declared.row.Key.{Key}
use Rattle.dbl_model_table.specs.declared.table.TableName.{TableName}
use Rattle.dbl_tables_rows.specs.declared.demo_table.DemoTable.{DemoTable}
use Rattle.dbl_tables_rows.specs.Acts.{Accepted}
use Rattle.dbl_tables_rows.specs.Locks.{holds_key, holds_some, key_holder, table_holder}
use Rattle.dbl_tables_rows.specs.Sending.{log_tables}
use Rattle.dbl_tables_rows.specs.Serial.{acts_after}
use Rattle.dbl_tables_rows.specs.Steps.{Step}
use Rattle.dbl_tables_laws.specs.Reachable.{AreTables}
use Rattle.dbl_tables_rows.specs.Holders.{IsFirstPassing}

-- The blocking session is the first in byte order of the others with a lock on one of the keys or tables.
pub record AreFirstHolders (tables : List DemoTable) (past : List Accepted) (session : List ℕ) : Type 0 where
  pub at_keys : (name : TableName) (keys : List Key)
      → IsFirstPassing (λ other. not (bytes_eq other session) && list_any (λ key. holds_key (log_tables tables) past name key other) keys)
      (key_holder (log_tables tables) past session name keys)
  pub at_tables : (names : List TableName)
      → IsFirstPassing (λ other. not (bytes_eq other session) && list_any (λ name. holds_some (log_tables tables) past name other) names)
      (table_holder (log_tables tables) past session names)

-- After all steps the blocking sessions are the first ones in byte order.
abbrev pub HoldersAreFirst : Type 0
HoldersAreFirst = (tables : List DemoTable) (calls : List Step) (session : List ℕ) → AreTables tables
    → AreFirstHolders tables (acts_after tables [] calls) session
