-- What the sessions of the example did, and what its log gains.
use Rattle.std.proofs.Common.{◌≡◌, ℕ, true, false, Some, List, [], ◌∷◌, refl}
use Rattle.std.specs.Prelude.{codes}
use Rattle.dbl_pgmsg.specs.declared.messages.Message.{Message}
use Rattle.dbl_pgmsg.specs.Grammar.{cell, int16, int32, old_tuple, spelling, tuple}
use Rattle.dbl_script.specs.Value.declared.column_type.PgType.TheVariants as type
use Rattle.dbl_script.specs.Value.Types.{type_of}
use Rattle.dbl_script.specs.ModelTable.declared.table.TableInfo.{TableInfo}
use Rattle.dbl_tables_laws.specs.SourceLog.Relations.{first_oid}
use Rattle.dbl_tables_laws.specs.TablesRows.declared.demo_table.DemoTable.{DemoTable}
use Rattle.dbl_tables_laws.specs.TablesRows.Acts.{Accepted}
use Rattle.dbl_tables_laws.specs.TablesRows.Acts.Accepted.{Began, Committed, Did}
use Rattle.dbl_tables_laws.specs.TablesRows.Sending.{delete_message, insert_message}
use Rattle.dbl_tables_laws.specs.TablesRows.Serial.{initial_steps}
use Rattle.dbl_demo_wal.specs.declared.entry.Entry.{Entry}
use Rattle.dbl_demo_wal.specs.declared.entry.Entry.TheVariants.{Commits}
use Rattle.dbl_demo_wal.specs.Groups.{released}
use Rattle.dbl_demo_wal.specs.Workloads.{AreAccepted, Workload, acts_at, workload_rows}
use Rattle.dbl_demo_wal.specs.Example.{example_wal_name}
use Rattle.dbl_demo_wal.proofs.ExampleLines.{script, session}

abbrev pub info : TableInfo
info = record {
  name = example_wal_name;
  columns = record { name = codes "name"; ty = type.Text } ∷ [];
  key = 0 ∷ [];
  -- the name is good, and the key is a column
  sound = λ i. true;
}

abbrev pub demo : DemoTable
demo = record { info = info; full = false; toast = 2000 }

abbrev pub workload : Workload
workload = record { script = script; tables = demo ∷ [] }

abbrev pub put : List ℕ → Message
put name = insert_message first_oid (Some name ∷ [])

abbrev pub removed : List ℕ → Message
removed name = delete_message first_oid demo (Some name ∷ [])

abbrev pub acts_first : List Accepted
acts_first = Committed [] ∷ Did [] (put (codes "a")) ∷ Began [] ∷ []

abbrev pub acts_between : List Accepted
acts_between = Committed session ∷ Did session (put (codes "b")) ∷ Began session ∷ acts_first

abbrev pub acts_last : List Accepted
acts_last = Committed session ∷ Did session (removed (codes "a")) ∷ Began session ∷ acts_between

pub accepted : AreAccepted (demo ∷ []) [] (initial_steps (workload_rows workload))
unfolding type_of spelling tuple cell old_tuple int16 int32
accepted = (refl, (refl, (refl, tt)))

pub first_is : acts_at workload 0 ≡ acts_first
unfolding type_of spelling tuple cell old_tuple int16 int32
first_is = refl

pub between_is : acts_at workload 4 ≡ acts_between
unfolding type_of spelling tuple cell old_tuple int16 int32
between_is = refl

pub last_is : acts_at workload 7 ≡ acts_last
unfolding type_of spelling tuple cell old_tuple int16 int32
last_is = refl

abbrev pub gained : List Entry
gained = Commits 3 (put (codes "b") ∷ []) ∷ Commits 7 (removed (codes "a") ∷ []) ∷ []

pub released_is : released workload 0 7 ≡ gained
unfolding type_of spelling tuple cell old_tuple int16 int32
released_is = refl
