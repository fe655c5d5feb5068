-- Theorems over the definitions of tables and keys.
use Rattle.std.specs.Prelude.{◌≡◌, ◌↔◌, None}
use Rattle.std.specs.Bool.{Decides}
use Rattle.std.specs.Cmp.{IsTotalOrder}
use Rattle.dbl_model_table.specs.declared.row.Key.{Key}
use Rattle.dbl_model_table.specs.declared.table.RawTable.{RawTable}
use Rattle.dbl_model_table.specs.declared.table.TableInfo.{TableInfo}
use Rattle.dbl_model_table.specs.declared.identity.Identity.{Identity}
use Rattle.dbl_model_table.specs.Infos.{IsInfoOf, topic_of}
use Rattle.dbl_model_table.specs.Made.{table_fault}
use Rattle.dbl_model_table.specs.Keys.{key_cmp, same_key}

-- The order of keys is total, and the test of two keys decides whether they are equal.
abbrev pub KeysAreOrdered : Type 0
KeysAreOrdered = IsTotalOrder key_cmp × ((a b : Key) → Decides (same_key a b) (a ≡ b))

-- A catalogue entry has at most one capture description.
abbrev pub EntriesHaveOneInfo : Type 0
EntriesHaveOneInfo = (raw : RawTable) (a b : TableInfo) → IsInfoOf raw a → IsInfoOf raw b → a ≡ b

-- A catalogue entry has no error if and only if it has a capture description.
abbrev pub CapturableEntriesHaveAnInfo : Type 0
CapturableEntriesHaveAnInfo = (raw : RawTable) → (table_fault raw ≡ None) ↔ ((info : TableInfo) × IsInfoOf raw info)

-- Tables with equal topics have equal names.
abbrev pub TopicsNameTables : Type 0
TopicsNameTables = (identity : Identity) (a b : TableInfo) → topic_of identity a ≡ topic_of identity b → a.name ≡ b.name
