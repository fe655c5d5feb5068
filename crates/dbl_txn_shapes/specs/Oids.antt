-- For private clauses: the OIDs of the captured tables' Relations. Lists of messages have the newest first.
use Rattle.std.specs.Prelude.{◌≡◌, not, ◌==◌, ℕ, Bool, true, false, if◌then◌else◌, Option, Some, None, option_map, unwrap_or}
use Rattle.std.specs.Prelude.{List, length, slice_get, slice_set}
use Rattle.dbl_pgmsg.specs.declared.messages.Message.{Message}
use Rattle.dbl_model_table.specs.declared.table.TableName.{TableName}
use Rattle.dbl_model_table.specs.declared.table.TableInfo.{TableInfo}
use Rattle.dbl_model_table.specs.Tables.{is_watermark}
use Rattle.dbl_model_table.specs.Infos.{number_of}
use Rattle.dbl_model_commit.specs.Shapes.{has_other_oid}
use Rattle.dbl_txn_shapes.specs.declared.oids.TableOids.{TableOids}
use Rattle.dbl_txn_shapes.specs.declared.oids.TableOids.TheVariants.{Unseen, One, Several}

-- Whether an earlier Relation of the table has another OID.
abbrev pub other_among : TableOids → ℕ → Bool
other_among Unseen oid = false
other_among (One first) oid = not (first == oid)
other_among Several oid = true

-- The same by the table's index.
abbrev pub other_at : List TableOids → ℕ → ℕ → Bool
other_at list place oid = unwrap_or (option_map (λ oids. other_among oids oid) (slice_get list place)) false

-- A table's OIDs with one more.
abbrev pub with_oid : ℕ → TableOids → TableOids
with_oid oid oids = if other_among oids oid then Several else One oid

-- The tables' OIDs with one more of the table at an index.
abbrev pub with_oid_of : ℕ → ℕ → List TableOids → Option TableOids → List TableOids
with_oid_of place oid list None = list
with_oid_of place oid list (Some oids) = slice_set list place (with_oid oid oids)

-- The OIDs are those of the table's Relations among these messages.
abbrev pub IsOidsOf : List Message → TableName → TableOids → Type 0
IsOidsOf ms name oids = (oid : ℕ) → has_other_oid oid name ms ≡ other_among oids oid

-- Each captured table's OIDs are stored at its index.
pub record KnowsOids (infos : List TableInfo) (ms : List Message) (list : List TableOids) : Type 0 where
  pub long : length list ≡ length infos
  pub each : (name : TableName) (place : ℕ) → is_watermark name ≡ false → number_of infos name ≡ Some place
      → (oids : TableOids) × (slice_get list place ≡ Some oids) × IsOidsOf ms name oids
