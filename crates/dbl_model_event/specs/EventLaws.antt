-- Theorems over the definitions of change events.
use Rattle.std.specs.Prelude.{◌≡◌, ℕ, ◌+◌, ℤ, pos, negsuc, List, [], ◌∷◌, ◌++◌, ◌==◌, length, true, Some, None, slice_get, decimal, codes}
use Rattle.std.specs.Fmt.{signed_decimal}
use Rattle.json.specs.Print.{quoted}
use Rattle.dbl_value_types.specs.declared.value.Val.TheVariants as val
use Rattle.dbl_record.specs.declared.record.Record.{Record}
use Rattle.dbl_model_table.specs.declared.identity.Identity.{Identity}
use Rattle.dbl_model_table.specs.declared.table.TableInfo.{TableInfo}
use Rattle.dbl_model_table.specs.declared.table.TableName.{TableName}
use Rattle.dbl_model_table.specs.declared.change.Change.TheVariants.{Insert}
use Rattle.dbl_model_table.specs.declared.change.Commit.{Commit}
use Rattle.dbl_model_table.specs.Tables.{column_names}
use Rattle.dbl_model_table.specs.Infos.{topic_of}
use Rattle.dbl_model_table.specs.Rows.{changes_of}
use Rattle.dbl_model_event.specs.EventJson.{milliseconds_of, envelopes}

-- Whether records have one position and the ordinals 0, 1, 2, .., and only the last is marked as the last.
abbrev pub AreNumbered : ℕ → List Record → Type 0
AreNumbered position records = (i : ℕ) (r : Record) → slice_get records i ≡ Some r
    → (r.position ≡ position) × (r.ordinal ≡ i) × (r.last ≡ (i + 1 == length records))

-- The records of each commit are numbered.
abbrev pub CommitsAreNumbered : Type 0
CommitsAreNumbered = (identity : Identity) (infos : List TableInfo) (commit : Commit) (now : ℤ)
    → AreNumbered commit.lsn.0 (envelopes identity infos commit now)

-- The JSON of a row of the number `id` and the text `name`, written out.
abbrev pub small_row_text : ℤ → List ℕ → List ℕ
small_row_text id name = codes "{\"id\":" ++ signed_decimal id ++ codes ",\"name\":" ++ quoted name ++ codes "}"

-- The JSON of the source of a commit's events, written out.
abbrev pub source_text : Identity → TableName → Commit → List ℕ
source_text identity table commit =
    codes "{\"connector\":\"postgresql\",\"db\":" ++ quoted identity.db ++ codes ",\"lsn\":" ++ decimal commit.lsn.0
    ++ codes ",\"name\":" ++ quoted identity.prefix ++ codes ",\"schema\":" ++ quoted table.schema
    ++ codes ",\"snapshot\":\"false\",\"table\":" ++ quoted table.name
    ++ codes ",\"ts_ms\":" ++ signed_decimal (milliseconds_of commit.time)
    ++ codes ",\"txId\":" ++ decimal commit.xid ++ codes ",\"version\":\"1.0\",\"xmin\":null}"

-- The value of an insert of a row with this JSON from a source with that JSON, written out.
abbrev pub created_text : List ℕ → List ℕ → ℤ → List ℕ
created_text row source now =
    codes "{\"after\":" ++ row ++ codes ",\"before\":null,\"op\":\"c\",\"source\":" ++ source
    ++ codes ",\"transaction\":null,\"ts_ms\":" ++ signed_decimal now ++ codes "}"

-- Whether a commit is an insert into a table of the columns `id`, its key, and `name`.
pub record IsSmallInsert (info : TableInfo) (commit : Commit) (id : ℤ) (name : List ℕ) : Type 0 where
  pub columns : column_names info.columns ≡ codes "id" ∷ codes "name" ∷ []
  pub key : info.key ≡ 0 ∷ []
  pub changes : changes_of commit ≡ Insert 0 (record { cells = val.Int id ∷ val.Text name ∷ [] }) ∷ []

-- An insert into a table of the columns `id` and `name` has one record, with this JSON.
abbrev pub SmallInsertsAre : Type 0
SmallInsertsAre = (identity : Identity) (info : TableInfo) (commit : Commit) (now : ℤ) (id : ℤ) (name : List ℕ)
    → IsSmallInsert info commit id name
    → envelopes identity (info ∷ []) commit now ≡ record {
      topic = topic_of identity info;
      key = Some (codes "{\"id\":" ++ signed_decimal id ++ codes "}");
      value = Some (created_text (small_row_text id name) (source_text identity info.name commit) now);
      position = commit.lsn.0;
      ordinal = 0;
      last = true;
      newkey = None;
      oldkey = None;
    } ∷ []

-- A commit at one microsecond before 2000 has the time of the last whole millisecond before it.
abbrev pub TimesAreRoundedDown : Type 0
TimesAreRoundedDown = milliseconds_of (negsuc 0) ≡ pos 946684799999
