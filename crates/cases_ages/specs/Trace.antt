-- Words of the plain functions that compute what is told and what is known.
use Rattle.std.specs.Prelude.{◌≡◌, ◌⊎◌, ℕ, Bool, IsTrue, Contains, Option, Some, None, List, slice_get}
use Rattle.std.specs.Bool.{Decides}
use Rattle.serde_json.specs.Written.{compact_text}
use Rattle.dbl_record.specs.declared.record.Record.{Record}
use Rattle.dbl_model_table.specs.declared.identity.Identity.{Identity}
use Rattle.dbl_model_table.specs.declared.row.Key.{Key}
use Rattle.dbl_model_table.specs.declared.table.TableInfo.{TableInfo}
use Rattle.dbl_model_history.specs.declared.cursor.Cursor.{Cursor}
use Rattle.dbl_model_history.specs.KeyBounds.{IsUpTo}
use Rattle.dbl_model_event.specs.Snapshots.{progress_topic, progress_key, progress_data}
use Rattle.dbl_consume_laws.specs.Prints.{ReportsProgress}

-- an answer is yes exactly where P holds, and there is none only where Q does
abbrev pub Tests : Option Bool → Type 0 → Type 0 → Type 0
Tests (Some answer) P Q = Decides answer P
Tests None P Q = Q

-- the record's texts are those of a progress record of the table that says this
pub record IsProgress (identity : Identity) (info : TableInfo) (last : Option Key) (done : Bool) (item : Record) : Type 0 where
  pub topic : item.topic ≡ progress_topic identity
  pub key : item.key ≡ Some (compact_text (progress_key info))
  pub value : item.value ≡ Some (compact_text (progress_data info last done))

-- two records are in one topic and under one key
abbrev pub IsBeside : Record → Record → Type 0
IsBeside item other = (item.topic ≡ other.topic) × (item.key ≡ other.key)

-- and have one value
abbrev pub IsAlike : Record → Record → Type 0
IsAlike item other = (item.topic ≡ other.topic) × (item.key ≡ other.key) × (item.value ≡ other.value)

-- the record stands where progress records of the table do
abbrev pub IsProgressOfTable : Identity → TableInfo → Record → Type 0
IsProgressOfTable identity info item = (item.topic ≡ progress_topic identity) × (item.key ≡ Some (compact_text (progress_key info)))

-- the record says of the table that its snapshot is done, or that it has come to the key or beyond it
pub record IsToldBy (identity : Identity) (info : TableInfo) (item : Record) (key : Key) : Type 0 where
  pub through : Option Key
  pub done : Bool
  pub tells : ReportsProgress identity info item through done
  pub covers : IsTrue done ⊎ IsUpTo through key

-- the record stands where progress records of the table do, and says nothing that is listed
pub record IsUnlisted (identity : Identity) (info : TableInfo) (item : Record) (said : List Cursor) : Type 0 where
  pub of : IsProgressOfTable identity info item
  pub unlisted : (place : ℕ) (cursor : Cursor) → slice_get said place ≡ Some cursor → ReportsProgress identity info item cursor.last cursor.done → ⊥

-- some record of these tells of the key
pub record IsToldIn (identity : Identity) (info : TableInfo) (records : List Record) (key : Key) : Type 0 where
  pub item : Record
  pub stands : Contains records item
  pub told : IsToldBy identity info item key

-- some record of these says of the table what isn't listed
pub record AreUnlistedOf (identity : Identity) (info : TableInfo) (records : List Record) (said : List Cursor) : Type 0 where
  pub item : Record
  pub stands : Contains records item
  pub is : IsUnlisted identity info item said

-- so it is of the captured table at this place
pub record AreUnlisted (identity : Identity) (infos : List TableInfo) (records : List Record) (said : List Cursor)
    (table : ℕ) : Type 0 where
  pub info : TableInfo
  pub captured : slice_get infos table ≡ Some info
  pub are : AreUnlistedOf identity info records said
