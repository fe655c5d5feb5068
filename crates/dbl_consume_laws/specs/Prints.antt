-- A record encodes at most one event, and a progress record the progress of at most one table's snapshot.
use Rattle.std.specs.Prelude.{◌≡◌, ℕ, ℤ, Bool, List, Option, Some, IfSome, slice_get}
use Rattle.serde_json.specs.Written.{compact_text}
use Rattle.dbl_record.specs.declared.record.Record.{Record}
use Rattle.dbl_model_table.specs.declared.identity.Identity.{Identity}
use Rattle.dbl_model_table.specs.declared.row.Key.{Key}
use Rattle.dbl_model_table.specs.declared.table.TableInfo.{TableInfo}
use Rattle.dbl_model_table.specs.declared.change.Commit.{Commit}
use Rattle.dbl_model_table.specs.Infos.{topic_of}
use Rattle.dbl_model_history.specs.Fit.{IsKeyOf}
use Rattle.dbl_model_event.specs.Events.{Event, events_of}
use Rattle.dbl_model_event.specs.EventJson.{print}
use Rattle.dbl_model_history.specs.Laws.{CommitsRise, AreDistinctTables}
use Rattle.dbl_model_event.specs.Snapshots.{progress_topic, progress_key, progress_data, progress_record}

-- Whether the event is the one with this number of the commit at this index of the history.
pub record IsEventOf (infos : List TableInfo) (history : List Commit) (place number : ℕ) (commit : Commit) (event : Event) : Type 0 where
  pub at_commit : slice_get history place ≡ Some commit
  pub at_event : slice_get (events_of infos commit) number ≡ Some event

-- Position and ordinal identify at most one event of a history.
abbrev pub PairsNameEvents : Type 0
PairsNameEvents = (infos : List TableInfo) (history : List Commit) (i j k l : ℕ) (c d : Commit) (e f : Event) → CommitsRise history
    → IsEventOf infos history i j c e → IsEventOf infos history k l d f → e.position ≡ f.position → e.ordinal ≡ f.ordinal
    → (i ≡ k) × (j ≡ l) × (c ≡ d) × (e ≡ f)

-- A record encodes at most one event, made at any time.
abbrev pub RecordsTellOneEvent : Type 0
RecordsTellOneEvent = (identity : Identity) (infos : List TableInfo) (history : List Commit) (i j k l : ℕ) (c d : Commit) (e f : Event)
    (now later : ℤ) → CommitsRise history
    → IsEventOf infos history i j c e → IsEventOf infos history k l d f → print identity c now e ≡ print identity d later f
    → (i ≡ k) × (j ≡ l) × (c ≡ d) × (e ≡ f)

-- Whether the record reports that a table's snapshot has reached a key, or none yet, and whether it is done.
pub record ReportsProgress (identity : Identity) (info : TableInfo) (item : Record) (through : Option Key) (done : Bool) : Type 0 where
  pub topic : item.topic ≡ progress_topic identity
  pub key : item.key ≡ Some (compact_text (progress_key info))
  pub value : item.value ≡ Some (compact_text (progress_data info through done))
  pub is_key : IfSome through (IsKeyOf info)

-- The progress record of a table reports its snapshot's progress.
abbrev pub ProgressRecordsTell : Type 0
ProgressRecordsTell = (identity : Identity) (info : TableInfo) (commit : Commit) (ordinal : ℕ) (through : Option Key) (done : Bool)
    → IfSome through (IsKeyOf info) → ReportsProgress identity info (progress_record identity info commit ordinal through done) through done

-- A record in the topic of a table reports no progress.
abbrev pub TableTopicsTellNone : Type 0
TableTopicsTellNone = (identity : Identity) (table info : TableInfo) (item : Record) (through : Option Key) (done : Bool)
    → item.topic ≡ topic_of identity table → ReportsProgress identity info item through done → ⊥

-- A record reports the progress of at most one table, with one key and one flag.
abbrev pub ProgressIsReadOnce : Type 0
ProgressIsReadOnce = (identity : Identity) (infos : List TableInfo) (t u : ℕ) (x y : TableInfo) (item : Record) (through last : Option Key)
    (done whole : Bool) → AreDistinctTables infos
    → slice_get infos t ≡ Some x → slice_get infos u ≡ Some y → ReportsProgress identity x item through done
    → ReportsProgress identity y item last whole → (t ≡ u) × (through ≡ last) × (done ≡ whole)
