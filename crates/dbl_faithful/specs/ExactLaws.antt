-- Theorems about exact logs.
use Rattle.std.specs.Prelude.{◌≡◌, ◌↔◌, ℕ, ◌<◌, true, Some, List, ◌∷◌, ◌++◌, [], slice_get}
use Rattle.dbl_record.specs.declared.record.Record.{Record}
use Rattle.dbl_record.specs.Places.{place_of, IsBefore, IsFresh}
use Rattle.dbl_model_table.specs.declared.identity.Identity.{Identity}
use Rattle.dbl_model_table.specs.declared.table.TableInfo.{TableInfo}
use Rattle.dbl_consume_courses.specs.Versions.{Versioned}
use Rattle.dbl_consume_courses.specs.FitVersions.{AreFitVersions}
use Rattle.dbl_faithful.specs.Kinds.{is_change_record}
use Rattle.dbl_faithful.specs.ToldEvents.{ToldEvent, events_since, IsPrint, HasRecordOfEvent}
use Rattle.dbl_faithful.specs.ExactLogs.{news, IsExact, IsLogExact}

-- Whether the record is of a change and fresh at its position in the list.
pub record IsFreshChange (records : List Record) (item : Record) : Type 0 where
  pub place : ℕ
  pub stands : slice_get records place ≡ Some item
  pub fresh : IsFresh records place
  pub change : is_change_record item ≡ true

-- The news of a log are its fresh records of changes.
abbrev pub NewsAreFresh : Type 0
NewsAreFresh = (records : List Record) (item : Record)
    → ((number : ℕ) × (slice_get (news records) number ≡ Some item)) ↔ IsFreshChange records item

-- Later news have greater positions, so that they are in order, each once.
abbrev pub NewsRise : Type 0
NewsRise = (records : List Record) (i j : ℕ) (a b : Record)
    → i < j → slice_get (news records) i ≡ Some a → slice_get (news records) j ≡ Some b
    → IsBefore (place_of a) (place_of b)

-- An exact log has one number of events.
abbrev pub ExactLogsHaveOneCount : Type 0
ExactLogsHaveOneCount = (identity : Identity) (told : List ToldEvent) (records : List Record) (a b : ℕ)
    → IsExact identity told records a → IsExact identity told records b → a ≡ b

-- Whether an earlier record is of the same event: it equals this one except for the time when it was made.
pub record Repeats (identity : Identity) (records : List Record) (place : ℕ) (item : Record) : Type 0 where
  pub earlier : ℕ
  pub first : Record
  pub before : earlier < place
  pub stands : slice_get records earlier ≡ Some first
  pub event : ToldEvent
  pub was : IsPrint identity event first
  pub is : IsPrint identity event item

-- A record of a change that isn't fresh repeats an earlier one.
abbrev pub RepeatsAreEarlier : Type 0
RepeatsAreEarlier = (identity : Identity) (infos : List TableInfo) (versions : List Versioned) (start : ℕ) (records : List Record)
    (place : ℕ) (item : Record)
    → AreFitVersions infos versions → IsLogExact identity versions start records
    → slice_get records place ≡ Some item → is_change_record item ≡ true → (IsFresh records place → ⊥)
    → Repeats identity records place item

-- If a record is after an event that the log lacks, the log can't take that event's record and stay exact. A log with a snapshot's row
-- therefore has every earlier event.
abbrev pub GapsSpoilExactLogs : Type 0
GapsSpoilExactLogs = (identity : Identity) (infos : List TableInfo) (versions : List Versioned) (start : ℕ) (records : List Record)
    (place number : ℕ) (item late : Record) (event : ToldEvent)
    → AreFitVersions infos versions
    → slice_get records place ≡ Some item → slice_get (events_since start versions) number ≡ Some event
    → event.event.position < item.position → (HasRecordOfEvent identity records event → ⊥) → IsPrint identity event late
    → IsLogExact identity versions start (records ++ late ∷ []) → ⊥
