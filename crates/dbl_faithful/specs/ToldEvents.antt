-- The events of commits, in order, and the records that encode them. The time when a record is made shows only in the outer `ts_ms`, so
-- that records of one event are otherwise equal. Debezium PostgreSQL connector, "Change event values".
use Rattle.std.specs.Prelude.{◌≡◌, ℕ, ℤ, ◌<◌, nat_lt, Some, None, List, map, filter, flat_map, slice_get}
use Rattle.dbl_record.specs.declared.record.Record.{Record}
use Rattle.dbl_model_table.specs.declared.identity.Identity.{Identity}
use Rattle.dbl_model_table.specs.declared.change.Commit.{Commit}
use Rattle.dbl_consume_laws.specs.ModelHistory.Ranges.{IsMomentInRange}
use Rattle.dbl_consume_laws.specs.ModelEvent.Events.{Event, events_of}
use Rattle.dbl_consume_laws.specs.ModelEvent.EventJson.{print}
use Rattle.dbl_consume_laws.specs.ModelEvent.Clashes.{notice_clash}
use Rattle.dbl_consume_courses.specs.Versions.{Versioned, plain_commit}

-- An event with its commit.
pub record ToldEvent : Type 0 where
  pub commit : Commit
  pub event : Event

-- The event with its commit.
abbrev pub tell : Commit → Event → ToldEvent
tell commit event = record { commit = commit; event = event }

-- The events of a commit, in the columns in force from it on. An alteration has none.
abbrev pub events_of_commit : Versioned → List ToldEvent
events_of_commit v = map (tell (plain_commit v)) (events_of v.infos (plain_commit v))

-- The events of some commits, in order.
abbrev pub events_of_commits : List Versioned → List ToldEvent
events_of_commits versions = flat_map events_of_commit versions

-- The commits after a position.
abbrev pub commits_since : ℕ → List Versioned → List Versioned
commits_since position versions = filter (λ v. nat_lt position v.lsn.0) versions

-- The events of the commits after a position.
abbrev pub events_since : ℕ → List Versioned → List ToldEvent
events_since position versions = events_of_commits (commits_since position versions)

-- Whether the record encodes this event, made at any time.
pub record IsPrint (identity : Identity) (told : ToldEvent) (item : Record) : Type 0 where
  pub now : ℤ
  pub in_range : IsMomentInRange now
  pub printed : item ≡ print identity told.commit now told.event

-- Whether the record encodes this event, made at any time, and no cell of the event is the placeholder.
pub record IsClearPrint (identity : Identity) (told : ToldEvent) (item : Record) : Type 0 where
  pub is : IsPrint identity told item
  pub clear : notice_clash identity.placeholder told.event.notice ≡ None

-- Whether the record encodes one of these events.
pub record IsAmong (identity : Identity) (told : List ToldEvent) (item : Record) : Type 0 where
  pub number : ℕ
  pub event : ToldEvent
  pub stands : slice_get told number ≡ Some event
  pub is : IsPrint identity event item

-- Whether some record of the list encodes the event.
pub record HasRecordOfEvent (identity : Identity) (records : List Record) (event : ToldEvent) : Type 0 where
  pub place : ℕ
  pub item : Record
  pub stands : slice_get records place ≡ Some item
  pub is : IsPrint identity event item

-- Whether each of these events has a record in the list.
abbrev pub ArePut : Identity → List Record → List ToldEvent → Type 0
ArePut identity records told = (number : ℕ) (event : ToldEvent) → slice_get told number ≡ Some event
    → HasRecordOfEvent identity records event

-- Whether each of these events before a position has a record in the list.
abbrev pub ArePutBefore : Identity → List Record → List ToldEvent → ℕ → Type 0
ArePutBefore identity records told position =
    (number : ℕ) (event : ToldEvent) → slice_get told number ≡ Some event → event.event.position < position
    → HasRecordOfEvent identity records event
