-- What a session finds, and what it is configured for.
use Rattle.std.specs.Prelude.{◌≡◌, ℕ, ℤ, ◌==◌, ◌+◌, if◌then◌else◌, Option, Some, None, Bool, IsTrue, List, [], length, map, ◌⊎◌, ◌≤◌}
use Rattle.dbl_record.specs.declared.record.Record.{Record}
use Rattle.dbl_model_table.specs.declared.config.Config.{Config}
use Rattle.dbl_topic.specs.Model.{SinkModel}
use Rattle.dbl_capture_work.specs.Source.Model.{SourceModel}
use Rattle.dbl_capture_work.specs.Disk.Model.{DiskModel}
use Rattle.dbl_capture_work.specs.ModelHistory.Fit.{AreInfosOf}
use Rattle.dbl_capture_work.specs.ModelHistory.History.{History}
use Rattle.dbl_capture_work.specs.SourceModel.Calls.{Moved}
use Rattle.dbl_capture_work.specs.SourceModel.Growth.{Grows}
use Rattle.dbl_capture_work.specs.SourceModel.Standings.{SourceState}
use Rattle.dbl_capture_work.specs.Offset.declared.offset.Offset.{Offset}
use Rattle.dbl_capture_work.specs.OffsetStore.Stores.{StoreOn, HoldsOffset}
use Rattle.dbl_capture_work.specs.Faithful.Onward.{IsFirstOffset}
use Rattle.dbl_capture_work.specs.Begins.{AreInfosAt}
use Rattle.dbl_capture_work.specs.CaptureModel.Entries.{SessionStart}
use Rattle.dbl_capture_work.specs.CaptureModel.Going.{BeganWith}

-- ---- the configuration

-- If an offset is stored, its identity and its tables are the configured ones.
abbrev pub IsOfConfig : Config → Option Offset → Type 0
IsOfConfig config None = Unit {0}
IsOfConfig config (Some offset) = (offset.identity ≡ config.identity) × (map (λ info. info.name) offset.infos ≡ config.tables)

-- The session starts with this configuration and time.
pub record IsEntryOf (config : Config) (now : ℤ) (entry : SessionStart) : Type 0 where
  pub config_is : entry.config ≡ config
  pub now_is : entry.now ≡ now

-- The start of a session that finds this source state and this offset; the sink's contents are left out.
abbrev pub session_start_at : Config → ℤ → SourceState → Option Offset → SessionStart
session_start_at config now s stored = record {
  config = config;
  now = now;
  history = s.history;
  confirmed = s.confirmed;
  groups = [];
  offset = stored;
}

-- ---- what a session finds

-- Source, sink and store have the contents with which the session starts.
pub record Found {S K D : Type 0} (stands : S → SourceState → Type 0) (holds : K → List (List Record) → Type 0)
    (model : DiskModel D) (entry : SessionStart) (src : S) (sink : K) (store : StoreOn D) : Type 0 where
  pub standing : SourceState
  pub source_is : stands src standing
  pub history : standing.history ≡ entry.history
  pub confirmed : standing.confirmed ≡ entry.confirmed
  pub sink_is : holds sink entry.groups
  pub store_is : HoldsOffset model store entry.offset

-- The source has the contents with which the session starts, and so have sink and store if theirs are known.
pub record IsFound {S K D : Type 0} (tell : Bool) (source_model : SourceModel S) (sink_model : SinkModel K)
    (model : DiskModel D) (entry : SessionStart) (src : S) (sink : K) (store : StoreOn D) : Type 0 where
  pub standing : SourceState
  pub source_is : source_model.stands src standing
  pub history : standing.history ≡ entry.history
  pub confirmed : standing.confirmed ≡ entry.confirmed
  pub offset_is : entry.offset ≡ store.offset
  pub sink_is : IsTrue tell → sink_model.holds sink entry.groups
  pub store_is : IsTrue tell → HoldsOffset model store entry.offset

-- The session may begin with this offset, while only others have committed.
pub record BeginsAt (entry : SessionStart) (first : Offset) (s t : SourceState) : Type 0 where
  pub moved : Moved s t
  pub infos : AreInfosOf t.history first.infos
  pub began : BeganWith entry t.history first

-- The session has stored its first offset, while only others have committed.
pub record BeganAt {S K D : Type 0} (tell : Bool) (source_model : SourceModel S) (sink_model : SinkModel K)
    (model : DiskModel D) (entry : SessionStart) (first : Offset) (src : S) (sink : K) (store : StoreOn D) : Type 0 where
  pub standing : SourceState
  pub source_is : source_model.stands src standing
  pub grown : Grows entry.history standing.history
  pub confirmed : standing.confirmed ≡ entry.confirmed
  pub infos : AreInfosOf standing.history first.infos
  pub began : BeganWith entry standing.history first
  pub sink_is : IsTrue tell → sink_model.holds sink entry.groups
  pub store_is : IsTrue tell → HoldsOffset model store (Some first)

-- ---- what its report says

-- The LSN that the session stored last, and 0 if it stored none, in which case the incarnation is unchanged.
abbrev pub position_of : Option Offset → Option Offset → ℕ
position_of None None = 0
position_of None (Some new) = new.lsn.0
position_of (Some old) None = 0
position_of (Some old) (Some new) = if old.incarnation == new.incarnation then 0 else new.lsn.0

-- ---- what it stores

-- The offset is one that the session stored: of the configured tables, or the one that it found at another position of the log, with the
-- next incarnation.
abbrev pub IsStoredBy : Config → Option Offset → Offset → Type 0
IsStoredBy config None new = (new.identity ≡ config.identity) × (map (λ info. info.name) new.infos ≡ config.tables) × (new.incarnation ≡ 1)
IsStoredBy config (Some old) new = (new.identity ≡ old.identity) × (new.infos ≡ old.infos) × (new.start ≡ old.start)
    × (new.incarnation ≡ old.incarnation + 1)

-- The LSN of the stored offset is confirmed, unless it is the one that was found, or the one at which a first session began.
abbrev pub HasConfirmed : Option Offset → Option Offset → SourceState → Type 0
HasConfirmed found None t = Unit {0}
HasConfirmed None (Some stored) t = (stored.lsn.0 ≤ t.confirmed.0) ⊎ (stored.lsn ≡ stored.start)
HasConfirmed (Some old) (Some stored) t = (stored.lsn.0 ≤ t.confirmed.0) ⊎ (stored.lsn ≡ old.lsn)

-- A first offset of the configured tables, as the catalogue of some later state of the source has them, each with its version at one time
-- since this history, that starts at a position of that state, not below any commit of the history.
pub record IsFirstAtHead (config : Config) (history : History) (offset : Offset) : Type 0 where
  pub later : History
  pub grown : Grows history later
  pub infos : AreInfosOf later offset.infos
  pub described : AreInfosAt later (length history.commits) offset.infos offset.versions
  pub is : IsFirstOffset config history later offset

-- A first offset of the configured tables, as the catalogue of a later history had them, each with its version at one time since this
-- history, that starts at a position of that history, not below any commit of this one.
pub record IsFirstIn (config : Config) (history later : History) (offset : Offset) : Type 0 where
  pub infos : AreInfosAt later (length history.commits) offset.infos offset.versions
  pub is : IsFirstOffset config history later offset

-- A first offset that is stored is one at the head of the log.
abbrev pub IsFirstStored : Config → History → Option Offset → Option Offset → Type 0
IsFirstStored config history None None = Unit {0}
IsFirstStored config history None (Some new) = IsFirstAtHead config history new
IsFirstStored config history (Some old) new = Unit {0}

-- The session has stored an offset.
pub record HasStored (config : Config) (old new : Option Offset) : Type 0 where
  pub offset : Offset
  pub is : new ≡ Some offset
  pub by : IsStoredBy config old offset
