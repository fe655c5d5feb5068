-- The outcome of any number of sessions and crashes.
use Rattle.std.specs.Prelude.{◌≡◌, ℕ, ◌+◌, ◌<◌, ◌≤◌, max, Option, Some, None, List, ◌++◌, length, map, zip, slice_get}
use Rattle.std.specs.List.{AllByRecursion, AllZip}
use Rattle.dbl_record.specs.declared.record.Record.{Record}
use Rattle.dbl_record.specs.Cuts.{joined}
use Rattle.dbl_model_table.specs.declared.config.Config.{Config}
use Rattle.dbl_model_history.specs.History.{History}
use Rattle.dbl_model_history.specs.InForce.{IsAlike}
use Rattle.dbl_capture_laws.specs.Offset.declared.offset.Offset.{Offset}
use Rattle.dbl_capture_laws.specs.Faithful.Stores.{IsPositionOf, lag, repeated}
use Rattle.dbl_capture_laws.specs.Faithful.Onward.{ExtendsList, IsLaterProgress}
use Rattle.dbl_capture_laws.specs.CaptureModel.Entries.{appends_after}
use Rattle.dblog_promise.specs.Restarts.{FoundStores, most_every}

-- ---- progress

-- A later offset of the same connector and tables: its LSN, its versions and the progress of each table whose version is the same don't
-- fall, and its incarnation is at most so many higher.
pub record IsFarther (sessions : ℕ) (old new : Offset) : Type 0 where
  pub identity : new.identity ≡ old.identity
  pub infos : AllZip IsAlike old.infos new.infos
  pub versions : AllZip (λ before after. before ≤ after) old.versions new.versions
  pub start : new.start ≡ old.start
  pub lsn : old.lsn.0 ≤ new.lsn.0
  pub cursors : AllZip IsLaterProgress (zip old.versions old.cursors) (zip new.versions new.cursors)
  pub not_less : old.incarnation ≤ new.incarnation
  pub not_more : new.incarnation ≤ old.incarnation + sessions

-- One of the sessions stored this first offset: for its configured tables, starting at a position of the history at or above every commit
-- that existed at first, with an incarnation of at most the number of sessions.
pub record WasBegun (sessions : List Config) (old new : History) (offset : Offset) : Type 0 where
  pub place : ℕ
  pub config : Config
  pub asked : slice_get sessions place ≡ Some config
  pub identity : offset.identity ≡ config.identity
  pub tables : map (λ info. info.name) offset.infos ≡ config.tables
  pub start : IsPositionOf new offset.start.0
  pub not_before : AllByRecursion (λ commit. commit.lsn.0 ≤ offset.start.0) old.commits
  pub counted : 1 ≤ offset.incarnation
  pub not_more : offset.incarnation ≤ length sessions

-- A stored offset stays stored and only advances.
abbrev pub OffsetWentOn : List Config → History → History → Option Offset → Option Offset → Type 0
OffsetWentOn sessions old new None None = Unit {0}
OffsetWentOn sessions old new None (Some offset) = WasBegun sessions old new offset
OffsetWentOn sessions old new (Some offset) None = ⊥
OffsetWentOn sessions old new (Some before) (Some after) = IsFarther (length sessions) before after

-- All records that were appended have positions above this one.
pub record AppendsAfter (from : ℕ) (old new : List Record) : Type 0 where
  pub more : List Record
  pub is : new ≡ old ++ more
  pub above : AllByRecursion (λ item. from < item.position) more

-- The sessions took nothing back, and the confirmed LSN doesn't fall; what they appended is above the LSN that was stored at first, or
-- above the start of the first offset; and a restart redelivers no more commits than at first, or than one of the sessions was configured
-- for.
pub record WentOn (sessions : List Config) (old new : FoundStores) : Type 0 where
  pub tables : new.history.tables ≡ old.history.tables
  pub commits : ExtendsList old.history.commits new.history.commits
  pub groups : ExtendsList old.groups new.groups
  pub offset : OffsetWentOn sessions old.history new.history old.offset new.offset
  pub no_fall : old.confirmed.0 ≤ new.confirmed.0
  pub appends : AppendsAfter (appends_after old.offset new.offset) (joined old.groups) (joined new.groups)
  pub lag_is : lag new.history (joined new.groups) new.offset
      ≤ max (most_every sessions) (lag old.history (joined old.groups) old.offset)

-- ---- bounded redelivery

-- A commit with this position is one of those that the lag counts.
abbrev pub IsCountedByLag : History → List Record → Offset → ℕ → Type 0
IsCountedByLag history records offset position =
    (number : ℕ) × (slice_get (map (λ commit. commit.lsn.0) (repeated history records offset)) number ≡ Some position)
