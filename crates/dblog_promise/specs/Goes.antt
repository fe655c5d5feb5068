-- How a run of the connector changes the contents of the disks: they only advance.
use Rattle.std.specs.Prelude.{◌≡◌, ℕ, ◌++◌, ◌≤◌, max, Option, Some, None, List}
use Rattle.dbl_record.specs.Cuts.{cut}
use Rattle.dbl_model_table.specs.declared.config.Config.{Config}
use Rattle.dbl_capture_laws.specs.Faithful.Onward.{GoesOnward, Adds}
use Rattle.dbl_capture_laws.specs.Faithful.Stores.{lag}
use Rattle.dbl_capture_laws.specs.CaptureModel.Entries.{appends_after}
use Rattle.dblog_promise.specs.Restarts.{stores_of}
use Rattle.dblog_promise.specs.Contents.{Contents, ReadAs, confirmed_at, found_in, history_at, records_of_contents}
use Rattle.dblog_promise.specs.Kept.{IsKept}

-- What a run with this configuration may make of the old contents.
pub record AdvancesFrom (config : Config) (old new : Contents) : Type 0 where
  -- The workload is the same.
  pub script : new.wal.script ≡ old.wal.script
  -- The history and the topic log were only appended to. A stored offset stays one of the same connector: its LSN and the progress of its
  -- tables don't fall, and its incarnation is the old one or the next. A first offset is of the configured tables, and starts at a position
  -- of the history, at or above every commit that the run found.
  pub onward : GoesOnward config (stores_of (found_in old)) (stores_of (found_in new))
  -- The confirmed LSN doesn't fall.
  pub no_fall : (confirmed_at old).0 ≤ (confirmed_at new).0
  -- The appended records have positions above the LSN that was stored, or above the start of a first offset; and their places rise.
  pub adds : Adds (appends_after old.offset new.offset) (records_of_contents old) (records_of_contents new)
  -- The appended records are in batches, each of one position, and of at most 1,000 records and 16,777,216 bytes or of one longer record.
  pub grouped : new.groups ≡ old.groups ++ cut adds.more
  -- A restart redelivers no more commits than before the run, or than `every`, the configured number of commits between two stores.
  pub lag_is : lag (history_at new) (records_of_contents new) new.offset
      ≤ max config.every (lag (history_at old) (records_of_contents old) old.offset)

-- What a run may make of the old contents; nothing changes if its arguments request nothing that is possible there.
abbrev pub Advances : Option Config → Contents → Contents → Type 0
Advances None old new = new ≡ old
Advances (Some config) old new = AdvancesFrom config old new

-- ---- after a crash

-- A run made these contents of some that a crash might have left before it, with the configuration that its arguments request there.
pub record HasPredecessor (asks : Contents → Option Config) (wals logs stores : List ℕ → Type 0) (new : Contents) : Type 0 where
  pub wal : List ℕ
  pub topics : List ℕ
  pub offsets : List ℕ
  pub may_wal : wals wal
  pub may_topics : logs topics
  pub may_offsets : stores offsets
  pub old : Contents
  pub read : ReadAs wal topics offsets old
  pub advances : Advances (asks old) old new

-- The bytes of the three disks are read as crash-consistent contents, which a run made of contents that were possible before it.
pub record IsLeft (asks : Contents → Option Config) (wals logs stores : List ℕ → Type 0) (w t f : List ℕ) : Type 0 where
  pub held : Contents
  pub read : ReadAs w t f held
  pub kept : IsKept held
  pub predecessor : HasPredecessor asks wals logs stores held
