-- Right snapshots: each row of a snapshot in a log is fresh and the source's row at its own position, in the columns in force there, after
-- the records of all earlier commits. After the DBLog paper, made exact.
use Rattle.std.specs.Prelude.{◌≡◌, ◌==◌, ℕ, Some, false, List, ◌++◌, filter, slice_get}
use Rattle.dbl_record.specs.declared.record.Record.{Record}
use Rattle.dbl_record.specs.Places.{IsFresh}
use Rattle.dbl_model_table.specs.declared.identity.Identity.{Identity}
use Rattle.dbl_model_table.specs.declared.change.Body.TheVariants.{Mark}
use Rattle.dbl_model_table.specs.declared.change.Commit.{Commit}
use Rattle.dbl_consume_laws.specs.ModelHistory.MarkTexts.{High, side_text}
use Rattle.dbl_consume_courses.specs.Versions.{Versioned}
use Rattle.dbl_consume_courses.specs.VersionStores.{HasWindowAt}
use Rattle.dbl_faithful.specs.Kinds.{is_change_record}
use Rattle.dbl_faithful.specs.ToldEvents.{ToldEvent, ArePutBefore}

-- Whether the commit wrote a high watermark, whose text ends as such a one does.
pub record IsHighMark (commit : Commit) : Type 0 where
  pub front : List ℕ
  pub is : commit.body ≡ Mark (front ++ side_text High)

-- The records of a position, in order.
abbrev pub records_at : ℕ → List Record → List Record
records_at position records = filter (λ item. item.position == position) records

-- Whether the snapshot's record at this index is right: it is fresh, and of a window of the log that is right at its high watermark.
pub record IsRightSnapshot (identity : Identity) (versions : List Versioned) (told : List ToldEvent) (records : List Record)
    (place position : ℕ) : Type 0 where
  pub fresh : IsFresh records place
  pub window : HasWindowAt identity versions records position
  -- All earlier events are in the log. Without this a session can't keep the log exact (theorem TornWindowsAreSpoilt).
  pub put : ArePutBefore identity records told position

-- Whether each record of the log that isn't a change is right. The events are those of the commits after the start.
pub record AreSnapshotsRight (identity : Identity) (versions : List Versioned) (told : List ToldEvent)
    (records : List Record) : Type 0 where
  pub each : (place : ℕ) (item : Record) → slice_get records place ≡ Some item → is_change_record item ≡ false
      → IsRightSnapshot identity versions told records place item.position
