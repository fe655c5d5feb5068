-- What a session preserves of its log between two calls, in terms of the records that were sent, so that a commit's records may come all at
-- once or change by change.
use Rattle.std.specs.Prelude.{◌≡◌, ◌⊎◌, ℕ, ◌+◌, ◌<◌, ◌≤◌, List, [], ◌∷◌, ◌++◌, length, take}
use Rattle.std.specs.List.{AllByRecursion, AllZip}
use Rattle.dbl_record.specs.declared.record.Record.{Record}
use Rattle.dbl_model_table.specs.declared.identity.Identity.{Identity}
use Rattle.dbl_model_table.specs.declared.table.TableInfo.{TableInfo}
use Rattle.dbl_consume_courses.specs.Versions.{Versioned}
use Rattle.dbl_consume_courses.specs.AgesBetween.{IsLsnOf}
use Rattle.dbl_consume_courses.specs.FitVersions.{AreFitVersions}
use Rattle.dbl_faithful.specs.Agreements.{AgreesUpTo}
use Rattle.dbl_faithful.specs.ToldEvents.{ToldEvent, events_of_commit, events_since, IsClearPrint}
use Rattle.dbl_faithful.specs.ExactLogs.{IsExact}
use Rattle.dbl_faithful.specs.RightSnapshots.{AreSnapshotsRight}

-- ---- positions

-- Whether these commits end with one of this LSN.
pub record EndAt (position : ℕ) (versions : List Versioned) : Type 0 where
  pub front : List Versioned
  pub last : Versioned
  pub spelled : versions ≡ front ++ last ∷ []
  pub lsn_is : last.lsn.0 ≡ position

-- Whether the position is that of the point after these commits, the first of a history: the LSN of the last of them, or 0 if there are
-- none (theorem PositionsEndOnce).
abbrev pub IsEndOf : ℕ → List Versioned → Type 0
IsEndOf position versions = ((position ≡ 0) × (versions ≡ [])) ⊎ EndAt position versions

-- ---- a log between two appends

-- Whether the log is exact and has at least the events before this number, so that the event with this number is next.
pub record IsExactLog (identity : Identity) (told : List ToldEvent) (records : List Record) (index : ℕ) : Type 0 where
  pub count : ℕ
  pub exact : IsExact identity told records count
  pub not_after : index ≤ count

-- The events of the first of these commits.
abbrev pub next_told : List Versioned → List ToldEvent
next_told [] = []
next_told (v ∷ later) = events_of_commit v

-- Whether the log has all records of the commits `before`, which end at the position `high`, and the first `sent` of the next commit. It
-- starts at the position `start`, its offset is at `low`, and no record is before `start` or after `far`.
pub record HasDeliveredUpTo (identity : Identity) (infos : List TableInfo) (versions : List Versioned) (start low high far : ℕ)
    (before later : List Versioned) (sent : ℕ) (records : List Record) : Type 0 where
  pub fit : AreFitVersions infos versions
  pub spelled : versions ≡ before ++ later
  pub order : start ≤ low
  pub lower : low ≤ high
  -- The position is that of the last delivered commit, or the offset's.
  pub ends : (high ≡ low) ⊎ IsLsnOf versions high
  pub upto : AllByRecursion (λ v. v.lsn.0 ≤ high) before
  pub past : AllByRecursion (λ v. high < v.lsn.0) later
  -- The log when the next commit came, and the records sent of that commit.
  pub kept : List Record
  pub own : List Record
  pub parted : records ≡ kept ++ own
  pub agrees_up_to : AgreesUpTo identity infos versions start kept low high
  pub few : sent ≤ length (next_told later)
  pub sending : AllZip (IsClearPrint identity) (take sent (next_told later)) own
  -- The log as a whole, for any division of its records.
  pub log : IsExactLog identity (events_since start versions) records (length (events_since start before) + sent)
  pub snapshots : AreSnapshotsRight identity versions (events_since start versions) records
  pub late : AllByRecursion (λ item. start ≤ item.position) records
  pub placed : AllByRecursion (λ item. item.position ≤ far) records
