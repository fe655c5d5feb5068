-- The changes that a session may make to the stores: they only advance.
use Rattle.std.specs.Prelude.{◌≡◌, ◌⊎◌, ℕ, ◌+◌, ◌<◌, ◌≤◌, true, Option, Some, None, List, [], ◌∷◌, ◌++◌, map, zip}
use Rattle.std.specs.List.{AllByRecursion, AllZip}
use Rattle.dbl_record.specs.declared.record.Record.{Record}
use Rattle.dbl_record.specs.Places.{place_of, IsBefore}
use Rattle.dbl_model_table.specs.declared.config.Config.{Config}
use Rattle.dbl_model_table.specs.declared.row.Key.{Key}
use Rattle.dbl_consume_laws.specs.ModelHistory.declared.cursor.Cursor.{Cursor}
use Rattle.dbl_consume_laws.specs.ModelHistory.History.{History}
use Rattle.dbl_consume_laws.specs.ModelHistory.InForce.{IsAlike}
use Rattle.dbl_consume_laws.specs.ModelHistory.KeyBounds.{IsUpTo}
use Rattle.dbl_offset_content.specs.declared.offset.Offset.{Offset}
use Rattle.dbl_faithful.specs.Stores.{Stores, IsPositionOf}

-- Whether the old list is a prefix of the new one.
pub record ExtendsList {A : Type 0} (old new : List A) : Type 0 where
  pub more : List A
  pub is : new ≡ old ++ more

-- ---- advancing

-- Whether no less was read of a table: each key up to which it was read still is one, and a table read to its end still is.
pub record IsLaterCursor (old new : Cursor) : Type 0 where
  pub last : (key : Key) → IsUpTo old.last key → IsUpTo new.last key
  pub done : old.done ≡ true → new.done ≡ true

-- Whether no less was read of a table whose version is the same; one that was altered is read again.
abbrev pub IsLaterProgress : ℕ × Cursor → ℕ × Cursor → Type 0
IsLaterProgress old new = (old.0 ≡ new.0) → IsLaterCursor old.1 new.1

-- Whether an offset of the same connector is a later one: not before the old one, in the log and in each table's snapshot, of the same
-- tables and keys, in no earlier version, and of the same session or of the next.
pub record IsLaterOffset (old new : Offset) : Type 0 where
  pub identity : new.identity ≡ old.identity
  pub infos : AllZip IsAlike old.infos new.infos
  pub versions : AllZip (λ before after. before ≤ after) old.versions new.versions
  pub start : new.start ≡ old.start
  pub lsn : old.lsn.0 ≤ new.lsn.0
  pub cursors : AllZip IsLaterProgress (zip old.versions old.cursors) (zip new.versions new.cursors)
  pub incarnation : (new.incarnation ≡ old.incarnation) ⊎ (new.incarnation ≡ old.incarnation + 1)

-- A first offset: of the session's configuration, and from a position of the history that isn't before its end when the session began.
pub record IsFirstOffset (config : Config) (old new : History) (offset : Offset) : Type 0 where
  pub identity : offset.identity ≡ config.identity
  pub tables : map (λ info. info.name) offset.infos ≡ config.tables
  pub start : IsPositionOf new offset.start.0
  pub not_before : AllByRecursion (λ commit. commit.lsn.0 ≤ offset.start.0) old.commits
  pub incarnation : offset.incarnation ≡ 1

-- Whether a stored offset stays stored and only advances, and a first one is valid.
abbrev pub OffsetGoesOn : Config → History → History → Option Offset → Option Offset → Type 0
OffsetGoesOn config old new None None = Unit {0}
OffsetGoesOn config old new None (Some offset) = IsFirstOffset config old new offset
OffsetGoesOn config old new (Some offset) None = ⊥
OffsetGoesOn config old new (Some before) (Some after) = IsLaterOffset before after

-- Whether a session of this configuration only advances the stores from one state to another: nothing is taken back.
pub record GoesOnward (config : Config) (old new : Stores) : Type 0 where
  pub tables : new.history.tables ≡ old.history.tables
  pub commits : ExtendsList old.history.commits new.history.commits
  pub records : ExtendsList old.records new.records
  pub offset : OffsetGoesOn config old.history new.history old.offset new.offset

-- ---- only positions after the stored offset

-- Whether each record's place (its position, then its ordinal) is before those of the records that follow.
abbrev pub PlacesRise : List Record → Type 0
PlacesRise [] = Unit {0}
PlacesRise (item ∷ items) = AllByRecursion (λ later. IsBefore (place_of item) (place_of later)) items × PlacesRise items

-- Whether records were only appended, at positions above `from` and at places that rise. For a session `from` is the LSN that was stored
-- when it began, or the start of its first offset if none was stored.
pub record Adds (from : ℕ) (old new : List Record) : Type 0 where
  pub more : List Record
  pub is : new ≡ old ++ more
  pub above : AllByRecursion (λ item. from < item.position) more
  pub rise : PlacesRise more
