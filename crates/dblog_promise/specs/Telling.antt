-- What a consumer of the topic log can rely on. After Andreakis and Papapanagiotou, "DBLog: A Watermark Based Change-Data-Capture
-- Framework" (2020).
use Rattle.std.specs.Prelude.{◌≡◌, ℕ, ◌<◌, true, Some, List, slice_get}
use Rattle.dbl_record.specs.declared.record.Record.{Record}
use Rattle.dbl_record.specs.Places.{IsFresh}
use Rattle.dbl_record.specs.Cuts.{joined}
use Rattle.dbl_model_table.specs.declared.config.Config.{Config}
use Rattle.dbl_model_history.specs.History.{History}
use Rattle.dbl_capture_laws.specs.Offset.declared.offset.Offset.{Offset}
use Rattle.dbl_capture_laws.specs.Faithful.ConsumeCourses.AlteredTables.{AgreesInCourse}
use Rattle.dbl_capture_laws.specs.Faithful.Kinds.{is_row, is_change_record}
use Rattle.dbl_capture_laws.specs.Faithful.ToldEvents.{ToldEvent, events_since}
use Rattle.dbl_capture_laws.specs.Faithful.ExactLaws.{Repeats}
use Rattle.dbl_capture_laws.specs.Faithful.CaughtUpLaws.{IsSourceRow, IsPutAhead}
use Rattle.dbl_capture_laws.specs.Faithful.Faithful.{captured_commits, first_infos}
use Rattle.dblog_promise.specs.Restarts.{FoundStores, ByRules, After, IsUnused}

-- This snapshot record overwrites no later change: it is fresh, it is the source's row at its position, and the record of each change
-- between the offset's start and that position comes before it.
pub record OverwritesNoLaterChange (history : History) (records : List Record) (offset : Offset) (place : ℕ) (item : Record)
    : Type 0 where
  pub fresh : IsFresh records place
  pub right : IsSourceRow offset.identity (captured_commits history offset) item
  pub put_ahead : (number : ℕ) (event : ToldEvent)
      → slice_get (events_since offset.start.0 (captured_commits history offset)) number ≡ Some event
      → event.event.position < item.position → IsPutAhead offset.identity records place event

-- The topic log agrees with the source: at each first delivery a consumer agrees with it on each known key, in the columns in force there;
-- no snapshot record overwrites a later change; and a change record that isn't fresh repeats an earlier one.
pub record TellsTheSource (history : History) (records : List Record) (offset : Offset) : Type 0 where
  pub agrees : AgreesInCourse offset.identity (first_infos history offset) (captured_commits history offset) offset.start.0 records
  pub rows : (place : ℕ) (item : Record) → slice_get records place ≡ Some item → is_row item ≡ true
      → OverwritesNoLaterChange history records offset place item
  pub repeats : (place : ℕ) (item : Record) → slice_get records place ≡ Some item → is_change_record item ≡ true
      → (IsFresh records place → ⊥) → Repeats offset.identity records place item

-- The topic log agrees with the source after any number of crashes and sessions by the rules, from unused stores.
abbrev pub LogsTellTheSource : Type 0
LogsTellTheSource = (first last : FoundStores) (sessions : List Config) (offset : Offset)
    → IsUnused first → After ByRules first sessions last → last.offset ≡ Some offset
    → TellsTheSource last.history (joined last.groups) offset
