-- Tables that can be captured, or can't.
use Rattle.std.specs.Prelude.{◌≡◌, ◌⊎◌, ℕ, Contains, Option, None, Result, Ok, Err, IfSome, length}
use Rattle.std.specs.List.{AllByRecursion}
use Rattle.dbl_model_table.specs.declared.config.Config.{Config}
use Rattle.dbl_model_table.specs.declared.table.TableName.{TableName}
use Rattle.dbl_capture_work.specs.Source.Model.{SourceModel}
use Rattle.dbl_capture_work.specs.SourceModel.Calls.{Moved}
use Rattle.dbl_capture_work.specs.SourceModel.Standings.{SourceState}
use Rattle.dbl_capture_work.specs.ModelHistory.History.{History}
use Rattle.dbl_capture_work.specs.Offset.declared.offset.Offset.{Offset}
use Rattle.dbl_capture_work.specs.declared.halt.Halt.{Halt}
use Rattle.dbl_capture_work.specs.declared.halt.Halt.TheVariants as halt
use Rattle.dbl_capture_work.specs.Begins.{CanBeCaptured, CouldBeCaptured, IsAbsentHalt}
use Rattle.dbl_capture_laws.specs.Found.{IsFirstIn}

-- The error is about a table, or memory ran out, or a call of the source failed.
abbrev pub IsTableHalt : Halt → Type 0
IsTableHalt halt.Memory = Unit {0}
IsTableHalt halt.Source = Unit {0}
IsTableHalt (halt.Model error) = Unit {0}
IsTableHalt (halt.UnknownTable table) = Unit {0}
IsTableHalt h = ⊥

-- If no offset is stored, and a table can't be captured as the catalogue has it, a session stops with the error of the first such table,
-- unless memory runs out or a call of its source fails.
abbrev pub MustHaltAbsent : {A : Type 0} → Config → History → Option Offset → Result A Halt → Type 0
MustHaltAbsent config history old result = old ≡ None → (name : TableName) → Contains config.tables name → (CanBeCaptured history name → ⊥)
    → (h : Halt) × (result ≡ Err h) × IsTableHalt h × IsAbsentHalt config.tables history h

-- Each table could be captured after `from` or more commits, or the session stops with an error about a table, out of memory, or because a
-- call of the source failed.
abbrev pub CapturedOrHalts : {A : Type 0} → Config → History → ℕ → Result A Halt → Type 0
CapturedOrHalts config history from (Ok answer) = AllByRecursion (CouldBeCaptured history from) config.tables
CapturedOrHalts config history from (Err h) = AllByRecursion (CouldBeCaptured history from) config.tables ⊎ IsTableHalt h

-- Each table can be captured, or the session stops with an error about a table, out of memory, or because a call of the source failed.
abbrev pub CapturesOrHalts : {A : Type 0} → Config → History → Result A Halt → Type 0
CapturesOrHalts config history result = CapturedOrHalts config history 0 result

-- A call led the source through a state of which this is true, after commits of others only: that source extends the one at the call, the
-- one that is left extends it, and it conforms if the one that is left does.
pub record PassesState {S : Type 0} (source_model : SourceModel S) (src new_src : S) (s : SourceState) (P : SourceState → Type 0)
    : Type 0 where
  pub passed : S
  pub standing : SourceState
  pub is : source_model.stands passed standing
  pub moved : Moved s standing
  pub extends : source_model.comes_of src passed
  pub extended : source_model.comes_of passed new_src
  pub honest : source_model.honest new_src → source_model.honest passed
  pub holds : P standing

-- By the catalogue of a later history, since this one, each table could be captured, or the session stops with an error about a table, out
-- of memory, or because a call of the source failed; and a first offset that was stored has the tables as that catalogue had them.
pub record FindsTables {A : Type 0} (config : Config) (history later : History) (stored : Option Offset) (result : Result A Halt)
    : Type 0 where
  pub captures : CapturedOrHalts config later (length history.commits) result
  pub first : IfSome stored (IsFirstIn config history later)
