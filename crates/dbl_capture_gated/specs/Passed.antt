-- What a session over a gate delivers of the commits that it stored, and which record it refuses.
use Rattle.std.specs.Prelude.{◌≡◌, ◌≤◌, ◌++◌, ℕ, ℤ, Option, Some, List, ◌∷◌}
use Rattle.std.specs.List.{AllByRecursion, AllZip}
use Rattle.dbl_record.specs.declared.record.Record.{Record}
use Rattle.dbl_hooks_gate.specs.declared.rule.Rule.{Rule}
use Rattle.dbl_hooks_gate.specs.Rules.{AreAllowed}
use Rattle.dbl_hooks_gate.specs.Gates.{IsFirstRefused}
use Rattle.dbl_model_table.specs.declared.change.Commit.{Commit}
use Rattle.dbl_model_table.specs.declared.config.Config.{Config}
use Rattle.dbl_pgmsg.specs.declared.messages.Message.{Message}
use Rattle.dbl_capture.specs.CaptureWork.ModelCommit.Past.{last_lsn}
use Rattle.dbl_capture.specs.CaptureWork.ModelCommit.Stated.{commits_of}
use Rattle.dbl_capture.specs.CaptureWork.SourceModel.Standings.{Reading, SourceState}
use Rattle.dbl_capture.specs.CaptureWork.Offset.declared.offset.Offset.{Offset}
use Rattle.dbl_capture.specs.CaptureLaws.Failing.{AreNext}
use Rattle.dbl_capture.specs.CaptureLaws.Found.{HasStored}
use Rattle.dbl_capture.specs.CaptureLaws.Gained.{IsSentFor, Making, making_of}
use Rattle.dbl_capture.specs.CaptureLaws.Reported.{BeginsAfter}

-- The rule allows all records of each of these commits: those of its changes, or of the window that it closes.
pub record AreAllowedOf (by : Making) (rule : Rule) (commits : List Commit) : Type 0 where
  pub parts : List (List Record)
  pub sent : AllZip (IsSentFor by) commits parts
  pub allowed : AllByRecursion (AreAllowed rule) parts

-- The rule allows all records of the commits that the first messages since the session began to read state, all those up to the stored
-- offset among them.
pub record PassesAllowed (config : Config) (now : ℤ) (rule : Rule) (old new : Option Offset) (t : SourceState) : Type 0 where
  pub stored : HasStored config old new
  pub reading : Reading
  pub reading_is : t.reading ≡ Some reading
  pub begins_after : BeginsAfter old new stored.offset.infos reading.after
  pub newest : List Message
  pub earlier : List Message
  pub parted : reading.messages ≡ newest ++ earlier
  pub upto : stored.offset.lsn.0 ≤ (last_lsn reading.after earlier).0
  pub allowed : AreAllowedOf (making_of stored.offset now config.chunk) rule (commits_of stored.offset.infos earlier)

-- The record at the place is the first that the rule doesn't allow, among the records that come next at the newest message: those of the
-- commit that it ends, or of the window that it closes, or of the transaction that it leaves open. All records of the commits before it are
-- allowed.
pub record RefusesNext (config : Config) (now : ℤ) (rule : Rule) (old new : Option Offset) (place : ℕ × ℕ) (t : SourceState) : Type 0 where
  pub stored : HasStored config old new
  pub reading : Reading
  pub reading_is : t.reading ≡ Some reading
  pub begins_after : BeginsAfter old new stored.offset.infos reading.after
  pub newest : Message
  pub earlier : List Message
  pub parted : reading.messages ≡ newest ∷ earlier
  pub allowed : AreAllowedOf (making_of stored.offset now config.chunk) rule (commits_of stored.offset.infos earlier)
  pub records : List Record
  pub next : AreNext (making_of stored.offset now config.chunk) newest earlier records
  pub first : IsFirstRefused rule records place
