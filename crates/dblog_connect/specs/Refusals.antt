-- Which records a session's receiver refuses.
use Rattle.std.specs.Prelude.{◌≡◌, ℕ, ℤ, Option, Some, List, ◌∷◌}
use Rattle.dbl_pgmsg.specs.declared.messages.Message.{Message}
use Rattle.dbl_record.specs.declared.record.Record.{Record}
use Rattle.dbl_hooks_gate.specs.declared.rule.Rule.{Rule}
use Rattle.dbl_hooks_gate.specs.declared.rule.Rule.TheVariants.{MaxValue}
use Rattle.dbl_hooks_gate.specs.Gates.{IsFirstRefused}
use Rattle.dbl_model_table.specs.declared.config.Config.{Config}
use Rattle.dbl_model_commit.specs.Stated.{commits_of}
use Rattle.dbl_demo.specs.SourceModel.Standings.{Reading}
use Rattle.dbl_demo.specs.DemoWal.Wals.{IsWal, Wal}
use Rattle.dbl_offset_content.specs.declared.offset.Offset.{Offset}
use Rattle.dbl_capture.specs.CaptureLaws.Failing.{AreNext}
use Rattle.dbl_capture.specs.CaptureLaws.Gained.{making_of}
use Rattle.dbl_capture_gated.specs.Passed.{AreAllowedOf}
use Rattle.dblog_promise.specs.Causes.{HasRead}
use Rattle.dblog_connect.specs.declared.asked.Asked.{Asked}
use Rattle.dblog_connect.specs.Asked.{limit_of, rule_of}
use Rattle.dblog_connect.specs.Ends.{HasBegun, IsStoredLast}
use Rattle.dblog_connect_ends.specs.declared.error.ConnectError.{ConnectError}
use Rattle.dblog_connect_ends.specs.declared.error.ConnectError.TheVariants.{Refused}
use Rattle.dblog_connect_ends.specs.Errors.{IsConnectError}

-- ---- every disk

-- If the error is that a record was refused, the arguments name a maximum length, and the record is the first of its group with a longer
-- value.
abbrev pub ExceedsMaximum : Asked → ConnectError → Type 0
ExceedsMaximum asked (Refused position ordinal) =
    (most : ℕ) × (limit_of asked ≡ Some most) × (group : List Record) × IsFirstRefused (MaxValue most) group (position, ordinal)
ExceedsMaximum asked e = Unit {0}

-- The errors of a command with these arguments.
abbrev pub IsErrorFor : Asked → ConnectError → Type 0
IsErrorFor asked e = IsConnectError e × ExceedsMaximum asked e

-- ---- disks with known contents

-- The record at the place is the first that the rule doesn't allow, among the records that come next at the newest message: those of the
-- commit that it ends, or of the window that it closes, or of the transaction that it leaves open. All records of the commits before it are
-- allowed.
pub record HasRefusedNext (config : Config) (now : ℤ) (rule : Rule) (found stored : Option Offset) (wal : Wal) (place : ℕ × ℕ) : Type 0 where
  pub reading : Reading
  pub was : HasRead config found stored wal reading
  pub newest : Message
  pub earlier : List Message
  pub parted : reading.messages ≡ newest ∷ earlier
  pub allowed : AreAllowedOf (making_of was.by.offset now config.chunk) rule (commits_of was.by.offset.infos earlier)
  pub records : List Record
  pub next : AreNext (making_of was.by.offset now config.chunk) newest earlier records
  pub first : IsFirstRefused rule records place

-- A session refused the record at the place: so it is by every source's log that a crash leaves.
pub record RefusesRecord (asked : Asked) (now : ℤ) (wals : List ℕ → Type 0) (w t f : List ℕ) (place : ℕ × ℕ) : Type 0 where
  pub begun : HasBegun asked w t f
  pub stored : Option Offset
  pub last : IsStoredLast begun.config begun.held.offset stored
  pub next : (bytes : List ℕ) (wal : Wal) → wals bytes → IsWal bytes wal
      → HasRefusedNext begun.config now (rule_of asked) begun.held.offset stored wal place

-- If the error is that a record was refused, it is the first longer one among those that came next.
abbrev pub IsRefusedNext : Asked → ℤ → (List ℕ → Type 0) → List ℕ → List ℕ → List ℕ → ConnectError → Type 0
IsRefusedNext asked now wals w t f (Refused position ordinal) = RefusesRecord asked now wals w t f (position, ordinal)
IsRefusedNext asked now wals w t f e = Unit {0}
