-- The status and the line of an error of `init`.
use Rattle.std.specs.Prelude.{◌⊎◌, ℕ, Option, List, [], ◌∷◌, ◌++◌, codes}
use Rattle.dbl_base.specs.Lines.{lines_text}
use Rattle.dbl_script.specs.declared.error.ScriptError.TheVariants as script
use Rattle.dblog_replay.specs.declared.log_fault.LogFault.TheVariants as log
use Rattle.dblog_replay.specs.LogFaults.{log_line}
use Rattle.dblog_init.specs.declared.error.InitError.{InitError}
use Rattle.dblog_init.specs.declared.error.InitError.TheVariants as init
use Rattle.dblog_init.specs.declared.error.Store.TheVariants as store
use Rattle.dblog_init.specs.Errors.{store_name}
use Rattle.dbl_lines.specs.declared.status.Status.{Status}
use Rattle.dbl_lines.specs.declared.status.Status.TheVariants.{Unsupported, StdinFailed, OutOfMemory}
use Rattle.dbl_lines.specs.declared.status.Status.TheVariants.{InvalidInput, InvalidStore}
use Rattle.dbl_lines.specs.declared.run_error.RunError.TheVariants as error
use Rattle.dbl_lines.specs.Faults.{fault_line}
use Rattle.dbl_lines.specs.Says.{Writes}
use Rattle.dblog_capture_text.specs.Ends.{store_status}

-- The exit status of an error of `init`.
abbrev pub init_status : InitError → Status
init_status (init.Failed failed) = store_status failed
init_status (init.NotEmpty held) = InvalidStore
init_status init.InputFailed = StdinFailed
init_status init.InputTooLong = InvalidInput
init_status (init.Script e) = InvalidInput
init_status (init.Model e) = Unsupported
init_status init.Memory = OutOfMemory

-- The line of an error of `init`, without its newline.
abbrev pub init_line : InitError → List ℕ
init_line (init.Failed store.Wal) = codes "dblog: source failed"
init_line (init.Failed failed) = codes "dblog: " ++ store_name failed ++ codes " failed"
init_line (init.NotEmpty held) = codes "dblog: not empty: " ++ store_name held
init_line init.InputFailed = fault_line error.InputFailed
init_line init.InputTooLong = fault_line error.InputTooLong
init_line (init.Script (script.BadLine number)) = fault_line (error.BadLine number)
init_line (init.Script script.TooManyLines) = codes "dblog: too many lines"
init_line (init.Script script.Memory) = fault_line error.Memory
init_line (init.Model e) = log_line (log.Table e)
init_line init.Memory = fault_line error.Memory

-- The error's line was to be written and its status returned, or those of out of memory.
abbrev pub SaysInit : InitError → Status → Option (List ℕ) → Option (List ℕ) → Type 0
SaysInit e status before after =
    Writes (init_status e) (lines_text (init_line e ∷ [])) status before after
    ⊎ Writes OutOfMemory (lines_text (fault_line error.Memory ∷ [])) status before after
