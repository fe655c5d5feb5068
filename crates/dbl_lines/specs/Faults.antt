-- The exit status and the line of each error that ends a run before records are printed.
use Rattle.std.specs.Prelude.{ℕ, List, ◌++◌, codes, decimal}
use Rattle.dbl_lines.specs.declared.status.Status.{Status}
use Rattle.dbl_lines.specs.declared.status.Status.TheVariants.{InvalidArguments, StdinFailed, OutOfMemory, InvalidInput}
use Rattle.dbl_lines.specs.declared.run_error.RunError.{RunError}
use Rattle.dbl_lines.specs.declared.run_error.RunError.TheVariants.{Usage, BadLine, InputTooLong, InputFailed, Memory}

-- the status of an error
abbrev pub status_of : RunError → Status
status_of Usage = InvalidArguments
status_of InputFailed = StdinFailed
status_of Memory = OutOfMemory
status_of (BadLine number) = InvalidInput
status_of InputTooLong = InvalidInput

-- the line of an error, without its newline
abbrev pub fault_line : RunError → List ℕ
fault_line Usage = codes "dblog: usage"
fault_line InputFailed = codes "dblog: input failed"
fault_line Memory = codes "dblog: out of memory"
fault_line (BadLine number) = codes "dblog: line " ++ decimal number ++ codes ": bad line"
fault_line InputTooLong = codes "dblog: input too long"
