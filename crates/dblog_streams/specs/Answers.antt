-- The answer of a command, and how a run with it ends.
use Rattle.std.specs.Prelude.{◌≡◌, ◌⊎◌, ℕ, Option, List, [], ◌∷◌, ◌++◌, take}
use Rattle.dbl_base.specs.Lines.{lines_text}
use Rattle.dbl_base.specs.Streams.{FaultCounted}
use Rattle.dbl_lines.specs.declared.status.Status.{Status}
use Rattle.dbl_lines.specs.declared.status.Status.TheVariants.{Done, StdinFailed, StdoutFailed, OutOfMemory}
use Rattle.dbl_lines.specs.declared.run_error.RunError.{RunError}
use Rattle.dbl_lines.specs.declared.run_error.RunError.TheVariants.{InputFailed, Memory}
use Rattle.dbl_lines.specs.Faults.{status_of, fault_line}
use Rattle.dbl_lines.specs.Says.{Says, Writes}

-- The answer of a command: a status, the lines that are written before it is returned, and those written one by one.
pub record RunAnswer : Type 0 where
  pub status : Status
  pub lines : List (List ℕ)
  pub one_by_one : List (List ℕ)

-- The answer with status 0 and these lines, which are written one by one.
abbrev pub done : List (List ℕ) → RunAnswer
done lines = record { status = Done; lines = lines; one_by_one = lines }

-- The answer of an error: its status and its line.
abbrev pub fault : RunError → RunAnswer
fault error = record { status = status_of error; lines = fault_line error ∷ []; one_by_one = [] }

-- The text and the status of a run with this answer, before the output may fail: the answer's own, or those of out of memory after some of
-- the lines that are written one by one.
pub data MayEnd (answer : RunAnswer) (status : Status) (text : List ℕ) : Type 0 where
  whole : status ≡ answer.status → text ≡ lines_text answer.lines → MayEnd answer status text
  out_of_memory : (n : ℕ) → status ≡ OutOfMemory
      → text ≡ lines_text (take n answer.one_by_one) ++ lines_text (fault_line Memory ∷ []) → MayEnd answer status text

-- The end of a run with this answer: its text, or a prefix if the output failed, and its status.
pub record Ends (answer : RunAnswer) (status : Status) (before after : Option (List ℕ)) : Type 0 where
  pub wanted : Status
  pub text : List ℕ
  pub may : MayEnd answer wanted text
  pub writes : Writes wanted text status before after

-- The statuses of a failed input, a failed output, and out of memory.
abbrev pub IsExternalStatus : Status → Type 0
IsExternalStatus status = (status ≡ StdinFailed) ⊎ ((status ≡ StdoutFailed) ⊎ (status ≡ OutOfMemory))

-- The end of a run with this answer: its status, or that of a failed input, a failed output or out of memory.
pub record EndsAs (answer : RunAnswer) (status : Status) (before after : Option (List ℕ)) : Type 0 where
  pub ended : Ends answer status before after
  pub told : IsExternalStatus status ⊎ (answer.status ≡ status)

-- The end of a run whose input failed: that failure's line was to be written.
pub record FailsReading (was now : ℕ) (status : Status) (before after : Option (List ℕ)) : Type 0 where
  pub rose : FaultCounted was now
  pub says : Says InputFailed status before after
