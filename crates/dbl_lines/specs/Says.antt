-- The text written at a run's end, with its exit status.
use Rattle.std.specs.Prelude.{◌≡◌, ◌⊎◌, ℕ, Option, List, [], ◌∷◌}
use Rattle.dbl_base.specs.Lines.{lines_text}
use Rattle.dbl_lines.specs.declared.status.Status.{Status}
use Rattle.dbl_lines.specs.declared.status.Status.TheVariants.{StdoutFailed, OutOfMemory}
use Rattle.dbl_lines.specs.Writing.{Wrote, WrotePrefix}
use Rattle.dbl_lines.specs.declared.run_error.RunError.{RunError}
use Rattle.dbl_lines.specs.declared.run_error.RunError.TheVariants.{Memory}
use Rattle.dbl_lines.specs.Faults.{status_of, fault_line}

-- the run wrote the text and returned this status, or the output failed within the text
abbrev pub Writes : Status → List ℕ → Status → Option (List ℕ) → Option (List ℕ) → Type 0
Writes wanted text status before after =
    ((status ≡ wanted) × Wrote before after text)
    ⊎ ((status ≡ StdoutFailed) × WrotePrefix before after text)

-- the run wrote the error's line and returned its status, or those of a run out of memory
abbrev pub Says : RunError → Status → Option (List ℕ) → Option (List ℕ) → Type 0
Says halt status before after =
    Writes (status_of halt) (lines_text (fault_line halt ∷ [])) status before after
    ⊎ Writes OutOfMemory (lines_text (fault_line Memory ∷ [])) status before after

-- the status is that of a failed output or of memory running out
abbrev pub IsCutShort : Status → Type 0
IsCutShort status = (status ≡ StdoutFailed) ⊎ (status ≡ OutOfMemory)
