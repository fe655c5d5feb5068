-- The answers of a source, if it reports them.
use Rattle.std.specs.Prelude.{◌≡◌, ℕ, Bool, true, false, Option, Some, None, List, [], ◌++◌}
use Rattle.dbl_base.specs.declared.lsn.Lsn.{Lsn}
use Rattle.dbl_model_commit.specs.ModelTable.declared.table.RawTable.{RawTable}
use Rattle.dbl_source_model.specs.declared.selected.Selected.{Selected}
use Rattle.dbl_source_model.specs.declared.started.Started.{Started}
use Rattle.dbl_source_model.specs.declared.started.Started.TheVariants.{Ready, Gone}

-- An answer that isn't an error: of describe, head, start, read and select, and of mark and confirm.
pub data Answer : Type 0 where
  Described : Option RawTable → Answer
  Head : Lsn → Answer
  Began : Started → Answer
  Read : Option (List ℕ) → Answer
  RowsSelected : Selected → Answer
  Done : Answer

-- The last answer, and the bytes of all messages since the last start, the newest first. After an error the last answer has no meaning.
pub record Trace : Type 0 where
  pub answer : Answer
  pub read : List (List ℕ)

-- Whether the source keeps reporting, and these messages were read in addition, the newest first. A source that reports nothing doesn't
-- begin to.
abbrev pub IsTakenBy : List (List ℕ) → Option Trace → Option Trace → Type 0
IsTakenBy more None None = Unit {0}
IsTakenBy more None (Some new) = ⊥
IsTakenBy more (Some old) None = ⊥
IsTakenBy more (Some old) (Some new) = new.read ≡ more ++ old.read

-- Whether the source keeps reporting, and nothing has been read since; nothing has been read either if it begins to report.
abbrev pub IsTakenAnew : Option Trace → Option Trace → Type 0
IsTakenAnew None None = Unit {0}
IsTakenAnew None (Some new) = new.read ≡ []
IsTakenAnew (Some old) None = ⊥
IsTakenAnew (Some old) (Some new) = new.read ≡ []

-- Whether reading begins.
abbrev pub is_ready : Started → Bool
is_ready Ready = true
is_ready (Gone first) = false

-- Whether a source that reports its answers reports this one last.
abbrev pub LastAnswerIs : Option Trace → Answer → Type 0
LastAnswerIs told answer = (t : Trace) → told ≡ Some t → t.answer ≡ answer
