-- When a script has been fair so far. A script may have answers that no database would give, and then nothing is guaranteed.
use Rattle.std.specs.Prelude.{◌≡◌, ℕ, Some, List, [], slice_get, slice_index_or}
use Rattle.dbl_source_model.specs.ModelHistory.Fit.{IsFitHistory}
use Rattle.dbl_source_model.specs.declared.selected.Selected.{Selected}
use Rattle.dbl_source_model.specs.Selected.{AreAnswered}
use Rattle.dbl_source_log.specs.declared.logged.LogTable.{LogTable}
use Rattle.dbl_source_log.specs.declared.logged.Logged.{Logged}
use Rattle.dbl_source_log.specs.Histories.{history_of}
use Rattle.dbl_source_log.specs.Fair.{IsFairLog}
use Rattle.dbl_source_scripted.specs.declared.asked.Asked.{Asked}

-- What a select answers that reads no rows: version 1, and none.
abbrev pub no_rows_selected : Selected
no_rows_selected = record { version = 1; rows = [] }

-- Whether the answer has the version and the rows of one position between the call and the return of the select with these arguments.
abbrev pub IsAnswered : List LogTable → List Logged → Asked → Selected → Type 0
IsAnswered tables log question answer =
    AreAnswered (history_of tables log) question.from question.upto question.table question.above question.limit answer

-- Whether what was committed so far is valid, and such as a server sends, and the script's answer to each select so far is correct. After
-- the script's end a select has version 1 and no rows, which has to be correct too.
pub record IsFair (tables : List LogTable) (log : List Logged) (asked : List Asked) (rows : List Selected) : Type 0 where
  pub fit : IsFitHistory (history_of tables log)
  pub changes : IsFairLog tables log
  pub selects : (n : ℕ) (question : Asked) → slice_get asked n ≡ Some question
      → IsAnswered tables log question (slice_index_or rows n no_rows_selected)
