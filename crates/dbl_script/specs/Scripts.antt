-- The script of a workload's lines.
use Rattle.std.specs.Prelude.{ℕ, ◌+◌, ◌==◌, ◌&&◌, not, nat_lt, Bool, true, false, if◌then◌else◌}
use Rattle.std.specs.Prelude.{Option, Some, None, List, [], ◌∷◌, ◌++◌, length}
use Rattle.std.specs.List.{filter_map, list_any, cons_option}
use Rattle.dbl_model_table.specs.Tables.{same_name}
use Rattle.dbl_script.specs.declared.script.ScriptTable.{ScriptTable}
use Rattle.dbl_script.specs.declared.script.ScriptRow.{ScriptRow}
use Rattle.dbl_script.specs.declared.script.Script.{Script}
use Rattle.dbl_script.specs.declared.script.Step.{Step}
use Rattle.dbl_script.specs.declared.line.Line.{Line}
use Rattle.dbl_script.specs.declared.line.Line.TheVariants.{Passed, Table, Row, Act}
use Rattle.dbl_script.specs.Grammar.{line_at}

-- the contents of the lines, the first of which has this number; an invalid line has none
abbrev pub said : ℕ → List (List ℕ) → List Line
said number [] = []
said number (line ∷ lines) = cons_option (line_at number line) (said (number + 1) lines)

-- the table of a line
abbrev pub table_said : Line → Option ScriptTable
table_said (Table table) = Some table
table_said _ = None

-- the row of a line
abbrev pub row_said : Line → Option ScriptRow
row_said (Row row) = Some row
row_said _ = None

-- the step of a line
abbrev pub step_said : Line → Option Step
step_said (Act step) = Some step
step_said _ = None

-- the script of the lines: their tables, rows and steps, in order
abbrev pub script_of : List (List ℕ) → Script
script_of lines = let all = said 1 lines in
    record { tables = filter_map table_said all; rows = filter_map row_said all; steps = filter_map step_said all }

-- the list is empty
abbrev pub is_empty : {A : Type 0} → List A → Bool
is_empty xs = length xs == 0

-- The line may follow those of the script: at least one and at most 64 tables of different names come first, then rows, then steps.
unfoldable pub may_follow : Script → Line → Bool
may_follow before Passed = true
may_follow before (Table table) = is_empty before.rows && is_empty before.steps && nat_lt (length before.tables) 64
    && not (list_any (λ (other : ScriptTable). same_name other.raw.name table.raw.name) before.tables)
may_follow before (Row row) = not (is_empty before.tables) && is_empty before.steps
may_follow before (Act step) = not (is_empty before.tables)

-- the line is valid and may follow those of the script
abbrev pub follows : Script → Option Line → Bool
follows before None = false
follows before (Some line) = may_follow before line

-- the line is valid and may follow the lines before it
abbrev pub is_good : List (List ℕ) → List ℕ → Bool
is_good before line = follows (script_of before) (line_at (length before + 1) line)

-- The number of the first line that is invalid or may not follow those before it, or the number after the last line if there is none and no
-- table.
abbrev pub first_bad_after : List (List ℕ) → List (List ℕ) → Option ℕ
first_bad_after before [] = if is_empty (script_of before).tables then Some (length before + 1) else None
first_bad_after before (line ∷ lines) = if is_good before line then first_bad_after (before ++ line ∷ []) lines
    else Some (length before + 1)

-- the number of the first bad line, or of the missing table; none for a valid script
abbrev pub first_bad : List (List ℕ) → Option ℕ
first_bad lines = first_bad_after [] lines
