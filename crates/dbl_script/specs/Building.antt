-- For private clauses: a script while lines are added.
use Rattle.std.specs.Prelude.{Option, Some, None, [], ◌∷◌, ◌++◌}
use Rattle.dbl_script.specs.declared.script.Script.{Script}
use Rattle.dbl_script.specs.declared.line.Line.{Line}
use Rattle.dbl_script.specs.declared.line.Line.TheVariants.{Passed, Table, Row, Act}

-- the script with one more line
abbrev pub with_line : Script → Line → Script
with_line before Passed = before
with_line before (Table table) = record before { tables = before.tables ++ table ∷ [] }
with_line before (Row row) = record before { rows = before.rows ++ row ∷ [] }
with_line before (Act step) = record before { steps = before.steps ++ step ∷ [] }

-- the script with one more line, if that is valid
abbrev pub with_said : Script → Option Line → Script
with_said before None = before
with_said before (Some line) = with_line before line
