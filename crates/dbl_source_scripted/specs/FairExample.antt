-- A small played source that distinguishes a conforming select from another: other clients insert a before it and b during it, and its rows
-- are those of the position between.
use Rattle.std.specs.Prelude.{ℕ, true, false, None, Some, List, [], ◌∷◌, length, codes}
use Rattle.dbl_pgmsg.specs.declared.messages.Message.{Message}
use Rattle.dbl_pgmsg.specs.declared.messages.Message.TheVariants.{Insert}
use Rattle.dbl_pgmsg.specs.declared.messages.TupleCell.TheVariants.{Text}
use Rattle.dbl_model_table.specs.declared.table.TableName.{TableName}
use Rattle.dbl_model_table.specs.declared.table.RawTable.{RawTable}
use Rattle.dbl_model_table.specs.declared.table.RawRow.{RawRow}
use Rattle.dbl_source_model.specs.declared.selected.Selected.{Selected}
use Rattle.dbl_source_log.specs.Relations.{first_oid}
use Rattle.dbl_source_scripted.specs.declared.asked.Last.TheVariants as answers
use Rattle.dbl_source_scripted.specs.declared.moves.Move.{Move}
use Rattle.dbl_source_scripted.specs.Played.{Played, new_played, inside_of, with_release, with_answer, with_mark, with_start, with_select}
use Rattle.dbl_source_scripted.specs.Steps.{WasFair}

-- The name of the example's table.
abbrev pub example_source_name : TableName
example_source_name = record { schema = codes "s"; name = codes "t" }

-- A table with one column of texts, which is the key.
abbrev pub example_raw_table : RawTable
example_raw_table = record {
  name = example_source_name;
  columns = record { name = codes "k"; oid = 25 } ∷ [];
  key = codes "k" ∷ [];
  version = 1;
}

-- A commit that inserts a row.
abbrev pub inserting : List ℕ → List Message
inserting text = Insert first_oid (record { cells = Text text ∷ [] }) ∷ []

-- The row with this text.
abbrev pub row_of : List ℕ → RawRow
row_of text = record { cells = Some text ∷ [] }

-- A move without commits.
abbrev pub no_move : Move
no_move = record { before = []; inside = [] }

-- The moves of a start, a watermark and the select.
abbrev pub example_moves : List Move
example_moves = no_move ∷ no_move ∷ record { before = inserting (codes "a") ∷ []; inside = inserting (codes "b") ∷ [] } ∷ []

-- The answer with version 1 and these rows.
abbrev pub first_version : List RawRow → Selected
first_version rows = record { version = 1; rows = rows }

-- Each select returns only the row a.
abbrev pub example_rows : List Selected
example_rows = first_version (row_of (codes "a") ∷ []) ∷ first_version (row_of (codes "a") ∷ []) ∷ []

-- The state after a select of all rows, at most ten.
abbrev pub selected : Played → Played
selected s = with_select example_source_name None 10 (length s.log) (inside_of s) (with_release s)

-- The state after the start.
abbrev pub started_example : Played
started_example = with_start (record { 0 = 0 }) (with_release (new_played (example_raw_table ∷ []) example_moves example_rows []))

-- The state after the watermark.
abbrev pub marked_example : Played
marked_example = with_mark (codes "1-1-L") (with_release started_example)

-- The state after the select.
abbrev pub selected_example : Played
selected_example = selected marked_example

-- The state after all three commits were read.
abbrev pub read_example : Played
read_example = with_answer answers.Nothing
    (record selected_example
    { place = Some (record { after = record { 0 = 0 }; commits = 3; begun = false; change = 0; table = 0 }); ended = true })

-- The state with other rows as the answer of the select: none, as the table was at the call, or both, as it was at the return.
abbrev pub answered_by : List RawRow → Played
answered_by rows = record read_example { rows = first_version rows ∷ [] }

-- The state with the rows of the select's call.
abbrev pub first_example : Played
first_example = answered_by []

-- The state with the rows of the select's return.
abbrev pub last_example : Played
last_example = answered_by (row_of (codes "a") ∷ row_of (codes "b") ∷ [])

-- The state after another select, whose rows are those from before b.
abbrev pub stale_example : Played
stale_example = selected read_example

-- The source was fair so far for each position of the select that its rows are of, and isn't with the rows of an earlier one.
abbrev pub FairSourcesStand : Type 0
FairSourcesStand = WasFair read_example × WasFair first_example × WasFair last_example × (¬ WasFair stale_example)
