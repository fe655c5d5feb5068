-- A consumer's state after records, row by row. Source: Debezium's PostgreSQL connector manual, "Toasted values", for cells that weren't
-- sent.
use Rattle.std.specs.Prelude.{ℕ, List, [], if◌then◌else◌, Option, Some, None, unwrap_or, fold, map, Result, Ok, Err}
use Rattle.std.specs.Str.{bytes_eq}
use Rattle.std.specs.Map.{lookup}
use Rattle.std.specs.BTreeMap.{insert_entry, is_at}
use Rattle.dbl_base.specs.Texts.{text_cmp}
use Rattle.dbl_record.specs.declared.acts.GivenCell.{GivenCell}
use Rattle.dbl_record.specs.declared.acts.HeldCell.{HeldCell}
use Rattle.dbl_record.specs.declared.acts.HeldCell.TheVariants.{Known, Unknown}
use Rattle.dbl_record.specs.declared.acts.Act.{Act}
use Rattle.dbl_record.specs.declared.acts.Act.TheVariants.{Nothing, Set, Remove, Wipe}
use Rattle.dbl_record.specs.declared.acts.ConsumeError.{ConsumeError}
use Rattle.dbl_record.specs.declared.reading.Line.{Line}
use Rattle.dbl_record.specs.Acts.{Reading, reading_of, act_of}

-- the cells of a row in a consumer's state, by column in byte order
abbrev pub HeldCells : Type 0
HeldCells = List (List ℕ × HeldCell)

-- the cell of a row at a column, if the row exists and has one
abbrev pub held_at : Option HeldCells → List ℕ → Option HeldCell
held_at None column = None
held_at (Some cells) column = lookup (is_at (text_cmp column)) cells

-- the new cell of a column: one that wasn't sent keeps its value, and is unknown if it has none
abbrev pub held_now : Option HeldCells → List ℕ → Option (List ℕ) → HeldCell
held_now row column (Some text) = Known text
held_now row column None = unwrap_or (held_at row column) Unknown

-- the row after these cells are set
abbrev pub row_of : Option HeldCells → List GivenCell → HeldCells
row_of row cells = fold (λ made cell. insert_entry text_cmp made cell.column (held_now row cell.column cell.text)) [] cells

-- the row at a key text after an effect on its topic
abbrev pub row_after_act : Act → List ℕ → Option HeldCells → Option HeldCells
row_after_act Nothing key row = row
row_after_act (Set text cells) key row = if bytes_eq text key then Some (row_of row cells) else row
row_after_act (Remove text) key row = if bytes_eq text key then None else row
row_after_act Wipe key row = None

-- the row after a record's effect; a refused record changes nothing
abbrev pub row_after_result : Result Act ConsumeError → List ℕ → Option HeldCells → Option HeldCells
row_after_result (Ok done) key row = row_after_act done key row
row_after_result (Err error) key row = row

-- the row at a topic and a key text after one more record
abbrev pub row_after : List ℕ → List ℕ → List ℕ → Option HeldCells → Reading → Option HeldCells
row_after placeholder topic key row reading = if bytes_eq reading.topic topic
    then row_after_result (act_of placeholder reading) key row else row

-- The row at a topic and a key text in the state of the consumer of these records, if there is one.
abbrev pub consumer_of : List ℕ → List Reading → List ℕ → List ℕ → Option HeldCells
consumer_of placeholder readings topic key = fold (row_after placeholder topic key) None readings

-- the consumer's state for records given by their texts
abbrev pub consumer : List ℕ → List Line → List ℕ → List ℕ → Option HeldCells
consumer placeholder lines = consumer_of placeholder (map reading_of lines)
