-- For private clauses: the text of a row, and the rows of tables.
use Rattle.std.specs.Prelude.{ℕ, List, [], ◌∷◌, ◌++◌, Bool, true, if◌then◌else◌, codes}
use Rattle.json.specs.Print.{quoted}
use Rattle.std.specs.BTreeMap.{IsOrdered}
use Rattle.dbl_base.specs.Texts.{text_cmp}
use Rattle.dbl_record.specs.declared.acts.HeldCell.{HeldCell}
use Rattle.dbl_record.specs.Consumers.{HeldCells}
use Rattle.dbl_consume.specs.Rows.{Row, Table}
use Rattle.dbl_consume.specs.Printing.{HeldRow, cell_text}

-- the text of a cell, preceded by a comma unless it is the first
abbrev pub one_cell : Bool → List ℕ → HeldCell → List ℕ
one_cell later column cell = (if later then codes "," else []) ++ quoted column ++ codes ":" ++ cell_text cell

-- the rest of a row's text, given its remaining cells
abbrev pub cells_tail : Bool → HeldCells → List ℕ
cells_tail later [] = codes "}"
cells_tail later (c ∷ cs) = one_cell later c.0 c.1 ++ cells_tail true cs

-- the rows of a topic
abbrev pub rows_in : List ℕ → List (List ℕ × Row) → List HeldRow
rows_in topic [] = []
rows_in topic (row ∷ rows) = ((topic, row.0), row.1.entries) ∷ rows_in topic rows

-- the rows of all topics
abbrev pub all_rows : List (List ℕ × Table) → List HeldRow
all_rows [] = []
all_rows (table ∷ tables) = rows_in table.0 table.1.entries ++ all_rows tables

-- each topic's keys are in ascending order
abbrev pub AreInOrder : List (List ℕ × Table) → Type 0
AreInOrder [] = Unit {0}
AreInOrder (table ∷ tables) = IsOrdered text_cmp table.1 × AreInOrder tables
