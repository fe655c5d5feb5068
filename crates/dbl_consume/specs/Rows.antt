-- The rows of a consumer's tables.
use Rattle.std.specs.Prelude.{ℕ, List, Option, option_map, option_and_then}
use Rattle.std.specs.Borrow.{Bor}
use Rattle.std.specs.BTreeMap.{BTreeMap, get}
use Rattle.dbl_base.specs.Texts.{text_cmp}
use Rattle.dbl_record.specs.declared.acts.HeldCell.{HeldCell}
use Rattle.dbl_record.specs.Consumers.{HeldCells}

-- a row's cells by column
abbrev pub Row : Type 0
Row = BTreeMap (List ℕ) HeldCell

-- a topic's rows by key text
abbrev pub Table : Type 0
Table = BTreeMap (List ℕ) Row

-- tables by topic
abbrev pub Tables : Type 0
Tables = BTreeMap (List ℕ) Table

-- the cells of the row at a key text
abbrev pub row_in : Table → List ℕ → Option HeldCells
row_in table key = option_map (λ row. row.entries) (get text_cmp table key)

-- the cells of the row at a topic and a key text
abbrev pub row_at : Tables → List ℕ → List ℕ → Option HeldCells
row_at tables topic key = option_and_then (λ table. row_in table key) (get text_cmp tables topic)

-- the cells of a borrowed row
abbrev pub cells_in : Option (Bor Row) → Option HeldCells
cells_in row = option_map (λ r. r.now.entries) row
