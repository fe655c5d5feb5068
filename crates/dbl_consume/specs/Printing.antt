-- The text of a consumer's rows, and how it is written.
use Rattle.std.specs.Prelude.{◌≡◌, ℕ, List, ◌++◌, Option, Result, map, codes}
use Rattle.std.specs.declared.cmp.Ordering.{Ordering}
use Rattle.std.specs.Ordering.{on, then_cmp}
use Rattle.std.specs.Map.{lookup, keys_of}
use Rattle.std.specs.BTreeMap.{is_at}
use Rattle.std.specs.List.Sorted.{IsStrictlySortedBy}
use Rattle.dbl_base.specs.Texts.{text_cmp}
use Rattle.dbl_record.specs.declared.acts.HeldCell.{HeldCell}
use Rattle.dbl_record.specs.declared.acts.HeldCell.TheVariants.{Known, Unknown}
use Rattle.dbl_record.specs.Acts.{Reading}
use Rattle.dbl_record.specs.Consumers.{HeldCells, consumer_of}
use Rattle.dbl_record.specs.Line.{Part, object_text}
use Rattle.dbl_lines.specs.declared.error.PrintError.{PrintError}
use Rattle.dbl_lines.specs.Writing.{Prints}

-- the identity of a row: its topic and its key text
abbrev pub Spot : Type 0
Spot = List ℕ × List ℕ

-- identities are ordered by topic, then by key text, each by its bytes
abbrev pub spot_cmp : Spot → Spot → Ordering
spot_cmp = then_cmp (on (λ spot. spot.0) text_cmp) (on (λ spot. spot.1) text_cmp)

-- a row with its identity
abbrev pub HeldRow : Type 0
HeldRow = Spot × HeldCells

-- these are the rows of the state, in the order of their identities
pub record AreRowsOf (held : List ℕ → List ℕ → Option HeldCells) (rows : List HeldRow) : Type 0 where
  pub ordered : IsStrictlySortedBy spot_cmp (keys_of rows)
  pub exact : (topic key : List ℕ) → lookup (is_at (spot_cmp (topic, key))) rows ≡ held topic key

-- the rows of a consumer's state are at most one list
abbrev pub RowsAreOne : Type 0
RowsAreOne = (held : List ℕ → List ℕ → Option HeldCells) (a b : List HeldRow) → AreRowsOf held a → AreRowsOf held b → a ≡ b

-- the rows of the state of a consumer of records have such a list
abbrev pub RowsStand : Type 0
RowsStand = (placeholder : List ℕ) (readings : List Reading) → (rows : List HeldRow) × AreRowsOf (consumer_of placeholder readings) rows

-- the text of a cell; an unknown one is an empty object, which is no supported cell
abbrev pub cell_text : HeldCell → List ℕ
cell_text (Known text) = text
cell_text Unknown = codes "{}"

-- a cell as a member of the row's JSON object
abbrev pub cell_part : List ℕ × HeldCell → Part
cell_part cell = (cell.0, cell_text cell.1)

-- the line of a row: the topic, the key text and the row as a JSON object, separated by spaces
abbrev pub row_line : HeldRow → List ℕ
row_line row = row.0.0 ++ codes " " ++ row.0.1 ++ codes " " ++ object_text (map cell_part row.1)

-- the lines of the rows are printed, by the result
abbrev pub PrintsRows : {A : Type 0} → (List ℕ → List ℕ → Option HeldCells) → Result A PrintError → Option (List ℕ)
    → Option (List ℕ) → Type 0
PrintsRows held result before after = (rows : List HeldRow) × AreRowsOf held rows × Prints (map row_line rows) result before after
