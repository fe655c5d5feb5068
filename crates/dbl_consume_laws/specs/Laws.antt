-- Theorems about the records of a source's changes: their lines are read back, and a consumer of them has the source's rows.
use Rattle.std.specs.Prelude.{◌≡◌, ◌≢◌, ℕ, ℤ, ◌<◌, ◌^◌, Option, Some, None, IfSome, option_map, List, length, map, flat_map}
use Rattle.std.specs.List.{AllByRecursion}
use Rattle.serde_json.specs.Data.{string}
use Rattle.dbl_value_types.specs.declared.value.Val.{Val}
use Rattle.dbl_value_types.specs.Values.{json_data}
use Rattle.dbl_record.specs.declared.acts.HeldCell.TheVariants.{Known}
use Rattle.dbl_record.specs.declared.reading.Line.{Line}
use Rattle.dbl_record.specs.declared.record.Record.{Record}
use Rattle.dbl_record.specs.Line.{line_of}
use Rattle.dbl_record.specs.Reading.{IsReadFrom, as_line}
use Rattle.dbl_record.specs.Consumers.{HeldCells, held_at, consumer}
use Rattle.dbl_model_table.specs.declared.row.Key.{Key}
use Rattle.dbl_model_table.specs.declared.table.TableInfo.{TableInfo}
use Rattle.dbl_model_table.specs.declared.identity.Identity.{Identity}
use Rattle.dbl_model_table.specs.declared.change.Cell.{Cell}
use Rattle.dbl_model_table.specs.declared.change.Cell.TheVariants.{Given, Unchanged}
use Rattle.dbl_model_table.specs.declared.change.Change.{Change}
use Rattle.dbl_model_table.specs.declared.change.Change.TheVariants.{Insert, Update, Delete, Clear}
use Rattle.dbl_model_table.specs.declared.change.Commit.{Commit}
use Rattle.dbl_model_event.specs.declared.closed.Closed.{Closed}
use Rattle.dbl_model_table.specs.Rows.{Rows, rows, all_changes}
use Rattle.dbl_model_history.specs.History.{History}
use Rattle.dbl_model_history.specs.Typed.{typed}
use Rattle.dbl_model_history.specs.Ranges.{AreValuesInRange, IsCommitInRange, IsMomentInRange}
use Rattle.dbl_model_history.specs.Fit.{AreInfosOf, IsFitHistory}
use Rattle.dbl_model_history.specs.Image.{Names, IsImage}
use Rattle.dbl_model_event.specs.EventJson.{envelopes}
use Rattle.dbl_model_event.specs.Snapshots.{snapshot}

-- Whether the line of the record is read as its topic, key and value, and as nothing else.
pub record IsReadBack (item : Record) : Type 0 where
  pub reads : IsReadFrom (line_of item) (as_line item)
  pub one : (line : Line) → IsReadFrom (line_of item) line → line ≡ as_line item

-- The records of a commit are read back from their lines.
abbrev pub LinesAreRead : Type 0
LinesAreRead = (identity : Identity) (infos : List TableInfo) (commit : Commit) (now : ℤ) → IsCommitInRange commit → IsMomentInRange now
    → AllByRecursion IsReadBack (envelopes identity infos commit now)

-- Whether the values of a window's rows and keys are in range, and the number of its rows, which is that of a map.
pub record IsWindowInRange (closed : Closed) : Type 0 where
  pub rows : AllByRecursion (λ e. AreValuesInRange e.0.cells × AreValuesInRange e.1.cells) closed.rows
  pub few : length closed.rows < 2 ^ 63
  pub through : IfSome closed.through (λ key. AreValuesInRange key.cells)

-- The records of a closed window of a snapshot are read back from their lines.
abbrev pub SnapshotLinesAreRead : Type 0
SnapshotLinesAreRead = (identity : Identity) (infos : List TableInfo) (closed : Closed) (commit : Commit) (now : ℤ) → IsWindowInRange closed
    → IsCommitInRange commit → IsMomentInRange now
    → AllByRecursion IsReadBack (snapshot identity infos closed commit now)

-- Whether the value isn't printed as the placeholder, which a consumer would take for an unsent cell.
abbrev pub IsNotPlaceholder : List ℕ → Val → Type 0
IsNotPlaceholder placeholder v = json_data v ≢ string placeholder

-- Whether a cell of an update is unsent or isn't printed as the placeholder.
abbrev pub IsNoPlaceholderCell : List ℕ → Cell → Type 0
IsNoPlaceholderCell placeholder (Given v) = IsNotPlaceholder placeholder v
IsNoPlaceholderCell placeholder Unchanged = Unit {0}

-- Whether no cell that the change sets is the placeholder; an old row is not checked, as no consumer looks at it.
abbrev pub LacksPlaceholder : List ℕ → Change → Type 0
LacksPlaceholder placeholder (Insert table row) = AllByRecursion (IsNotPlaceholder placeholder) row.cells
LacksPlaceholder placeholder (Update table from old cells) = AllByRecursion (IsNoPlaceholderCell placeholder) cells
LacksPlaceholder placeholder (Delete table from old) = Unit {0}
LacksPlaceholder placeholder (Clear table) = Unit {0}

-- A valid history, the captured tables, and the time when the records of each commit are made. No sent cell is the placeholder.
pub record IsToldWhole (history : History) (infos : List TableInfo) (identity : Identity) (now : Commit → ℤ) : Type 0 where
  pub fit : IsFitHistory history
  pub captured : AreInfosOf history infos
  pub moments : (commit : Commit) → IsMomentInRange (now commit)
  pub lacks : AllByRecursion (LacksPlaceholder identity.placeholder) (all_changes (typed infos history))

-- The records of commits, as a consumer reads them.
abbrev pub lines_of_commits : Identity → List TableInfo → (Commit → ℤ) → List Commit → List Line
lines_of_commits identity infos now commits = map as_line (flat_map (λ commit. envelopes identity infos commit (now commit)) commits)

-- The row that a consumer of all records of a history has at a topic and a key's text.
abbrev pub held_of : Identity → List TableInfo → (Commit → ℤ) → History → List ℕ → List ℕ → Option HeldCells
held_of identity infos now history topic text =
    consumer identity.placeholder (lines_of_commits identity infos now (typed infos history)) topic text

-- Whether the row has exactly these texts, and no unknown cell.
abbrev pub HoldsTexts : HeldCells → (List ℕ → Option (List ℕ)) → Type 0
HoldsTexts cells texts = (column : List ℕ) → held_at (Some cells) column ≡ option_map Known (texts column)

-- Whether a consumer's row, if any, is exactly the image's, if any.
abbrev pub HoldsJsonTexts : Option HeldCells → Option (List ℕ → Option (List ℕ)) → Type 0
HoldsJsonTexts None None = Unit {0}
HoldsJsonTexts None (Some texts) = ⊥
HoldsJsonTexts (Some cells) None = ⊥
HoldsJsonTexts (Some cells) (Some texts) = HoldsTexts cells texts

-- The rows after all commits.
abbrev pub last_rows : List TableInfo → List Commit → Rows
last_rows infos commits = rows infos commits (length (all_changes commits))

-- At each topic and key text a consumer of all records has the image of the last rows.
abbrev pub ConsumersHoldImages : Type 0
ConsumersHoldImages = (history : History) (infos : List TableInfo) (identity : Identity) (now : Commit → ℤ)
    → IsToldWhole history infos identity now
    → (topic text : List ℕ) (image : Option (List ℕ → Option (List ℕ)))
    → IsImage identity infos (last_rows infos (typed infos history)) topic text image
    → HoldsJsonTexts (held_of identity infos now history topic text) image

-- There is an image at each topic and key text, which is then the one value that the consumer has there.
abbrev pub ImagesStand : Type 0
ImagesStand = (history : History) (infos : List TableInfo) (identity : Identity) (now : Commit → ℤ) → IsToldWhole history infos identity now
    → (topic text : List ℕ) → (image : Option (List ℕ → Option (List ℕ)))
    × IsImage identity infos (last_rows infos (typed infos history)) topic text image

-- Each row of such a consumer is at the topic and the key's text of a captured table and a key.
abbrev pub ConsumersHoldNoOtherRows : Type 0
ConsumersHoldNoOtherRows = (history : History) (infos : List TableInfo) (identity : Identity) (now : Commit → ℤ)
    → IsToldWhole history infos identity now
    → (topic text : List ℕ) (cells : HeldCells) → held_of identity infos now history topic text ≡ Some cells → (table : ℕ) × (key : Key)
    × Names identity infos topic text table key
