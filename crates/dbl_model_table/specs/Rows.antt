-- The rows of a source at a point in its history. A point is a number of changes, counted from the start of the history.
use Rattle.std.specs.Prelude.{ℕ, ◌+◌, ◌==◌, nat_le, if◌then◌else◌, Bool, true, false, Option, Some, None}
use Rattle.std.specs.Prelude.{option_map, option_and_then, List, [], ◌∷◌, ◌++◌, length, map, take, slice_get}
use Rattle.dbl_value_types.specs.declared.value.Val.{Val}
use Rattle.dbl_model_table.specs.declared.row.Key.{Key}
use Rattle.dbl_model_table.specs.declared.change.Cell.{Cell}
use Rattle.dbl_model_table.specs.declared.change.Cell.TheVariants.{Given, Unchanged}
use Rattle.dbl_model_table.specs.declared.change.Change.{Change}
use Rattle.dbl_model_table.specs.declared.change.Change.TheVariants.{Insert, Update, Delete, Clear}
use Rattle.dbl_model_table.specs.declared.change.Body.TheVariants.{Changes, Mark}
use Rattle.dbl_model_table.specs.declared.change.Commit.{Commit}
use Rattle.dbl_model_table.specs.declared.table.TableInfo.{TableInfo}
use Rattle.dbl_model_table.specs.Infos.{key_places}
use Rattle.dbl_model_table.specs.Keys.{same_key, key_at, given_or_null}

-- The effect of one change on the row at one table and key: none, a whole new row, new values of some cells, or the row's end.
pub data Effect : Type 0 where
  Stays : Effect
  Whole : List Val → Effect
  Part : List Cell → Effect
  Ends : Effect

-- The row of an update whose cells are all sent, None if one is unsent.
abbrev pub all_given : List Cell → Option (List Val)
all_given [] = Some []
all_given (Given v ∷ cells) = option_map (λ row. v ∷ row) (all_given cells)
all_given (Unchanged ∷ cells) = None

-- The effect of an update at its new key: a whole row if every cell was sent, otherwise new values of some cells.
abbrev pub updated : Option (List Val) → List Cell → Effect
updated (Some row) cells = Whole row
updated None cells = Part cells

-- The effect at the change's table and key, and none elsewhere.
abbrev pub at_key : Bool → Bool → Effect → Effect
at_key true true effect = effect
at_key true false effect = Stays
at_key false key effect = Stays

-- The effect of an update, by whether the table, the new key and the old key match. An update that moves the key ends the old key's row.
abbrev pub at_keys : Bool → Bool → Bool → Effect → Effect
at_keys true true old effect = effect
at_keys true false true effect = Ends
at_keys true false false effect = Stays
at_keys false new old effect = Stays

-- The effect of a change on the row at a table and key. The new key of an update is that of its cells, with Null for an unsent one.
abbrev pub effect_of : List TableInfo → Change → ℕ → Key → Effect
effect_of infos (Insert t row) table key = at_key (t == table) (same_key (key_at (key_places infos t) row.cells) key) (Whole row.cells)
effect_of infos (Update t old_key old cells) table key =
    at_keys (t == table) (same_key (key_at (key_places infos t) (map given_or_null cells)) key) (same_key old_key key)
    (updated (all_given cells) cells)
effect_of infos (Delete t old_key old) table key = at_key (t == table) (same_key old_key key) Ends
effect_of infos (Clear t) table key = at_key (t == table) true Ends

-- Whether an effect determines the row without the earlier one: every cell is set, or the row ends.
abbrev pub IsWholeEffect : Effect → Type 0
IsWholeEffect Stays = ⊥
IsWholeEffect (Whole row) = Unit {0}
IsWholeEffect (Part cells) = ⊥
IsWholeEffect Ends = Unit {0}

-- Whether a change sets every cell of the key's row, or ends that row.
abbrev pub IsWholeFor : List TableInfo → Change → ℕ → Key → Type 0
IsWholeFor infos change table key = IsWholeEffect (effect_of infos change table key)

-- A row with the cells of an update: a sent cell replaces the row's, an unsent one keeps it.
abbrev pub overlay : List Cell → List Val → List Val
overlay [] row = row
overlay (cell ∷ cells) [] = []
overlay (Given v ∷ cells) (x ∷ row) = v ∷ overlay cells row
overlay (Unchanged ∷ cells) (x ∷ row) = x ∷ overlay cells row

-- The row after an effect.
abbrev pub row_after : Effect → Option (List Val) → Option (List Val)
row_after Stays row = row
row_after (Whole new) row = Some new
row_after (Part cells) row = option_map (overlay cells) row
row_after Ends row = None

-- The cells of the row at each table and key.
abbrev pub Rows : Type 0
Rows = ℕ → Key → Option (List Val)

-- The state with no rows.
abbrev pub no_rows : Rows
no_rows table key = None

-- The rows after one change.
abbrev pub rows_after : List TableInfo → Change → Rows → Rows
rows_after infos change rows table key = row_after (effect_of infos change table key) (rows table key)

-- The rows after a list of changes.
abbrev pub rows_from : List TableInfo → Rows → List Change → Rows
rows_from infos rows [] = rows
rows_from infos rows (change ∷ changes) = rows_from infos (rows_after infos change rows) changes

-- The rows after the first changes of a history, which starts with no rows.
abbrev pub rows_at : List TableInfo → List Change → ℕ → Rows
rows_at infos changes moment = rows_from infos no_rows (take moment changes)

-- The cell of a row at a column index, None if there is no row.
abbrev pub cell_of : Option (List Val) → ℕ → Option Val
cell_of row column = option_and_then (λ cells. slice_get cells column) row

-- The cell of a table, key and column at a point in the history.
abbrev pub cell_at : List TableInfo → List Change → ℕ → Key → ℕ → ℕ → Option Val
cell_at infos changes table key column moment = cell_of (rows_at infos changes moment table key) column

-- The index, among the captured tables, of the table that a change is of.
abbrev pub table_of : Change → ℕ
table_of (Insert table row) = table
table_of (Update table key old cells) = table
table_of (Delete table key old) = table
table_of (Clear table) = table

-- The changes of a commit; a watermark's commit has none.
abbrev pub changes_of : Commit → List Change
changes_of commit = elim commit.body [ Changes changes ↦ changes | Mark value ↦ [] ]

-- The changes of a list of commits, in order.
abbrev pub all_changes : List Commit → List Change
all_changes [] = []
all_changes (commit ∷ commits) = changes_of commit ++ all_changes commits

-- The rows at a point in a history.
abbrev pub rows : List TableInfo → List Commit → ℕ → Rows
rows infos history moment = rows_at infos (all_changes history) moment

-- The point in the history after some number of whole commits and some number of changes of the next commit.
abbrev pub moment_of : List Commit → ℕ → ℕ → ℕ
moment_of history commits changes = length (all_changes (take commits history)) + changes

-- The point in the history that a position names if LSNs rise: after all commits up to this LSN, including the commit that has it.
abbrev pub moment_at : List Commit → ℕ → ℕ
moment_at [] position = 0
moment_at (commit ∷ commits) position = if nat_le commit.lsn.0 position then length (changes_of commit) + moment_at commits position else 0
