-- Changes that match the captured tables: as wide as their tables, of the columns' types, with keys of the key types.
use Rattle.std.specs.Prelude.{◌≡◌, ◌⊎◌, ℕ, Option, Some, None, IfSome, IsSome, IsSomeAnd, List, [], ◌∷◌, slice_get}
use Rattle.std.specs.List.{AllByRecursion}
use Rattle.dbl_value_types.specs.declared.column_type.PgType.{PgType}
use Rattle.dbl_value_types.specs.declared.value.Val.{Val}
use Rattle.dbl_value_types.specs.Values.{value_of, IsCellOf}
use Rattle.dbl_model_table.specs.declared.row.Key.{Key}
use Rattle.dbl_model_table.specs.declared.row.Row.{Row}
use Rattle.dbl_model_table.specs.declared.change.Cell.{Cell}
use Rattle.dbl_model_table.specs.declared.change.Cell.TheVariants.{Given, Unchanged}
use Rattle.dbl_model_table.specs.declared.change.Change.{Change}
use Rattle.dbl_model_table.specs.declared.change.Change.TheVariants.{Insert, Update, Delete, Clear}
use Rattle.dbl_model_table.specs.declared.table.TableInfo.{TableInfo}
use Rattle.dbl_model_table.specs.Infos.{column_types, number_of}
use Rattle.dbl_model_table.specs.Keys.{key_of, new_key_of}
use Rattle.dbl_model_table.specs.Rows.{all_given}
use Rattle.dbl_model_history.specs.History.{RawCell, RawChange, History, raw_changes_of}
use Rattle.dbl_model_history.specs.History as raw
use Rattle.dbl_model_history.specs.Typed.{types_of}
use Rattle.dbl_model_history.specs.Fit.{IsKeyOf}

-- Whether there is one value per column, each of its column's type or Null.
abbrev pub AreCellsOf : List PgType → List Val → Type 0
AreCellsOf [] [] = Unit {0}
AreCellsOf [] (v ∷ values) = ⊥
AreCellsOf (ty ∷ types) [] = ⊥
AreCellsOf (ty ∷ types) (v ∷ values) = IsCellOf ty v × AreCellsOf types values

-- Whether a cell is unsent, or of the type or Null.
abbrev pub IsSentOf : PgType → Cell → Type 0
IsSentOf ty (Given v) = IsCellOf ty v
IsSentOf ty Unchanged = Unit {0}

-- Whether there is one cell per column, each unsent, or of its column's type or Null.
abbrev pub AreSentOf : List PgType → List Cell → Type 0
AreSentOf [] [] = Unit {0}
AreSentOf [] (cell ∷ cells) = ⊥
AreSentOf (ty ∷ types) [] = ⊥
AreSentOf (ty ∷ types) (cell ∷ cells) = IsSentOf ty cell × AreSentOf types cells

-- An insert that matches its table: cells of the columns' types, and a key of the key types.
pub record FitsInsert (info : TableInfo) (row : Row) : Type 0 where
  pub cells : AreCellsOf (column_types info) row.cells
  pub key : IsKeyOf info (key_of info row.cells)

-- An update that matches its table: cells of the columns' types, and old and new keys of the key types.
pub record FitsUpdate (info : TableInfo) (from : Key) (before : Option Row) (after : List Cell) : Type 0 where
  pub old : IfSome before (λ row. AreCellsOf (column_types info) row.cells)
  pub cells : AreSentOf (column_types info) after
  pub old_key : IsKeyOf info from
  -- None of the new key's cells is Null or unsent.
  pub new_key : IsKeyOf info (new_key_of info after)
  -- An update that moves the key leaves no cell unsent.
  pub stays_or_moves : (from ≡ new_key_of info after) ⊎ IsSome (all_given after)

-- A delete that matches its table: an old row of the columns' types, and a key of the key types.
pub record FitsDelete (info : TableInfo) (from : Key) (before : Row) : Type 0 where
  pub old : AreCellsOf (column_types info) before.cells
  pub old_key : IsKeyOf info from

-- Whether a change is of a captured table and matches it.
abbrev pub FitsInfos : List TableInfo → Change → Type 0
FitsInfos infos (Insert table row) = IsSomeAnd (slice_get infos table) (λ info. FitsInsert info row)
FitsInfos infos (Update table from old cells) = IsSomeAnd (slice_get infos table) (λ info. FitsUpdate info from old cells)
FitsInfos infos (Delete table from old) = IsSomeAnd (slice_get infos table) (λ info. FitsDelete info from old)
FitsInfos infos (Clear table) = IsSome (slice_get infos table)

-- ---- readable changes of a source's history

-- Whether a text parses as a value of its column's type; null always does. A text that doesn't is kept as a Text in the typed history.
abbrev pub IsReadable : PgType → Option (List ℕ) → Type 0
IsReadable ty None = Unit {0}
IsReadable ty (Some text) = IsSome (value_of ty text)

-- Whether each text parses at its column's type; cells past the last column are not checked.
abbrev pub AreReadable : List PgType → List (Option (List ℕ)) → Type 0
AreReadable types [] = Unit {0}
AreReadable [] (text ∷ texts) = Unit {0}
AreReadable (ty ∷ types) (text ∷ texts) = IsReadable ty text × AreReadable types texts

-- Whether a sent cell parses at its column's type; an unsent one always does.
abbrev pub IsReadableCell : PgType → RawCell → Type 0
IsReadableCell ty (raw.Given text) = IsReadable ty text
IsReadableCell ty raw.Unchanged = Unit {0}

-- Whether each cell of an update parses at its column's type.
abbrev pub AreReadableCells : List PgType → List RawCell → Type 0
AreReadableCells types [] = Unit {0}
AreReadableCells [] (cell ∷ cells) = Unit {0}
AreReadableCells (ty ∷ types) (cell ∷ cells) = IsReadableCell ty cell × AreReadableCells types cells

-- Whether the rows and cells of a change of a captured table are readable. Its key is not checked, as keys of a valid history are readable.
abbrev pub IsReadableChange : List TableInfo → RawChange → Type 0
IsReadableChange infos (raw.Insert name row) = IfSome (number_of infos name) (λ table. AreReadable (types_of infos table) row.cells)
IsReadableChange infos (raw.Update name key old cells) =
    IfSome (number_of infos name)
    (λ table. IfSome old (λ row. AreReadable (types_of infos table) row.cells) × AreReadableCells (types_of infos table) cells)
IsReadableChange infos (raw.Delete name key old) = IfSome (number_of infos name) (λ table. AreReadable (types_of infos table) old.cells)
IsReadableChange infos (raw.Clear name) = Unit {0}

-- Whether every change of a history is readable.
abbrev pub IsReadableHistory : List TableInfo → History → Type 0
IsReadableHistory infos history =
    AllByRecursion (λ commit. AllByRecursion (IsReadableChange infos) (raw_changes_of commit.body)) history.commits
