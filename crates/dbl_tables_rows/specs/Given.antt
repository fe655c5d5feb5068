-- For the clauses of calls: cells by the indices of their columns, and messages with UTF-8 texts.
use Rattle.std.specs.Prelude.{◌≡◌, ◌<◌, ◌≤◌, ◌^◌, ℕ, true, false, Option, None, Some, List, [], ◌∷◌, ◌++◌, length, map}
use Rattle.std.specs.List.{AllByRecursion}
use Rattle.std.specs.Str.{IsUtf8}
use Rattle.std.specs.Borrow.{Bor}
use Rattle.std.specs.Ordering.{nat_cmp}
use Rattle.std.specs.Cmp.Lexicographic.{slice_cmp}
use Rattle.std.specs.BTreeMap.{BTreeMap, get, get_by}
use Rattle.dbl_base.specs.Texts.{text_cmp}
use Rattle.dbl_pgmsg.specs.declared.messages.Message.{Message}
use Rattle.dbl_pgmsg.specs.declared.messages.Message.TheVariants as says
use Rattle.dbl_pgmsg.specs.declared.messages.OldTuple.{OldTuple}
use Rattle.dbl_pgmsg.specs.declared.messages.OldTuple.TheVariants as old
use Rattle.dbl_pgmsg.specs.declared.messages.Tuple.{Tuple}
use Rattle.dbl_pgmsg.specs.declared.messages.TupleCell.{TupleCell}
use Rattle.dbl_pgmsg.specs.declared.messages.TupleCell.TheVariants as cell
use Rattle.dbl_pgmsg.specs.Grammar.{Fits}
use Rattle.dbl_model_table.specs.declared.named_cell.NamedCell.{NamedCell}
use Rattle.dbl_model_table.specs.declared.table.TableInfo.{TableInfo}
use Rattle.dbl_model_table.specs.Made.{place_of}
use Rattle.dbl_model_table.specs.Tables.{column_names}
use Rattle.dbl_tables_rows.specs.Sending.{entry_size, entry_limit, is_too_long}

-- A map has the index of each name.
pub record Places (names : List (List ℕ)) (look : List ℕ → Option ℕ) : Type 0 where
  pub each : (name : List ℕ) → look name ≡ place_of names name

-- The column names of some cells.
abbrev pub given_names : List NamedCell → List (List ℕ)
given_names cells = map (λ given. given.column) cells

-- The index under a name in a map by borrowed names.
abbrev pub place_under : BTreeMap (Bor (List ℕ)) ℕ → List ℕ → Option ℕ
place_under places name = get_by (λ k. slice_cmp nat_cmp name k.now) places

-- The map has the index of each cell, by its column's name.
abbrev pub HasCells : List NamedCell → BTreeMap (Bor (List ℕ)) ℕ → Type 0
HasCells cells places = Places (given_names cells) (place_under places)

-- The map has the index of each column, by its name.
abbrev pub HasColumns : TableInfo → BTreeMap (List ℕ) ℕ → Type 0
HasColumns info places = Places (column_names info.columns) (get text_cmp places)

-- ---- messages with UTF-8 texts

-- The text of a message's cell, if it has one, is UTF-8.
abbrev pub IsUtf8Cell : TupleCell → Type 0
IsUtf8Cell cell.Null = Unit {0}
IsUtf8Cell cell.Unchanged = Unit {0}
IsUtf8Cell (cell.Text text) = IsUtf8 text

-- A tuple has at most as many cells as its format allows, and UTF-8 texts.
pub record IsUtf8Tuple (tuple : Tuple) : Type 0 where
  pub count : length tuple.cells ≤ 1600
  pub each : AllByRecursion IsUtf8Cell tuple.cells

-- The texts of an old tuple are UTF-8.
abbrev pub IsUtf8Old : OldTuple → Type 0
IsUtf8Old (old.Key tuple) = IsUtf8Tuple tuple
IsUtf8Old (old.Whole tuple) = IsUtf8Tuple tuple

-- The cells of an old tuple.
abbrev pub old_tuple_cells : OldTuple → List TupleCell
old_tuple_cells (old.Key tuple) = tuple.cells
old_tuple_cells (old.Whole tuple) = tuple.cells

-- The texts of an optional old tuple are UTF-8.
abbrev pub IsUtf8OldIfAny : Option OldTuple → Type 0
IsUtf8OldIfAny None = Unit {0}
IsUtf8OldIfAny (Some before) = IsUtf8Old before

-- A change has UTF-8 texts and OIDs of 32 bits: unless too long, it can be encoded.
abbrev pub IsUtf8Change : Message → Type 0
IsUtf8Change (says.Insert oid new) = (oid < 2 ^ 32) × IsUtf8Tuple new
IsUtf8Change (says.Update oid before new) = (oid < 2 ^ 32) × IsUtf8OldIfAny before × IsUtf8Tuple new
IsUtf8Change (says.Delete oid before) = (oid < 2 ^ 32) × IsUtf8Old before
IsUtf8Change (says.Truncate options oids) = (options < 2 ^ 8) × AllByRecursion (λ oid. oid < 2 ^ 32) oids
IsUtf8Change m = ⊥

-- The size of the entry with one more change; none if it would be too long.
abbrev pub SizeGrown : List Message → Message → Option ℕ → Type 0
SizeGrown messages message None = is_too_long messages message ≡ true
SizeGrown messages message (Some size) = (is_too_long messages message ≡ false) × (size ≡ entry_size (messages ++ message ∷ []))
    × (size ≤ entry_limit) × Fits message

-- The size of a commit's entry with one more message, if `size` is that without it.
abbrev pub SizeGrows : ℕ → Message → Option ℕ → Type 0
SizeGrows size message grown = (messages : List Message) → IsUtf8Change message → size ≤ entry_limit → size ≡ entry_size messages
    → SizeGrown messages message grown
