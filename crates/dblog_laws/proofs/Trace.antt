-- What the events of a commit in range tell: cells in range, of tables whose names are UTF-8, and a key but where a table was
-- truncated.
use Rattle.std.proofs.Common.{ℕ, zero, suc, List, [], ◌∷◌, Bool, true, false, cond, Option, Some, None, map, flat_map}
use Rattle.std.specs.Prelude.{IfSome, option_map, unwrap_or, slice_get}
use Rattle.std.specs.List.{AllByRecursion}
use Rattle.dbl_value_types.specs.declared.value.Val.{Val}
use Rattle.dbl_model_table.specs.declared.row.Key.{Key}
use Rattle.dbl_model_table.specs.declared.row.Row.{Row}
use Rattle.dbl_model_table.specs.declared.table.TableInfo.{TableInfo}
use Rattle.dbl_model_table.specs.declared.change.Cell.{Cell}
use Rattle.dbl_model_table.specs.declared.change.Cell.TheVariants.{Given, Unchanged}
use Rattle.dbl_model_table.specs.declared.change.Change.{Change}
use Rattle.dbl_model_table.specs.declared.change.Change.TheVariants.{Insert, Update, Delete, Clear}
use Rattle.dbl_model_table.specs.Keys.{cell_or_null, key_of, new_key_of, given_or_null, same_key}
use Rattle.dbl_model_table.specs.Rows.{table_of}
use Rattle.dbl_model_history.specs.Ranges.{IsValueInRange, AreValuesInRange, IsCellInRange, IsChangeInRange, IsInfoInRange}
use Rattle.dbl_model_event.specs.Events.{Content, Created, Updated, Deleted, Tombstone, Truncated, Notice, move_notices, change_notices, notices}
use Rattle.dbl_consume_laws.proofs.Notices.{all_append}

abbrev pub KeyInRange : Option Key → Type 0
KeyInRange key = IfSome key (λ k. AreValuesInRange k.cells)

abbrev pub OldInRange : Option Row → Type 0
OldInRange old = IfSome old (λ row. AreValuesInRange row.cells)

abbrev pub ContentInRange : Content → Type 0
ContentInRange (Created row) = AreValuesInRange row.cells
ContentInRange (Updated old cells) = OldInRange old × AllByRecursion IsCellInRange cells
ContentInRange (Deleted old) = OldInRange old
ContentInRange Tombstone = Unit {0}
ContentInRange Truncated = Unit {0}

abbrev pub IsKeyed : Option Key → Content → Type 0
IsKeyed None (Created row) = ⊥
IsKeyed None (Updated old cells) = ⊥
IsKeyed None (Deleted old) = ⊥
IsKeyed None Tombstone = ⊥
IsKeyed None Truncated = Unit {0}
IsKeyed (Some key) (Created row) = Unit {0}
IsKeyed (Some key) (Updated old cells) = Unit {0}
IsKeyed (Some key) (Deleted old) = Unit {0}
IsKeyed (Some key) Tombstone = Unit {0}
IsKeyed (Some key) Truncated = ⊥

pub record IsTold (n : Notice) : Type 0 where
  pub info : IsInfoInRange n.info
  pub key : KeyInRange n.key
  pub newkey : KeyInRange n.newkey
  pub oldkey : KeyInRange n.oldkey
  pub content : ContentInRange n.content
  pub keyed : IsKeyed n.key n.content

cell_in_range : (values : List Val) (place : ℕ) → AreValuesInRange values → IsValueInRange (cell_or_null values place)
cell_in_range [] place h = tt
cell_in_range (v ∷ values) zero h = h.0
cell_in_range (v ∷ values) (suc place) h = cell_in_range values place h.1

cells_in_range : (values : List Val) (places : List ℕ) → AreValuesInRange values → AreValuesInRange (map (cell_or_null values) places)
cells_in_range values [] h = tt
cells_in_range values (place ∷ places) h = (cell_in_range values place h, cells_in_range values places h)

key_in_range : (info : TableInfo) (values : List Val) → AreValuesInRange values → AreValuesInRange (key_of info values).cells
key_in_range info values h = cells_in_range values info.key h

given_in_range : (cells : List Cell) → AllByRecursion IsCellInRange cells → AreValuesInRange (map given_or_null cells)
given_in_range [] h = tt
given_in_range (Given v ∷ cells) h = (h.0, given_in_range cells h.1)
given_in_range (Unchanged ∷ cells) h = (tt, given_in_range cells h.1)

-- an update in place, or a move
update_told : (table : ℕ) (info : TableInfo) (from to : Key) (old : Option Row) (cells : List Cell) (stays : Bool) → IsInfoInRange info → AreValuesInRange from.cells → AreValuesInRange to.cells → OldInRange old → AllByRecursion IsCellInRange cells
    → AllByRecursion IsTold (cond stays (record { table = table; info = info; key = Some from; content = Updated old cells; newkey = None; oldkey = None } ∷ []) (move_notices table info from to old (record { cells = map given_or_null cells })))
update_told table info from to old cells true i f t o c = (record { info = i; key = f; newkey = tt; oldkey = tt; content = (o, c); keyed = tt }, tt)
update_told table info from to old cells false i f t o c = (
  record { info = i; key = f; newkey = t; oldkey = tt; content = o; keyed = tt },
  (record { info = i; key = f; newkey = tt; oldkey = tt; content = tt; keyed = tt }, (record { info = i; key = t; newkey = tt; oldkey = f; content = given_in_range cells c; keyed = tt }, tt)),
)

change_told : (table : ℕ) (info : TableInfo) (c : Change) → IsInfoInRange info → IsChangeInRange c → AllByRecursion IsTold (change_notices table info c)
change_told table info (Insert t row) i h = (record { info = i; key = key_in_range info row.cells h; newkey = tt; oldkey = tt; content = h; keyed = tt }, tt)
change_told table info (Update t from old cells) i h =
    update_told table info from (new_key_of info cells) old cells (same_key from (new_key_of info cells)) i h.key (key_in_range info (map given_or_null cells) (given_in_range cells h.cells)) h.old h.cells
change_told table info (Delete t from old) i h = (
  record { info = i; key = h.0; newkey = tt; oldkey = tt; content = h.1; keyed = tt },
  (record { info = i; key = h.0; newkey = tt; oldkey = tt; content = tt; keyed = tt }, tt),
)
change_told table info (Clear t) i h = (record { info = i; key = tt; newkey = tt; oldkey = tt; content = tt; keyed = tt }, tt)

info_at : (infos : List TableInfo) (table : ℕ) → AllByRecursion IsInfoInRange infos → IfSome (slice_get infos table) IsInfoInRange
info_at [] table h = tt
info_at (info ∷ infos) zero h = h.0
info_at (info ∷ infos) (suc table) h = info_at infos table h.1

notices_told : (infos : List TableInfo) (c : Change) → AllByRecursion IsInfoInRange infos → IsChangeInRange c → AllByRecursion IsTold (notices infos c)
notices_told infos c i h = step (slice_get infos (table_of c)) (info_at infos (table_of c) i)
  where
    step : (o : Option TableInfo) → IfSome o IsInfoInRange → AllByRecursion IsTold (unwrap_or (option_map (λ info. change_notices (table_of c) info c) o) [])
    step None is = tt
    step (Some info) is = change_told (table_of c) info c is h

pub changes_told : (infos : List TableInfo) (cs : List Change) → AllByRecursion IsInfoInRange infos → AllByRecursion IsChangeInRange cs → AllByRecursion IsTold (flat_map (notices infos) cs)
changes_told infos [] i h = tt
changes_told infos (c ∷ cs) i h = all_append IsTold (notices infos c) (flat_map (notices infos) cs) (notices_told infos c i h.0) (changes_told infos cs i h.1)
