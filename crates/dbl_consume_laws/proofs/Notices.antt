-- What the changes of a commit in range tell: keys and cells that fit, and no more events than a count of 64 bits holds.
use Rattle.std.proofs.Common.{◌≤◌, ◌<◌, ◌^◌, ◌*◌, ℕ, suc, zero, List, [], ◌∷◌, ◌++◌, Bool, true, false, cond, Option, Some, None, length, map, flat_map, arith}
use Rattle.std.specs.Prelude.{IfSome, option_map, unwrap_or, slice_get}
use Rattle.std.specs.List.{AllByRecursion}
use Rattle.std.proofs.lemmas.List.{length-append}
use Rattle.dbl_value_types.specs.declared.value.Val.{Val}
use Rattle.dbl_model_table.specs.declared.row.Key.{Key}
use Rattle.dbl_model_table.specs.declared.row.Row.{Row}
use Rattle.dbl_model_table.specs.declared.table.TableInfo.{TableInfo}
use Rattle.dbl_model_table.specs.declared.change.Cell.{Cell}
use Rattle.dbl_model_table.specs.declared.change.Cell.TheVariants.{Given, Unchanged}
use Rattle.dbl_model_table.specs.declared.change.Change.{Change}
use Rattle.dbl_model_table.specs.declared.change.Change.TheVariants.{Insert, Update, Delete, Clear}
use Rattle.dbl_model_table.specs.declared.change.Body.{Body}
use Rattle.dbl_model_table.specs.declared.change.Body.TheVariants.{Changes, Mark}
use Rattle.dbl_model_table.specs.declared.change.Commit.{Commit}
use Rattle.dbl_model_table.specs.Keys.{cell_or_null, key_of, new_key_of, given_or_null, same_key}
use Rattle.dbl_model_table.specs.Rows.{table_of, changes_of}
use Rattle.dbl_model_history.specs.Ranges.{AreValuesInRange, IsCellInRange, IsChangeInRange, IsBodyInRange, IsCommitInRange}
use Rattle.dbl_model_event.specs.Events.{Content, Created, Updated, Deleted, Tombstone, Truncated, Notice, move_notices, change_notices, notices}
use Rattle.dbl_consume_laws.proofs.Wholes.{Fits, AllFit, fits_in_range, all_fit_in_range}

-- ---- what a notice tells fits

abbrev pub CellFits : Cell → Type 0
CellFits (Given v) = Fits v
CellFits Unchanged = Unit {0}

abbrev pub KeyFits : Option Key → Type 0
KeyFits key = IfSome key (λ k. AllFit k.cells)

abbrev pub ContentFits : Content → Type 0
ContentFits (Created row) = AllFit row.cells
ContentFits (Updated old cells) = IfSome old (λ row. AllFit row.cells) × AllByRecursion CellFits cells
ContentFits (Deleted old) = IfSome old (λ row. AllFit row.cells)
ContentFits Tombstone = Unit {0}
ContentFits Truncated = Unit {0}

pub record NoticeFits (n : Notice) : Type 0 where
  pub key : KeyFits n.key
  pub newkey : KeyFits n.newkey
  pub oldkey : KeyFits n.oldkey
  pub content : ContentFits n.content

cell_fits : (values : List Val) (place : ℕ) → AllFit values → Fits (cell_or_null values place)
cell_fits [] place h = tt
cell_fits (v ∷ values) zero h = h.0
cell_fits (v ∷ values) (suc place) h = cell_fits values place h.1

cells_fit : (values : List Val) (places : List ℕ) → AllFit values → AllFit (map (cell_or_null values) places)
cells_fit values [] h = tt
cells_fit values (place ∷ places) h = (cell_fits values place h, cells_fit values places h)

pub key_fits : (info : TableInfo) (values : List Val) → AllFit values → AllFit (key_of info values).cells
key_fits info values h = cells_fit values info.key h

pub cells_in_range : (cells : List Cell) → AllByRecursion IsCellInRange cells → AllByRecursion CellFits cells
cells_in_range [] h = tt
cells_in_range (Given v ∷ cells) h = (fits_in_range v h.0, cells_in_range cells h.1)
cells_in_range (Unchanged ∷ cells) h = (tt, cells_in_range cells h.1)

pub given_fit : (cells : List Cell) → AllByRecursion CellFits cells → AllFit (map given_or_null cells)
given_fit [] h = tt
given_fit (Given v ∷ cells) h = (h.0, given_fit cells h.1)
given_fit (Unchanged ∷ cells) h = (tt, given_fit cells h.1)

pub old_fits : (old : Option Row) → IfSome old (λ row. AreValuesInRange row.cells) → IfSome old (λ row. AllFit row.cells)
old_fits None h = tt
old_fits (Some row) h = all_fit_in_range row.cells h

-- an update in place, or a move
update_fits : (table : ℕ) (info : TableInfo) (from to : Key) (old : Option Row) (cells : List Cell) (stays : Bool) → AllFit from.cells → AllFit to.cells → IfSome old (λ row. AllFit row.cells) → AllByRecursion CellFits cells
    → AllByRecursion NoticeFits (cond stays (record { table = table; info = info; key = Some from; content = Updated old cells; newkey = None; oldkey = None } ∷ []) (move_notices table info from to old (record { cells = map given_or_null cells })))
update_fits table info from to old cells true f t o c = (record { key = f; newkey = tt; oldkey = tt; content = (o, c) }, tt)
update_fits table info from to old cells false f t o c =
    (record { key = f; newkey = t; oldkey = tt; content = o }, (record { key = f; newkey = tt; oldkey = tt; content = tt }, (record { key = t; newkey = tt; oldkey = f; content = given_fit cells c }, tt)))

change_fits : (table : ℕ) (info : TableInfo) (c : Change) → IsChangeInRange c → AllByRecursion NoticeFits (change_notices table info c)
change_fits table info (Insert t row) h = let fit = all_fit_in_range row.cells h in (record { key = key_fits info row.cells fit; newkey = tt; oldkey = tt; content = fit }, tt)
change_fits table info (Update t from old cells) h =
    let fit = cells_in_range cells h.cells in
    update_fits table info from (new_key_of info cells) old cells (same_key from (new_key_of info cells)) (all_fit_in_range from.cells h.key) (key_fits info (map given_or_null cells) (given_fit cells fit)) (old_fits old h.old) fit
change_fits table info (Delete t from old) h =
    let key = all_fit_in_range from.cells h.0 in
    (record { key = key; newkey = tt; oldkey = tt; content = all_fit_in_range old.cells h.1 }, (record { key = key; newkey = tt; oldkey = tt; content = tt }, tt))
change_fits table info (Clear t) h = (record { key = tt; newkey = tt; oldkey = tt; content = tt }, tt)

notices_fit : (infos : List TableInfo) (c : Change) → IsChangeInRange c → AllByRecursion NoticeFits (notices infos c)
notices_fit infos c h = step (slice_get infos (table_of c))
  where
    step : (o : Option TableInfo) → AllByRecursion NoticeFits (unwrap_or (option_map (λ info. change_notices (table_of c) info c) o) [])
    step None = tt
    step (Some info) = change_fits (table_of c) info c h

pub all_append : {X : Type 0} (P : X → Type 0) (xs ys : List X) → AllByRecursion P xs → AllByRecursion P ys → AllByRecursion P (xs ++ ys)
all_append P [] ys h k = k
all_append P (x ∷ xs) ys h k = (h.0, all_append P xs ys h.1 k)

all_fit : (infos : List TableInfo) (cs : List Change) → AllByRecursion IsChangeInRange cs → AllByRecursion NoticeFits (flat_map (notices infos) cs)
all_fit infos [] h = tt
all_fit infos (c ∷ cs) h = all_append NoticeFits (notices infos c) (flat_map (notices infos) cs) (notices_fit infos c h.0) (all_fit infos cs h.1)

-- ---- how many they are

update_few : (table : ℕ) (info : TableInfo) (from to : Key) (old : Option Row) (cells : List Cell) (stays : Bool)
    → length (cond stays (record { table = table; info = info; key = Some from; content = Updated old cells; newkey = None; oldkey = None } ∷ []) (move_notices table info from to old (record { cells = map given_or_null cells }))) ≤ 3
update_few table info from to old cells true = omega arith
update_few table info from to old cells false = omega arith

change_few : (table : ℕ) (info : TableInfo) (c : Change) → length (change_notices table info c) ≤ 3
change_few table info (Insert t row) = omega arith
change_few table info (Update t from old cells) = update_few table info from (new_key_of info cells) old cells (same_key from (new_key_of info cells))
change_few table info (Delete t from old) = omega arith
change_few table info (Clear t) = omega arith

few : (infos : List TableInfo) (c : Change) → length (notices infos c) ≤ 3
few infos c = step (slice_get infos (table_of c))
  where
    step : (o : Option TableInfo) → length (unwrap_or (option_map (λ info. change_notices (table_of c) info c) o) []) ≤ 3
    step None = omega arith
    step (Some info) = change_few (table_of c) info c

not_many : (infos : List TableInfo) (cs : List Change) → length (flat_map (notices infos) cs) ≤ 3 * length cs
not_many infos [] = omega arith
not_many infos (c ∷ cs) = omega (arith, length-append (notices infos c) (flat_map (notices infos) cs), few infos c, not_many infos cs)

-- ---- of a commit

pub record CommitTells (infos : List TableInfo) (changes : List Change) : Type 0 where
  pub fit : AllByRecursion NoticeFits (flat_map (notices infos) changes)
  pub few : length (flat_map (notices infos) changes) < 2 ^ 64

body_tells : (infos : List TableInfo) (body : Body) → IsBodyInRange body → CommitTells infos (elim body [ Changes changes ↦ changes | Mark value ↦ [] ])
body_tells infos (Changes changes) h = record { fit = all_fit infos changes h.1; few = let le = not_many infos changes in let lt = h.0 in omega (arith, le, lt) }
body_tells infos (Mark value) h = record { fit = tt; few = omega arith }

pub commit_tells : (infos : List TableInfo) (commit : Commit) → IsCommitInRange commit → CommitTells infos (changes_of commit)
commit_tells infos commit h = body_tells infos commit.body h.body
