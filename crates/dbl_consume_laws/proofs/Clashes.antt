-- If no value equals the placeholder, no given cell is the placeholder.
use Rattle.std.proofs.Common.{◌≡◌, ◌∙◌, ℕ, List, [], ◌∷◌, ◌++◌, Bool, true, false, cond, Option, Some, None, length, map, flat_map, refl, sym, ap, arith}
use Rattle.std.specs.Prelude.{IsSomeAnd, option_map, unwrap_or, slice_get}
use Rattle.std.specs.Option.{option_or}
use Rattle.std.specs.List.{AllByRecursion}
use Rattle.std.proofs.lemmas.List.{length-map}
use Rattle.dbl_value_types.specs.declared.column_type.PgType.{PgType}
use Rattle.dbl_value_types.specs.declared.value.Val.{Val}
use Rattle.dbl_model_table.specs.declared.row.Key.{Key}
use Rattle.dbl_model_table.specs.declared.row.Row.{Row}
use Rattle.dbl_model_table.specs.declared.table.TableInfo.{TableInfo}
use Rattle.dbl_model_table.specs.declared.change.Cell.{Cell}
use Rattle.dbl_model_table.specs.declared.change.Cell.TheVariants.{Given, Unchanged}
use Rattle.dbl_model_table.specs.declared.change.Change.{Change}
use Rattle.dbl_model_table.specs.declared.change.Change.TheVariants.{Insert, Update, Delete, Clear}
use Rattle.dbl_model_table.specs.Tables.{column_names}
use Rattle.dbl_model_table.specs.Infos.{column_types, width}
use Rattle.dbl_model_table.specs.Keys.{new_key_of, given_or_null, key_of, same_key}
use Rattle.dbl_model_table.specs.Rows.{Rows, rows_after, changes_of, all_changes}
use Rattle.dbl_model_history.specs.Fit.{IsFitInsert, IsFitUpdate, IsFit}
use Rattle.dbl_model_history.specs.FitsInfos.{AreCellsOf, AreSentOf, FitsInsert, FitsUpdate}
use Rattle.dbl_model_event.specs.Events.{Created, Updated, Deleted, Tombstone, Notice, move_notices, change_notices, notices}
use Rattle.dbl_model_event.specs.Clashes.{clash_among, clash_at, is_clash, notice_clash, first_found, rows_clash}
use Rattle.dbl_model_event.specs.Snapshots.{FitsChunk}
use Rattle.dbl_model_history.proofs.RowKeys.{some_and}
use Rattle.dbl_consume_laws.specs.Laws.{IsNotPlaceholder, IsNoPlaceholderCell, LacksPlaceholder}
use Rattle.dbl_consume_laws.specs.Clashes.{IsAsWide, FitChangesAreWide, FittingChangesAreWide, CommitsLackPlaceholders, HistoriesLackPlaceholders, SnapshotsLackPlaceholders}
use Rattle.dbl_consume_laws.proofs.Notices.{all_append}
use Rattle.dbl_consume_laws.proofs.Consumers.{all_left, all_right}
use Rattle.dbl_consume_laws.proofs.CellEvents.{no_clash_cell, clash_parts, found_parts, clash_none, clear_after}

-- ---- widths

wider : {X : Type 0} (o : Option X) (P Q : X → Type 0) → ((x : X) → P x → Q x) → IsSomeAnd o P → IsSomeAnd o Q
wider None P Q f h = h
wider (Some x) P Q f h = f x h

fit_wide : (infos : List TableInfo) (at : Rows) (c : Change) → IsFit infos at c → IsAsWide infos c
fit_wide infos at (Insert t row) fit = wider (slice_get infos t) (λ info. IsFitInsert info (at t) row) (λ info. length row.cells ≡ width info) (λ info f. f.wide) fit
fit_wide infos at (Update t from old cells) fit = wider (slice_get infos t) (λ info. IsFitUpdate info (at t) from old cells) (λ info. length cells ≡ width info) (λ info f. f.wide) fit
fit_wide infos at (Delete t from old) fit = tt
fit_wide infos at (Clear t) fit = tt

pub fit_changes_are_wide : FitChangesAreWide
fit_changes_are_wide infos at [] fit = tt
fit_changes_are_wide infos at (c ∷ cs) fit = (fit_wide infos at c fit.0, fit_changes_are_wide infos (rows_after infos c at) cs fit.1)

pub cells_wide : (types : List PgType) (values : List Val) → AreCellsOf types values → length values ≡ length types
cells_wide [] [] are = refl
cells_wide [] (v ∷ values) are = elim are [ ]
cells_wide (ty ∷ types) [] are = elim are [ ]
cells_wide (ty ∷ types) (v ∷ values) are = let later = cells_wide types values are.1 in omega (arith, later)

sent_wide : (types : List PgType) (cells : List Cell) → AreSentOf types cells → length cells ≡ length types
sent_wide [] [] are = refl
sent_wide [] (cell ∷ cells) are = elim are [ ]
sent_wide (ty ∷ types) [] are = elim are [ ]
sent_wide (ty ∷ types) (cell ∷ cells) are = let later = sent_wide types cells are.1 in omega (arith, later)

types_wide : (info : TableInfo) → length (column_types info) ≡ width info
types_wide info = length-map info.columns (λ column. column.ty)

names_wide : (info : TableInfo) → length (column_names info.columns) ≡ width info
names_wide info = length-map info.columns (λ column. column.name)

pub fitting_changes_are_wide : FittingChangesAreWide
fitting_changes_are_wide infos (Insert t row) fits =
    wider (slice_get infos t) (λ info. FitsInsert info row) (λ info. length row.cells ≡ width info) (λ info f. cells_wide (column_types info) row.cells f.cells ∙ types_wide info) fits
fitting_changes_are_wide infos (Update t from old cells) fits =
    wider (slice_get infos t) (λ info. FitsUpdate info from old cells) (λ info. length cells ≡ width info) (λ info f. sent_wide (column_types info) cells f.cells ∙ types_wide info) fits
fitting_changes_are_wide infos (Delete t from old) fits = tt
fitting_changes_are_wide infos (Clear t) fits = tt

-- ---- cells

module _ (placeholder : List ℕ) where
  all_lack : (names : List (List ℕ)) (cells : List Cell) → length cells ≡ length names → clash_among placeholder names cells ≡ None → AllByRecursion (IsNoPlaceholderCell placeholder) cells
  all_lack names [] long clear = tt
  all_lack [] (cell ∷ cells) long clear = absurd (omega (arith, long))
  all_lack (name ∷ names) (cell ∷ cells) long clear =
      let parts = clash_parts (is_clash placeholder cell) name (clash_among placeholder names cells) clear in
      (no_clash_cell placeholder cell parts.0, all_lack names cells (omega (arith, long)) parts.1)

  given_lack : (values : List Val) → AllByRecursion (IsNoPlaceholderCell placeholder) (map Given values) → AllByRecursion (IsNotPlaceholder placeholder) values
  given_lack [] h = tt
  given_lack (v ∷ values) h = (h.0, given_lack values h.1)

  filled_lack : (cells : List Cell) → AllByRecursion (IsNotPlaceholder placeholder) (map given_or_null cells) → AllByRecursion (IsNoPlaceholderCell placeholder) cells
  filled_lack [] h = tt
  filled_lack (Given v ∷ cells) h = (h.0, filled_lack cells h.1)
  filled_lack (Unchanged ∷ cells) h = (tt, filled_lack cells h.1)

  pub row_lacks : (info : TableInfo) (values : List Val) → length values ≡ width info → clash_among placeholder (column_names info.columns) (map Given values) ≡ None → AllByRecursion (IsNotPlaceholder placeholder) values
  row_lacks info values long clear = given_lack values (all_lack (column_names info.columns) (map Given values) (length-map values Given ∙ (long ∙ sym (names_wide info))) clear)

  -- ---- changes

  update_lacks : (table : ℕ) (info : TableInfo) (from to : Key) (old : Option Row) (cells : List Cell) (stays : Bool) → length cells ≡ width info
      → first_found (notice_clash placeholder) (cond stays (record { table = table; info = info; key = Some from; content = Updated old cells; newkey = None; oldkey = None } ∷ []) (move_notices table info from to old (record { cells = map given_or_null cells }))) ≡ None
      → AllByRecursion (IsNoPlaceholderCell placeholder) cells
  update_lacks table info from to old cells true long clear =
      let told : Notice = record { table = table; info = info; key = Some from; content = Updated old cells; newkey = None; oldkey = None } in
      all_lack (column_names info.columns) cells (long ∙ sym (names_wide info)) (clear_after placeholder told (found_parts (notice_clash placeholder) told [] clear).0)
  update_lacks table info from to old cells false long clear =
      let row : Row = record { cells = map given_or_null cells } in
      let gone : Notice = record { table = table; info = info; key = Some from; content = Deleted old; newkey = Some to; oldkey = None } in
      let tombstone : Notice = record { table = table; info = info; key = Some from; content = Tombstone; newkey = None; oldkey = None } in
      let made : Notice = record { table = table; info = info; key = Some to; content = Created row; newkey = None; oldkey = Some from } in
      let second = found_parts (notice_clash placeholder) gone (tombstone ∷ made ∷ []) clear in
      let third = found_parts (notice_clash placeholder) tombstone (made ∷ []) second.1 in
      filled_lack cells (row_lacks info (map given_or_null cells) (length-map cells given_or_null ∙ long) (clear_after placeholder made (found_parts (notice_clash placeholder) made [] third.1).0))

  change_lacks : (infos : List TableInfo) (c : Change) → IsAsWide infos c → first_found (notice_clash placeholder) (notices infos c) ≡ None → LacksPlaceholder placeholder c
  change_lacks infos (Insert t row) wide clear =
      let f = some_and (slice_get infos t) (λ info. length row.cells ≡ width info) wide in
      let told : Notice = record { table = t; info = f.0; key = Some (key_of f.0 row.cells); content = Created row; newkey = None; oldkey = None } in
      let alone : first_found (notice_clash placeholder) (told ∷ []) ≡ None = sym (ap (λ o. first_found (notice_clash placeholder) (unwrap_or (option_map (λ i. change_notices t i (Insert t row)) o) [])) f.1) ∙ clear in
      row_lacks f.0 row.cells f.2 (clear_after placeholder told (found_parts (notice_clash placeholder) told [] alone).0)
  change_lacks infos (Update t from old cells) wide clear =
      let f = some_and (slice_get infos t) (λ info. length cells ≡ width info) wide in
      update_lacks t f.0 from (new_key_of f.0 cells) old cells (same_key from (new_key_of f.0 cells)) f.2
      (sym (ap (λ o. first_found (notice_clash placeholder) (unwrap_or (option_map (λ i. change_notices t i (Update t from old cells)) o) [])) f.1) ∙ clear)
  change_lacks infos (Delete t from old) wide clear = tt
  change_lacks infos (Clear t) wide clear = tt

  found_append : (xs ys : List Notice) → first_found (notice_clash placeholder) (xs ++ ys) ≡ None → (first_found (notice_clash placeholder) xs ≡ None) × (first_found (notice_clash placeholder) ys ≡ None)
  found_append [] ys clear = (refl, clear)
  found_append (x ∷ xs) ys clear =
      let parts = found_parts (notice_clash placeholder) x (xs ++ ys) clear in
      let later = found_append xs ys parts.1 in
      (ap (λ o. option_or o (first_found (notice_clash placeholder) xs)) parts.0 ∙ later.0, later.1)

  changes_lack : (infos : List TableInfo) (cs : List Change) → AllByRecursion (IsAsWide infos) cs → first_found (notice_clash placeholder) (flat_map (notices infos) cs) ≡ None → AllByRecursion (LacksPlaceholder placeholder) cs
  changes_lack infos [] wide clear = tt
  changes_lack infos (c ∷ cs) wide clear =
      let parts = found_append (notices infos c) (flat_map (notices infos) cs) clear in
      (change_lacks infos c wide.0 parts.0, changes_lack infos cs wide.1 parts.1)

  -- ---- rows of a snapshot

  rows_lack : (info : TableInfo) (rows : List (Key × Row)) → AllByRecursion (λ e. AreCellsOf (column_types info) e.1.cells × (key_of info e.1.cells ≡ e.0)) rows → rows_clash placeholder info rows ≡ None
      → AllByRecursion (λ e. AllByRecursion (IsNotPlaceholder placeholder) e.1.cells) rows
  rows_lack info [] fits clear = tt
  rows_lack info (e ∷ rows) fits clear =
      let parts = found_parts (λ (e : Key × Row). clash_at info (clash_among placeholder (column_names info.columns) (map Given e.1.cells))) e rows clear in (
        row_lacks info e.1.cells (cells_wide (column_types info) e.1.cells fits.0.0 ∙ types_wide info) (clash_none info (clash_among placeholder (column_names info.columns) (map Given e.1.cells)) parts.0),
        rows_lack info rows fits.1 parts.1,
      )

pub commits_lack_placeholders : CommitsLackPlaceholders
commits_lack_placeholders identity infos commit wide clear = changes_lack identity.placeholder infos (changes_of commit) wide clear

pub histories_lack_placeholders : HistoriesLackPlaceholders
histories_lack_placeholders identity infos [] wide clear = tt
histories_lack_placeholders identity infos (commit ∷ commits) wide clear =
    all_append (LacksPlaceholder identity.placeholder) (changes_of commit) (all_changes commits)
    (commits_lack_placeholders identity infos commit (all_left (IsAsWide infos) (changes_of commit) (all_changes commits) wide) clear.0)
    (histories_lack_placeholders identity infos commits (all_right (IsAsWide infos) (changes_of commit) (all_changes commits) wide) clear.1)

pub snapshots_lack_placeholders : SnapshotsLackPlaceholders
snapshots_lack_placeholders identity infos closed fits clear =
    let f = some_and (slice_get infos closed.table) (λ info. FitsChunk info closed) fits in
    rows_lack identity.placeholder f.0 closed.rows f.2.rows (sym (ap (λ o. unwrap_or (option_map (λ info. rows_clash identity.placeholder info closed.rows) o) None) f.1) ∙ clear)
