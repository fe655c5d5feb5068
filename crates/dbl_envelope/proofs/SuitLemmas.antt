-- What fits what is captured suits a writer.
use Rattle.std.proofs.Common.{◌≡◌, ◌∙◌, Option, Some, None, List, [], ◌∷◌, suc, length, slice_get, refl, sym, ap}
use Rattle.std.specs.Prelude.{IfSome, IsSome, IsSomeAnd}
use Rattle.std.specs.List.{AllByRecursion}
use Rattle.std.proofs.lemmas.Bool.{false≢true}
use Rattle.std.proofs.lemmas.List.{length-map}
use Rattle.dbl_value_types.specs.declared.column_type.PgType.{PgType}
use Rattle.dbl_value_types.specs.declared.value.Val.{Val}
use Rattle.dbl_model_table.specs.declared.row.Key.{Key}
use Rattle.dbl_model_table.specs.declared.row.Row.{Row}
use Rattle.dbl_model_table.specs.declared.change.Cell.{Cell}
use Rattle.dbl_model_table.specs.declared.change.Change.{Change}
use Rattle.dbl_model_table.specs.declared.change.Change.TheVariants.{Insert, Update, Delete, Clear}
use Rattle.dbl_model_event.specs.declared.closed.Closed.{Closed}
use Rattle.dbl_model_table.specs.declared.table.TableInfo.{TableInfo}
use Rattle.dbl_model_table.specs.declared.table.Column.{Column}
use Rattle.dbl_model_table.specs.Tables.{type_at}
use Rattle.dbl_model_table.specs.Infos.{width, column_types, key_types}
use Rattle.dbl_model_table.specs.Keys.{key_of, cell_or_null}
use Rattle.dbl_model_event.specs.ModelHistory.Fit.{AreOf, IsKeyOf}
use Rattle.dbl_model_event.specs.ModelHistory.FitsInfos.{AreCellsOf, AreSentOf, FitsInsert, FitsUpdate, FitsDelete, FitsInfos}
use Rattle.dbl_model_event.specs.Snapshots.{FitsChunk, FitsSnapshot}
use Rattle.dbl_envelope.specs.Suits.{SuitsUpdate, SuitsDelete, Suits, SuitsRows, SuitsChunk, SuitsSnapshot, FittingSuits}

cells_long : (types : List PgType) (values : List Val) → AreCellsOf types values → length values ≡ length types
cells_long [] [] h = refl
cells_long [] (v ∷ values) h = absurd h
cells_long (ty ∷ types) [] h = absurd h
cells_long (ty ∷ types) (v ∷ values) h = ap suc (cells_long types values h.1)

sent_long : (types : List PgType) (cells : List Cell) → AreSentOf types cells → length cells ≡ length types
sent_long [] [] h = refl
sent_long [] (v ∷ values) h = absurd h
sent_long (ty ∷ types) [] h = absurd h
sent_long (ty ∷ types) (v ∷ values) h = ap suc (sent_long types values h.1)

are_long : (types : List PgType) (values : List Val) → AreOf types values → length values ≡ length types
are_long [] [] h = refl
are_long [] (v ∷ values) h = absurd h
are_long (ty ∷ types) [] h = absurd h
are_long (ty ∷ types) (v ∷ values) h = ap suc (are_long types values h.1)

row_wide : (info : TableInfo) (cells : List Val) → AreCellsOf (column_types info) cells → length cells ≡ width info
row_wide info cells h = cells_long (column_types info) cells h ∙ length-map info.columns (λ (column : Column). column.ty)

sent_wide : (info : TableInfo) (cells : List Cell) → AreSentOf (column_types info) cells → length cells ≡ width info
sent_wide info cells h = sent_long (column_types info) cells h ∙ length-map info.columns (λ (column : Column). column.ty)

key_long : (info : TableInfo) (key : Key) → IsKeyOf info key → length key.cells ≡ length info.key
key_long info key h = are_long (key_types info) key.cells h ∙ length-map info.key (type_at info.columns)

old_wide : (info : TableInfo) (old : Option Row) → IfSome old (λ row. AreCellsOf (column_types info) row.cells) → IfSome old (λ row. length row.cells ≡ width info)
old_wide info None h = h
old_wide info (Some row) h = row_wide info row.cells h

some_more : {X : Type 0} (o : Option X) (P Q : X → Type 0) → ((x : X) → P x → Q x) → IsSomeAnd o P → IsSomeAnd o Q
some_more None P Q f h = h
some_more (Some x) P Q f h = f x h

change_suits : (infos : List TableInfo) (c : Change) → FitsInfos infos c → Suits infos c
change_suits infos (Insert table row) h = some_more (slice_get infos table) (λ info. FitsInsert info row) (λ info. length row.cells ≡ width info) (λ info fits. row_wide info row.cells fits.cells) h
change_suits infos (Update table from old cells) h =
    some_more (slice_get infos table) (λ info. FitsUpdate info from old cells) (λ info. SuitsUpdate info from old cells)
    (λ info fits. record { old_wide = old_wide info old fits.old; wide = sent_wide info cells fits.cells; long = key_long info from fits.old_key; stays_or_moves = fits.stays_or_moves }) h
change_suits infos (Delete table from old) h =
    some_more (slice_get infos table) (λ info. FitsDelete info from old) (λ info. SuitsDelete info from old)
    (λ info fits. record { old_wide = row_wide info old.cells fits.old; long = key_long info from fits.old_key }) h
change_suits infos (Clear table) h = captured (slice_get infos table) h
  where
    captured : (o : Option TableInfo) → IsSome o → IsSomeAnd o (λ info. Unit {0})
    captured None h = absurd (false≢true h)
    captured (Some info) h = tt

rows_suit : (info : TableInfo) (rows : List (Key × Row)) → AllByRecursion (λ e. AreCellsOf (column_types info) e.1.cells × (key_of info e.1.cells ≡ e.0)) rows → SuitsRows info rows
rows_suit info [] h = tt
rows_suit info (e ∷ rows) h =
    let long : length (key_of info e.1.cells).cells ≡ length info.key = length-map info.key (cell_or_null e.1.cells) in
    ((ap (λ (key : Key). length key.cells) (sym h.0.1) ∙ long, row_wide info e.1.cells h.0.0), rows_suit info rows h.1)

through_long : (info : TableInfo) (through : Option Key) → IfSome through (IsKeyOf info) → IfSome through (λ key. length key.cells ≡ length info.key)
through_long info None h = h
through_long info (Some key) h = key_long info key h

snapshot_suits : (infos : List TableInfo) (closed : Closed) → FitsSnapshot infos closed → SuitsSnapshot infos closed
snapshot_suits infos closed h =
    some_more (slice_get infos closed.table) (λ info. FitsChunk info closed) (λ info. SuitsChunk info closed)
    (λ info fits. record { rows = rows_suit info closed.rows fits.rows; through = through_long info closed.through fits.through }) h

pub fitting_suits : FittingSuits
fitting_suits infos = (change_suits infos, snapshot_suits infos)
