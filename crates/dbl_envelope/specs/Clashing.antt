-- Values equal to the placeholder: the error, and the first such value of a change.
use Rattle.std.specs.Prelude.{◌≡◌, ◌≢◌, ℕ, List, Option, Some, None, option_map, map}
use Rattle.std.specs.Option.{option_or}
use Rattle.dbl_model_table.specs.declared.row.Row.{Row}
use Rattle.dbl_model_table.specs.declared.table.TableInfo.{TableInfo}
use Rattle.dbl_model_table.specs.declared.change.Cell.TheVariants.{Given}
use Rattle.dbl_model_table.specs.declared.change.Change.{Change}
use Rattle.dbl_model_table.specs.declared.change.Change.TheVariants.{Insert, Update, Delete, Clear}
use Rattle.dbl_model_table.specs.Tables.{column_names}
use Rattle.dbl_model_event.specs.Clashes.{Clash, clash_among, old_cells, first_found, notice_clash}
use Rattle.dbl_model_event.specs.Events.{notices}
use Rattle.dbl_envelope.specs.declared.error.EnvelopeError.{EnvelopeError}
use Rattle.dbl_envelope.specs.declared.error.EnvelopeError.TheVariants.{PlaceholderClash, Memory}

-- the error for a value equal to the placeholder
abbrev pub clash_error : Clash → EnvelopeError
clash_error clash = PlaceholderClash clash.table clash.column

-- the error is the first value equal to the placeholder, or memory ran out
abbrev pub IsClash : Option Clash → EnvelopeError → Type 0
IsClash clash e = e ≢ Memory → option_map clash_error clash ≡ Some e

-- for private clauses: the column of the first value in a change that equals the placeholder
abbrev pub change_clash : List ℕ → TableInfo → Change → Option (List ℕ)
change_clash placeholder info (Insert table row) = clash_among placeholder (column_names info.columns) (map Given row.cells)
change_clash placeholder info (Update table key old cells) =
    option_or (clash_among placeholder (column_names info.columns) (old_cells old))
    (clash_among placeholder (column_names info.columns) cells)
change_clash placeholder info (Delete table key old) = clash_among placeholder (column_names info.columns) (map Given old.cells)
change_clash placeholder info (Clear table) = None

-- for private clauses: the first value in a change's events that equals the placeholder
abbrev pub notices_clash : List ℕ → List TableInfo → Change → Option Clash
notices_clash placeholder infos change = first_found (notice_clash placeholder) (notices infos change)

-- for private clauses: the column of the first value in a row that equals the placeholder
abbrev pub row_clash : List ℕ → TableInfo → Row → Option (List ℕ)
row_clash placeholder info row = clash_among placeholder (column_names info.columns) (map Given row.cells)
