-- The effect of the events of a change together on one cell, beside that of the change on the source's row.
use Rattle.std.specs.Prelude.{◌≡◌, ℕ, List, Option, option_map, fold}
use Rattle.dbl_record.specs.declared.acts.HeldCell.{HeldCell}
use Rattle.dbl_model_table.specs.declared.identity.Identity.{Identity}
use Rattle.dbl_model_table.specs.declared.row.Key.{Key}
use Rattle.dbl_model_table.specs.declared.table.TableInfo.{TableInfo}
use Rattle.dbl_model_table.specs.declared.change.Cell.TheVariants.{Given}
use Rattle.dbl_model_table.specs.declared.change.Change.{Change}
use Rattle.dbl_model_table.specs.Rows.{Rows, Effect, effect_of}
use Rattle.dbl_model_table.specs.Rows.Effect.{Stays, Whole, Part, Ends}
use Rattle.dbl_model_history.specs.Fit.{IsFit}
use Rattle.dbl_model_history.specs.Image.{Names}
use Rattle.dbl_model_event.specs.Events.{Notice, notices}
use Rattle.dbl_model_history.specs.Laws.{AreDistinctTables}
use Rattle.dbl_consume_laws.specs.Cells.{Op, Stay, End, cell_after, cell_op, named_column_cell, notice_op}

-- The operation of a change on the cell in a column of a key's row.
abbrev pub effect_op : TableInfo → Effect → List ℕ → Op
effect_op info Stays column = Stay
effect_op info (Whole row) column = cell_op (option_map Given (named_column_cell info.columns row column))
effect_op info (Part cells) column = cell_op (named_column_cell info.columns cells column)
effect_op info Ends column = End

-- The cell after events, one by one.
abbrev pub after_notices : Identity → List Notice → List ℕ → List ℕ → List ℕ → Option HeldCell → Option HeldCell
after_notices identity ns topic text column cell = fold (λ held n. cell_after (notice_op identity n topic text column) held) cell ns

-- The events of a valid change together have the effect of the change on each cell of a captured table and key, for any cell before.
abbrev pub ChangesChangeCells : Type 0
ChangesChangeCells = (identity : Identity) (infos : List TableInfo) (at : Rows) (change : Change) (topic text : List ℕ) (table : ℕ)
    (key : Key) (names : Names identity infos topic text table key) (column : List ℕ) (cell : Option HeldCell)
    → AreDistinctTables infos → IsFit infos at change
    → after_notices identity (notices infos change) topic text column cell
    ≡ cell_after (effect_op names.info (effect_of infos change table key) column) cell
