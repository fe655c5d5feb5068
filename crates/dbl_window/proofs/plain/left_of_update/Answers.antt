use Rattle.std.proofs.Common.{◌∙◌, Option, Some, List, sym, ap}
use Rattle.std.specs.Prelude.{option_map}
use Rattle.dbl_value_types.specs.declared.value.Val.{Val}
use Rattle.dbl_model_table.specs.Rows.{updated, overlay}
use Rattle.dbl_model_history.specs.KeyedRows.{row_left}
use Rattle.dbl_model_history.specs.PlainRows.{plain_row_cells}
use Rattle.dbl_model_history.proofs.PlainLemmas.{given_all, given_not}
use Rattle.dbl_window.proofs.plain.left_of_update.Goals as goal

pub returns-then-gives_all : goal.returns-then-gives_all
returns-then-gives_all c =
    sym (ap (λ (o : Option (List Val)). row_left (updated o c.args.cells.now) (plain_row_cells c.args.row)) (given_all c.args.cells.now (sym c.gives_all.ensures ∙ c.if-gives_all.true)))

pub returns-in_ok-overlaid_row-in-Some : goal.returns-in_ok-overlaid_row-in-Some
returns-in_ok-overlaid_row-in-Some c =
    ap Some c.in_ok-overlaid_row-in-Some.ensures
    ∙ sym (ap (λ (o : Option (List Val)). row_left (updated o c.args.cells.now) (plain_row_cells c.args.row)) (given_not c.args.cells.now (sym c.gives_all.ensures ∙ c.if-gives_all.false))
    ∙ ap (λ row. option_map (overlay c.args.cells.now) (plain_row_cells row)) c.in-Some.is)

pub returns-in-None : goal.returns-in-None
returns-in-None c =
    sym (ap (λ (o : Option (List Val)). row_left (updated o c.args.cells.now) (plain_row_cells c.args.row)) (given_not c.args.cells.now (sym c.gives_all.ensures ∙ c.if-gives_all.false))
    ∙ ap (λ row. option_map (overlay c.args.cells.now) (plain_row_cells row)) c.in-None.is)
