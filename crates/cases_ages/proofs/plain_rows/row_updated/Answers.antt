use Rattle.std.proofs.Common.{◌∙◌, Option, Some, List, sym, ap}
use Rattle.std.specs.Prelude.{option_map}
use Rattle.dbl_value_types.specs.declared.value.Val.{Val}
use Rattle.dbl_model_table.specs.Rows.{updated, overlay, row_after}
use Rattle.dbl_model_history.specs.PlainRows.{plain_row_cells}
use Rattle.dbl_model_history.proofs.PlainLemmas.{given_all, given_not}
use Rattle.cases_ages.proofs.plain_rows.row_updated.Goals as goal

pub returns-then-are_sent : goal.returns-then-are_sent
returns-then-are_sent c =
    ap Some c.in_ok-given_or_nulls.ensures
    ∙ sym (ap (λ (o : Option (List Val)). row_after (updated o c.args.cells.now) (plain_row_cells c.args.row)) (given_all c.args.cells.now (sym c.are_sent.ensures ∙ c.if-are_sent.true)))

pub returns-in_ok-overlaid_cells-in-Some : goal.returns-in_ok-overlaid_cells-in-Some
returns-in_ok-overlaid_cells-in-Some c =
    ap Some c.in_ok-overlaid_cells-in-Some.ensures
    ∙ sym (ap (λ (o : Option (List Val)). row_after (updated o c.args.cells.now) (plain_row_cells c.args.row)) (given_not c.args.cells.now (sym c.are_sent.ensures ∙ c.if-are_sent.false))
    ∙ ap (λ row. option_map (overlay c.args.cells.now) (plain_row_cells row)) c.in-Some.is)

pub returns-in-None : goal.returns-in-None
returns-in-None c =
    sym (ap (λ (o : Option (List Val)). row_after (updated o c.args.cells.now) (plain_row_cells c.args.row)) (given_not c.args.cells.now (sym c.are_sent.ensures ∙ c.if-are_sent.false))
    ∙ ap (λ row. option_map (overlay c.args.cells.now) (plain_row_cells row)) c.in-None.is)
