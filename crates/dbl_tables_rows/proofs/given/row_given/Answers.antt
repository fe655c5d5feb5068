use Rattle.std.proofs.Common.{◌≡◌, ◌∙◌, map, take, sym, ap}
use Rattle.std.proofs.lemmas.List.{take_all}
use Rattle.dbl_model_table.specs.declared.table.Column.{Column}
use Rattle.dbl_tables_rows.specs.Cells.{text_given}
use Rattle.dbl_tables_rows.proofs.CellLemmas.{row_given_is}
use Rattle.dbl_tables_rows.proofs.given.row_given.Goals as goal

pub returns : goal.returns
returns c =
    let columns : c.deref-column-items.result.now ≡ c.args.info.now.columns = c.deref-column-items.ensures.value ∙ c.items.ensures in
    let whole : take c.loop-column.column-index c.deref-column-items.result.now ≡ c.args.info.now.columns = take_all c.loop-column.column-index c.deref-column-items.result.now c.loop-column-test.false ∙ columns in
    c.make.ensures ∙ (c.loop-column.invariant ∙ (ap (map (λ (column : Column). text_given c.args.cells.now column.name)) whole ∙ sym (row_given_is c.args.info.now c.args.cells.now)))
