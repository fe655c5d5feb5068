use Rattle.std.proofs.Common.{◌≡◌, ◌∙◌, List, map, sym, ap, subst}
use Rattle.std.specs.List.{AllByRecursion}
use Rattle.dbl_pgmsg.specs.declared.messages.Tuple.{Tuple}
use Rattle.dbl_pgmsg.specs.declared.messages.TupleCell.{TupleCell}
use Rattle.dbl_model_table.specs.declared.table.Column.{Column}
use Rattle.dbl_model_table.specs.Tables.{are_typed}
use Rattle.dbl_model_table.specs.Infos.{raw_column}
use Rattle.dbl_model_table.proofs.InfoLemmas.{typed_columns}
use Rattle.dbl_source_log.specs.Texts.{Texts}
use Rattle.dbl_tables_rows.specs.Sending.{new_cells}
use Rattle.dbl_tables_rows.specs.Given.{IsUtf8Cell}
use Rattle.dbl_tables_rows.proofs.sending.new_tuple.Goals as goal

pub new_cells-requires : goal.new_cells-requires
new_cells-requires c = ap are_typed (c.deref.ensures.value ∙ c.items.ensures) ∙ typed_columns c.args.table.now.info

pub returns-clause-tuple : goal.returns-clause-tuple
returns-clause-tuple c =
    let columns : c.deref.result.now ≡ c.args.table.now.info.columns = c.deref.ensures.value ∙ c.items.ensures in
    let before : c.deref-2.result.now ≡ c.args.before.now.cells = c.deref-2.ensures.value ∙ c.items-2.ensures in
    let row : c.deref-3.result.now ≡ c.args.row.now.cells = c.deref-3.ensures.value ∙ c.items-3.ensures in
    ap (λ (l : List TupleCell). let t : Tuple = record { cells = l } in t)
    (c.make.ensures ∙ (c.in_ok-cells.ensures.cells
    ∙ (ap (λ (cs : List Column). new_cells c.args.table.now (map raw_column cs) c.deref-2.result.now c.deref-3.result.now) columns
    ∙ (ap (λ (r : Texts). new_cells c.args.table.now (map raw_column c.args.table.now.info.columns) r c.deref-3.result.now) before
    ∙ ap (new_cells c.args.table.now (map raw_column c.args.table.now.info.columns) c.args.before.now.cells) row))))

pub returns-clause-utf8 : goal.returns-clause-utf8
returns-clause-utf8 c = subst (AllByRecursion IsUtf8Cell) (sym c.make.ensures) c.in_ok-cells.ensures.utf8
