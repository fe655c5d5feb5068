use Rattle.std.proofs.Common.{◌≡◌, ◌∙◌, List, false, sym, ap}
use Rattle.std.proofs.lemmas.Result.{err_from_is_err_and}
use Rattle.dbl_model_table.specs.declared.table.Column.{Column}
use Rattle.dbl_model_commit.specs.Stated.{same_columns}
use Rattle.dbl_txn_shapes.proofs.ShapingLemmas.{key_judged, shape_judged, none_judged}
use Rattle.dbl_txn_shapes.proofs.shape.shape_of.Goals as goal

pub returns-then-loses_key-clause-fault : goal.returns-then-loses_key-clause-fault
returns-then-loses_key-clause-fault c =
    let columns = c.args.columns.now.items in
    let new : same_columns c.args.info.now.columns columns ≡ false =
    sym (ap (λ (l : List Column). same_columns l columns) c.items.ensures) ∙ sym c.are_same_columns.ensures ∙ c.if-are_same_columns.false in
    key_judged c.args.refused c.args.info.now columns new c.schema_changed.result
    (sym c.loses_key.ensures ∙ c.if-loses_key.true) c.schema_changed.ensures

pub returns-in_err-shape-clause-fault : goal.returns-in_err-shape-clause-fault
returns-in_err-shape-clause-fault c =
    let columns = c.args.columns.now.items in
    let new : same_columns c.args.info.now.columns columns ≡ false =
    sym (ap (λ (l : List Column). same_columns l columns) c.items.ensures) ∙ sym c.are_same_columns.ensures ∙ c.if-are_same_columns.false in
    let p = err_from_is_err_and c.from_residual-in_err-shape.result c.from_residual-in_err-shape.ensures.1 in
    rw (p.1, p.2)
    (shape_judged c.args.refused c.args.info.now columns new c.in_ok-entry.entry c.in_err-shape.field-0.0 c.in_ok-entry.ensures c.in_err-shape.ensures.fault)

pub returns-clause-fault : goal.returns-clause-fault
returns-clause-fault c =
    let columns = c.args.columns.now.items in
    let new : same_columns c.args.info.now.columns columns ≡ false =
    sym (ap (λ (l : List Column). same_columns l columns) c.items.ensures) ∙ sym c.are_same_columns.ensures ∙ c.if-are_same_columns.false in
    none_judged c.args.refused c.args.info.now columns new c.in_ok-entry.entry c.in_ok-entry.ensures
    (sym c.loses_key.ensures ∙ c.if-loses_key.false) c.in_ok-shape.ensures.fault
