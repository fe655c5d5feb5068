use Rattle.std.proofs.Common.{◌∙◌, sym}
use Rattle.dbl_model_table.proofs.KeyLemmas.{same_key-is, same_key-not}
use Rattle.dbl_model_history.specs.KeyedRows.{row_in}
use Rattle.dbl_window.proofs.Effects.{left_alone, left_since}
use Rattle.dbl_window.proofs.rows.leave_row.Goals as goal

pub returns-then-not-is_same-clause-left : goal.returns-then-not-is_same-clause-left
returns-then-not-is_same-clause-left c k =
    c.remove_row.ensures.left k
    ∙ left_since c.args.from.now c.args.to.now k (row_in c.args.rows.now.entries k)
    (same_key-not c.args.from.now c.args.to.now (sym c.is_same.ensures ∙ c.if-not-is_same.true))

pub returns-then-not-is_same-clause-fit : goal.returns-then-not-is_same-clause-fit
returns-then-not-is_same-clause-fit c info all = (c.remove_row.ensures.fit info all).0

pub returns-else-not-is_same-clause-left : goal.returns-else-not-is_same-clause-left
returns-else-not-is_same-clause-left c k =
    left_alone c.args.from.now c.args.to.now k (row_in c.args.rows.now.entries k)
    (same_key-is c.args.from.now c.args.to.now (sym c.is_same.ensures ∙ c.if-not-is_same.false))
