use Rattle.std.proofs.Common.{◌∙◌, List, Option, sym, ap}
use Rattle.std.specs.Prelude.{if◌then◌else◌}
use Rattle.std.proofs.lemmas.Result.{on_ok_weaker}
use Rattle.dbl_value_types.specs.declared.value.Val.{Val}
use Rattle.dbl_model_table.specs.Keys.{same_key}
use Rattle.dbl_model_table.specs.Rows.{all_given, updated}
use Rattle.dbl_model_history.specs.KeyedRows.{row_in, row_left}
use Rattle.dbl_model_history.proofs.PlainLemmas.{given_all, given_not}
use Rattle.dbl_window.proofs.Effects.{left-part}
use Rattle.dbl_window.proofs.rows.give_row.Goals as goal

pub returns-then-gives_all-clause-left : goal.returns-then-gives_all-clause-left
returns-then-gives_all-clause-left c k =
    let old = row_in c.args.rows.now.entries k in
    let whole = given_all c.args.cells.now (sym c.gives_all.ensures ∙ c.if-gives_all.true) in
    c.remove_row.ensures.left k
    ∙ ap (λ (o : Option (List Val)). if same_key c.args.to.now k then o else old) (sym (ap (λ (o : Option (List Val)). row_left (updated o c.args.cells.now) old) whole))

pub returns-else-gives_all-clause-left : goal.returns-else-gives_all-clause-left
returns-else-gives_all-clause-left c =
    let none = given_not c.args.cells.now (sym c.gives_all.ensures ∙ c.if-gives_all.false) in
    on_ok_weaker c.overlay_row.result (λ left k.
    left k ∙ ap (λ (o : Option (List Val)). if same_key c.args.to.now k then o else row_in c.args.rows.now.entries k)
    (sym (left-part (all_given c.args.cells.now) c.args.cells.now (row_in c.args.rows.now.entries k) none))) c.overlay_row.ensures.left

pub returns-then-gives_all-clause-fit : goal.returns-then-gives_all-clause-fit
returns-then-gives_all-clause-fit c = (c.remove_row.ensures.fit c.args.info.now c.requires.rows).0
