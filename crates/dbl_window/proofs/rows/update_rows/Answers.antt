use Rattle.std.proofs.Common.{◌≡◌, subst}
use Rattle.dbl_model_table.specs.declared.row.Key.{Key}
use Rattle.dbl_model_table.specs.Keys.{same_key}
use Rattle.dbl_model_table.specs.Rows.{all_given, at_keys, updated}
use Rattle.std.specs.Prelude.{true}
use Rattle.dbl_model_history.specs.KeyedRows.{row_in, row_left}
use Rattle.dbl_window.proofs.Effects.{left_in_turn}
use Rattle.dbl_window.proofs.rows.update_rows.Goals as goal

pub returns-clause-left : goal.returns-clause-left
returns-clause-left c =
    let old = c.args.rows.now.entries in
    let new = c.leave_row.new.rows.entries in
    let cells = c.args.cells.now in
    let from = c.args.from.now in
    subst (λ (to : Key). (k : Key) → row_in new k ≡ row_left (at_keys true (same_key to k) (same_key from k) (updated (all_given cells) cells)) (row_in old k)) c.in_ok-to.ensures
    (λ k. left_in_turn (same_key c.in_ok-to.to k) (same_key from k) (updated (all_given cells) cells) (row_in old k) (row_in c.give_row.new.rows.entries k) (row_in new k)
    (c.in_ok-give_row.ensures.left k) (c.leave_row.ensures.left k))

pub returns-clause-fit : goal.returns-clause-fit
returns-clause-fit c = c.leave_row.ensures.fit c.args.info.now c.give_row.ensures.fit
