use Rattle.std.proofs.Common.{◌∙◌, None, sym, ap}
use Rattle.std.specs.Prelude.{if◌then◌else◌}
use Rattle.dbl_model_table.specs.declared.row.Key.{Key}
use Rattle.dbl_model_table.specs.Keys.{same_key, key_of}
use Rattle.dbl_model_table.specs.declared.change.Change.{Change}
use Rattle.dbl_model_history.specs.KeyedRows.{row_in, row_left}
use Rattle.dbl_window.specs.Changing.{effect_at}
use Rattle.dbl_window.proofs.Effects.{left-whole, left-ends}
use Rattle.dbl_window.proofs.rows.change_rows.Goals as goal

pub returns-in_ok-key-in-Insert-clause-left : goal.returns-in_ok-key-in-Insert-clause-left
returns-in_ok-key-in-Insert-clause-left c k =
    let old = row_in c.args.rows.now.entries k in
    let cells = c.in-Insert.row.cells in
    c.remove_row.ensures.left k
    ∙ (ap (λ (q : Key). if same_key q k then None else old) c.in_ok-key-in-Insert.ensures
    ∙ (sym (left-whole (same_key (key_of c.args.info.now cells) k) cells old)
    ∙ sym (ap (λ (change : Change). row_left (effect_at c.args.info.now change k) old) c.in-Insert.is)))

pub returns-in-Delete-clause-left : goal.returns-in-Delete-clause-left
returns-in-Delete-clause-left c k =
    let old = row_in c.args.rows.now.entries k in
    c.remove_row-in-Delete.ensures.left k
    ∙ (sym (left-ends (same_key c.in-Delete.key k) old) ∙ sym (ap (λ (change : Change). row_left (effect_at c.args.info.now change k) old) c.in-Delete.is))

pub returns-in_ok-key-in-Insert-clause-fit : goal.returns-in_ok-key-in-Insert-clause-fit
returns-in_ok-key-in-Insert-clause-fit c = (c.remove_row.ensures.fit c.args.info.now c.requires.rows).0

pub returns-in-Delete-clause-fit : goal.returns-in-Delete-clause-fit
returns-in-Delete-clause-fit c = (c.remove_row-in-Delete.ensures.fit c.args.info.now c.requires.rows).0
