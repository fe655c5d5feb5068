use Rattle.std.proofs.Common.{◌≡◌, ◌∙◌, ◌≤◌, length, ap, subst}
use Rattle.std.proofs.lemmas.Result.{err_from_is_err_and}
use Rattle.std.specs.Prelude.{Ok}
use Rattle.dbl_pgmsg.specs.declared.messages.Message.{Message}
use Rattle.dbl_tables_rows.specs.SourceLog.Texts.{key_in}
use Rattle.dbl_tables_rows.specs.Given.{IsUtf8Change}
use Rattle.dbl_tables_rows.specs.Sending.{raw_of, insert_message}
use Rattle.dbl_tables_changes.specs.First.{first_row}
use Rattle.dbl_tables_changes.specs.Planned.{MeasuresEntry}
use Rattle.dbl_tables_changes.proofs.ExitLemmas.{utf8_given}
use Rattle.dbl_tables_changes.proofs.FirstLemmas.{first_unread, first_large}
use Rattle.dbl_tables_changes.proofs.first.plan_first.Goals as goal

-- the cells can't be read, or make no key
pub returns-in_err-row : goal.returns-in_err-row
returns-in_err-row c messages has short is =
    let p = err_from_is_err_and c.from_residual.result c.from_residual.ensures.1 in
    rw (p.1, p.2) (first_unread c.args.rows.now.table c.args.oid messages c.args.cells.items c.in_err-row.field-0.0 (c.in_err-row.ensures.reads has))

-- the message is too large
pub returns-in-Err : goal.returns-in-Err
returns-in-Err c messages has short is =
    let message : c.in_ok-message.message ≡ insert_message c.args.oid (first_row c.args.rows.now.table c.args.cells.items) = c.in_ok-message.ensures.message ∙ ap (insert_message c.args.oid) (c.in_ok-row.ensures.row has) in
    let utf8 : length c.args.rows.now.table.info.columns ≤ 1600 → IsUtf8Change c.in_ok-message.message = utf8_given c.args.rows.now.table c.args.cells.items c.in_ok-row.row.cells c.in_ok-message.message (c.in_ok-row.ensures.row has) c.in_ok-message.ensures.utf8 in
    first_large c.args.rows.now.table c.args.oid messages c.args.cells.items c.in-Err.error (c.in_ok-row.ensures.reads has) c.in_ok-message.message message (c.in-Err.ensures messages utf8 short is)

pub returns : goal.returns
returns c messages has short is =
    let message : c.in_ok-message.message ≡ insert_message c.args.oid (first_row c.args.rows.now.table c.args.cells.items) = c.in_ok-message.ensures.message ∙ ap (insert_message c.args.oid) (c.in_ok-row.ensures.row has) in
    let utf8 : length c.args.rows.now.table.info.columns ≤ 1600 → IsUtf8Change c.in_ok-message.message = utf8_given c.args.rows.now.table c.args.cells.items c.in_ok-row.row.cells c.in_ok-message.message (c.in_ok-row.ensures.row has) c.in_ok-message.ensures.utf8 in
    record {
      readable = c.in_ok-row.ensures.reads has;
      row_is = (c.in_ok-row.ensures.row has);
      key_is = c.in_ok-key.ensures ∙ ap (key_in (raw_of c.args.rows.now.table)) (c.in_ok-row.ensures.row has);
      message_is = message;
      fits = subst (λ (m : Message). MeasuresEntry c.args.rows.now.table messages m (Ok c.in-Ok.size)) message (c.in-Ok.ensures messages utf8 short is);
    }
