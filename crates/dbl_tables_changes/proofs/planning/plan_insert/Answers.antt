use Rattle.std.proofs.Common.{◌≡◌, ◌∙◌, ◌≤◌, true, Some, List, length, ap, subst}
use Rattle.std.proofs.lemmas.Result.{err_from_is_err_and}
use Rattle.std.specs.Prelude.{◌&&◌, Ok, Err}
use Rattle.dbl_pgmsg.specs.declared.messages.Message.{Message}
use Rattle.dbl_model_table.specs.declared.row.Key.{Key}
use Rattle.dbl_tables_rows.specs.SourceLog.Texts.{key_in}
use Rattle.dbl_tables_rows.specs.Acts.{messages_by}
use Rattle.dbl_tables_rows.specs.Cells.{row_given, are_readable, has_key_texts}
use Rattle.dbl_tables_rows.specs.Given.{IsUtf8Change}
use Rattle.dbl_tables_rows.specs.Sending.{raw_of, entry_limit, insert_message}
use Rattle.dbl_tables_changes.specs.Planned.{IsWrite, JudgesInsert, found_here}
use Rattle.dbl_tables_changes.proofs.ExitLemmas.{has_columns, insert_unread, insert_refused, utf8_given, session_short}
use Rattle.dbl_tables_changes.proofs.VerdictLemmas.{insert_planned}
use Rattle.dbl_tables_changes.proofs.planning.plan_insert.Goals as goal

-- the cells can't be read, or make no key
pub returns-in_err-row : goal.returns-in_err-row
returns-in_err-row c tables past asked =
    let p = err_from_is_err_and c.from_residual.result c.from_residual.ensures.1 in
    let here = found_here c.args.oid c.args.rows.now in
    rw (p.1, p.2) (insert_unread tables past c.args.name.now here c.args.rows.now c.args.session.now asked c.args.cells.now c.in_err-row.field-0.0
    (c.in_err-row.ensures.reads (has_columns tables past here c.args.rows.now asked.are_rows)))

-- too long, somebody holds the key, or a row is there
pub returns-in-Err : goal.returns-in-Err
returns-in-Err c tables past asked =
    let here = found_here c.args.oid c.args.rows.now in
    let messages : List Message = messages_by c.args.name.now past in
    let readable : (are_readable (raw_of c.args.rows.now.table) c.args.cells.now && has_key_texts (raw_of c.args.rows.now.table) c.args.cells.now) ≡ true = c.in_ok-row.ensures.reads (has_columns tables past here c.args.rows.now asked.are_rows) in
    let message : c.in_ok-message.message ≡ insert_message c.args.oid (row_given (raw_of c.args.rows.now.table) c.args.cells.now) = c.in_ok-message.ensures.message ∙ ap (insert_message c.args.oid) c.in_ok-row.ensures.row in
    let utf8 : length c.args.rows.now.table.info.columns ≤ 1600 → IsUtf8Change c.in_ok-message.message = utf8_given c.args.rows.now.table c.args.cells.now c.in_ok-row.row.cells c.in_ok-message.message c.in_ok-row.ensures.row c.in_ok-message.ensures.utf8 in
    let short : c.args.session.now.size ≤ entry_limit = session_short tables past c.args.name.now here c.args.rows.now c.args.session.now asked in
    let key : c.in_ok-key.key ≡ key_in (raw_of c.args.rows.now.table) (row_given (raw_of c.args.rows.now.table) c.args.cells.now) = c.in_ok-key.ensures ∙ ap (key_in (raw_of c.args.rows.now.table)) c.in_ok-row.ensures.row in
    insert_refused tables past c.args.name.now here c.args.rows.now c.args.session.now asked c.args.cells.now readable c.in-Err.error
    (subst (λ (m : Message). JudgesInsert c.args.rows.now c.args.name.now messages m (key_in (raw_of c.args.rows.now.table) (row_given (raw_of c.args.rows.now.table) c.args.cells.now)) (Err c.in-Err.error)) message
    (subst (λ (k : Key). JudgesInsert c.args.rows.now c.args.name.now messages c.in_ok-message.message k (Err c.in-Err.error)) key (c.in-Err.ensures messages utf8 short asked.is_session.size)))

pub returns : goal.returns
returns c tables past asked =
    let here = found_here c.args.oid c.args.rows.now in
    let messages : List Message = messages_by c.args.name.now past in
    let readable : (are_readable (raw_of c.args.rows.now.table) c.args.cells.now && has_key_texts (raw_of c.args.rows.now.table) c.args.cells.now) ≡ true = c.in_ok-row.ensures.reads (has_columns tables past here c.args.rows.now asked.are_rows) in
    let message : c.in_ok-message.message ≡ insert_message c.args.oid (row_given (raw_of c.args.rows.now.table) c.args.cells.now) = c.in_ok-message.ensures.message ∙ ap (insert_message c.args.oid) c.in_ok-row.ensures.row in
    let utf8 : length c.args.rows.now.table.info.columns ≤ 1600 → IsUtf8Change c.in_ok-message.message = utf8_given c.args.rows.now.table c.args.cells.now c.in_ok-row.row.cells c.in_ok-message.message c.in_ok-row.ensures.row c.in_ok-message.ensures.utf8 in
    let short : c.args.session.now.size ≤ entry_limit = session_short tables past c.args.name.now here c.args.rows.now c.args.session.now asked in
    let key : c.in_ok-key.key ≡ key_in (raw_of c.args.rows.now.table) (row_given (raw_of c.args.rows.now.table) c.args.cells.now) = c.in_ok-key.ensures ∙ ap (key_in (raw_of c.args.rows.now.table)) c.in_ok-row.ensures.row in
    let told : JudgesInsert c.args.rows.now c.args.name.now messages (insert_message c.args.oid (row_given (raw_of c.args.rows.now.table) c.args.cells.now)) (key_in (raw_of c.args.rows.now.table) (row_given (raw_of c.args.rows.now.table) c.args.cells.now)) (Ok c.in-Ok.size) =
    subst (λ (m : Message). JudgesInsert c.args.rows.now c.args.name.now messages m (key_in (raw_of c.args.rows.now.table) (row_given (raw_of c.args.rows.now.table) c.args.cells.now)) (Ok c.in-Ok.size)) message
    (subst (λ (k : Key). JudgesInsert c.args.rows.now c.args.name.now messages c.in_ok-message.message k (Ok c.in-Ok.size)) key (c.in-Ok.ensures messages utf8 short asked.is_session.size)) in
    let w = c.in-Ok-one_write.ensures in
    insert_planned tables past c.args.name.now here c.args.rows.now c.args.session.now asked c.args.cells.now readable told.fits.0 told.free
    (record { message = c.in_ok-message.message; size = c.in-Ok.size; writes = c.in-Ok-one_write.writes }) c.in_ok-row.row w.0 told.absent c.in_ok-row.ensures.row message w.1
    (subst (λ (k : Key). IsWrite c.args.name.now k (Some c.in_ok-row.row) w.0) key w.2) told.fits.1 told.fits.2 told.fits.3
