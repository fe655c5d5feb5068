use Rattle.std.proofs.Common.{◌≡◌, ◌∙◌, ◌≤◌, ℕ, inr, true, Option, Some, None, List, length, sym, ap, subst}
use Rattle.std.proofs.lemmas.Result.{err_from_is_err_and}
use Rattle.std.specs.Prelude.{option_copied, Ok, Err}
use Rattle.dbl_pgmsg.specs.declared.messages.Message.{Message}
use Rattle.dbl_model_table.specs.declared.row.Key.{Key}
use Rattle.dbl_tables_rows.specs.SourceLog.Texts.{Texts}
use Rattle.dbl_tables_rows.specs.Acts.{messages_by}
use Rattle.dbl_tables_rows.specs.Cells.{key_given, is_readable_key}
use Rattle.dbl_tables_rows.specs.Given.{IsUtf8Change}
use Rattle.dbl_tables_rows.specs.Sending.{raw_of, entry_limit, delete_message}
use Rattle.dbl_tables_rows.specs.Holders.{other_than}
use Rattle.dbl_tables_rows.specs.Views.{owner_at, seen_at}
use Rattle.dbl_tables_changes.specs.Planned.{Blocks, IsWrite, Judges, found_here}
use Rattle.dbl_tables_changes.proofs.ExitLemmas.{has_columns, delete_by_key, delete_by_lock_none, delete_judged, utf8_wide, wide_seen, session_short, unblocked}
use Rattle.dbl_tables_changes.proofs.VerdictLemmas.{delete_missing, delete_planned}
use Rattle.dbl_tables_changes.proofs.planning.plan_delete.Goals as goal

-- the key can't be read
pub returns-in_err-from : goal.returns-in_err-from
returns-in_err-from c tables past asked =
    let p = err_from_is_err_and c.from_residual.result c.from_residual.ensures.1 in
    let here = found_here c.args.oid c.args.rows.now in
    rw (p.1, p.2) (delete_by_key tables past c.args.name.now here c.args.rows.now c.args.session.now asked c.args.key.now c.in_err-from.field-0.0 (c.in_err-from.ensures.reads (has_columns tables past here c.args.rows.now asked.are_rows)))

-- no row: somebody holds the key
pub returns-in_err-pass : goal.returns-in_err-pass
returns-in_err-pass c tables past asked =
    let p = err_from_is_err_and c.from_residual-in_err-pass.result c.from_residual-in_err-pass.ensures.1 in
    let here = found_here c.args.oid c.args.rows.now in
    let messages : List Message = messages_by c.args.name.now past in
    let readable : is_readable_key (raw_of c.args.rows.now.table) c.args.key.now ≡ true = c.in_ok-from.ensures.reads (has_columns tables past here c.args.rows.now asked.are_rows) in
    let from : c.in_ok-from.from ≡ key_given (raw_of c.args.rows.now.table) c.args.key.now = c.in_ok-from.ensures.key in
    let none : seen_at c.args.rows.now c.args.name.now (key_given (raw_of c.args.rows.now.table) c.args.key.now) ≡ None = sym (ap (seen_at c.args.rows.now c.args.name.now) from) ∙ sym c.in_default.ensures in
    let holder : option_copied c.key_holder.result ≡ other_than c.args.name.now (owner_at c.args.rows.now (key_given (raw_of c.args.rows.now.table) c.args.key.now)) = c.key_holder.ensures ∙ ap (λ (k : Key). other_than c.args.name.now (owner_at c.args.rows.now k)) from in
    rw (p.1, p.2) (delete_by_lock_none tables past c.args.name.now here c.args.rows.now c.args.session.now asked c.args.key.now readable none c.in_err-pass.field-0.0 (subst (λ (o : Option (List ℕ)). Blocks {A = Unit {0}} o (Err c.in_err-pass.field-0.0)) holder c.in_err-pass.ensures))

-- no row, and nobody
pub returns-in_default : goal.returns-in_default
returns-in_default c tables past asked =
    let here = found_here c.args.oid c.args.rows.now in
    let messages : List Message = messages_by c.args.name.now past in
    let readable : is_readable_key (raw_of c.args.rows.now.table) c.args.key.now ≡ true = c.in_ok-from.ensures.reads (has_columns tables past here c.args.rows.now asked.are_rows) in
    let from : c.in_ok-from.from ≡ key_given (raw_of c.args.rows.now.table) c.args.key.now = c.in_ok-from.ensures.key in
    let none : seen_at c.args.rows.now c.args.name.now (key_given (raw_of c.args.rows.now.table) c.args.key.now) ≡ None = sym (ap (seen_at c.args.rows.now c.args.name.now) from) ∙ sym c.in_default.ensures in
    let holder : option_copied c.key_holder.result ≡ other_than c.args.name.now (owner_at c.args.rows.now (key_given (raw_of c.args.rows.now.table) c.args.key.now)) = c.key_holder.ensures ∙ ap (λ (k : Key). other_than c.args.name.now (owner_at c.args.rows.now k)) from in
    inr (delete_missing tables past c.args.name.now here c.args.rows.now c.args.session.now asked c.args.key.now readable none (unblocked (other_than c.args.name.now (owner_at c.args.rows.now (key_given (raw_of c.args.rows.now.table) c.args.key.now))) tt (subst (λ (o : Option (List ℕ)). Blocks {A = Unit {0}} o (Ok tt)) holder c.in_ok-pass.ensures)))

-- too long, or somebody holds the key
pub returns-in-Err : goal.returns-in-Err
returns-in-Err c tables past asked =
    let here = found_here c.args.oid c.args.rows.now in
    let messages : List Message = messages_by c.args.name.now past in
    let readable : is_readable_key (raw_of c.args.rows.now.table) c.args.key.now ≡ true = c.in_ok-from.ensures.reads (has_columns tables past here c.args.rows.now asked.are_rows) in
    let from : c.in_ok-from.from ≡ key_given (raw_of c.args.rows.now.table) c.args.key.now = c.in_ok-from.ensures.key in
    let before : Texts = c.in-Some.before.now.cells in
    let there : seen_at c.args.rows.now c.args.name.now (key_given (raw_of c.args.rows.now.table) c.args.key.now) ≡ Some before = sym (ap (seen_at c.args.rows.now c.args.name.now) from) ∙ sym c.in-Some.ensures in
    let utf8 : length c.args.rows.now.table.info.columns ≤ 1600 → IsUtf8Change c.in_ok-message.message = utf8_wide c.args.rows.now.table before c.in_ok-message.message (wide_seen tables past c.args.name.now here c.args.rows.now c.args.session.now asked (key_given (raw_of c.args.rows.now.table) c.args.key.now) before there) c.in_ok-message.ensures.utf8 in
    let short : c.args.session.now.size ≤ entry_limit = session_short tables past c.args.name.now here c.args.rows.now c.args.session.now asked in
    let holder : option_copied c.key_holder-by.result ≡ other_than c.args.name.now (owner_at c.args.rows.now (key_given (raw_of c.args.rows.now.table) c.args.key.now)) = c.key_holder-by.ensures ∙ ap (λ (k : Key). other_than c.args.name.now (owner_at c.args.rows.now k)) from in
    let told : Judges c.args.rows.now.table messages (delete_message c.args.oid c.args.rows.now.table before) (other_than c.args.name.now (owner_at c.args.rows.now (key_given (raw_of c.args.rows.now.table) c.args.key.now))) (Err c.in-Err.error) =
    subst (λ (m : Message). Judges c.args.rows.now.table messages m (other_than c.args.name.now (owner_at c.args.rows.now (key_given (raw_of c.args.rows.now.table) c.args.key.now))) (Err c.in-Err.error)) c.in_ok-message.ensures.message
    (subst (λ (o : Option (List ℕ)). Judges c.args.rows.now.table messages c.in_ok-message.message o (Err c.in-Err.error)) holder (c.in-Err.ensures messages utf8 short asked.is_session.size)) in
    delete_judged tables past c.args.name.now here c.args.rows.now c.args.session.now asked c.args.key.now readable before there c.in-Err.error told

pub returns : goal.returns
returns c tables past asked =
    let here = found_here c.args.oid c.args.rows.now in
    let messages : List Message = messages_by c.args.name.now past in
    let readable : is_readable_key (raw_of c.args.rows.now.table) c.args.key.now ≡ true = c.in_ok-from.ensures.reads (has_columns tables past here c.args.rows.now asked.are_rows) in
    let from : c.in_ok-from.from ≡ key_given (raw_of c.args.rows.now.table) c.args.key.now = c.in_ok-from.ensures.key in
    let before : Texts = c.in-Some.before.now.cells in
    let there : seen_at c.args.rows.now c.args.name.now (key_given (raw_of c.args.rows.now.table) c.args.key.now) ≡ Some before = sym (ap (seen_at c.args.rows.now c.args.name.now) from) ∙ sym c.in-Some.ensures in
    let utf8 : length c.args.rows.now.table.info.columns ≤ 1600 → IsUtf8Change c.in_ok-message.message = utf8_wide c.args.rows.now.table before c.in_ok-message.message (wide_seen tables past c.args.name.now here c.args.rows.now c.args.session.now asked (key_given (raw_of c.args.rows.now.table) c.args.key.now) before there) c.in_ok-message.ensures.utf8 in
    let short : c.args.session.now.size ≤ entry_limit = session_short tables past c.args.name.now here c.args.rows.now c.args.session.now asked in
    let holder : option_copied c.key_holder-by.result ≡ other_than c.args.name.now (owner_at c.args.rows.now (key_given (raw_of c.args.rows.now.table) c.args.key.now)) = c.key_holder-by.ensures ∙ ap (λ (k : Key). other_than c.args.name.now (owner_at c.args.rows.now k)) from in
    let told : Judges c.args.rows.now.table messages (delete_message c.args.oid c.args.rows.now.table before) (other_than c.args.name.now (owner_at c.args.rows.now (key_given (raw_of c.args.rows.now.table) c.args.key.now))) (Ok c.in-Ok.size) =
    subst (λ (m : Message). Judges c.args.rows.now.table messages m (other_than c.args.name.now (owner_at c.args.rows.now (key_given (raw_of c.args.rows.now.table) c.args.key.now))) (Ok c.in-Ok.size)) c.in_ok-message.ensures.message
    (subst (λ (o : Option (List ℕ)). Judges c.args.rows.now.table messages c.in_ok-message.message o (Ok c.in-Ok.size)) holder (c.in-Ok.ensures messages utf8 short asked.is_session.size)) in
    let w = c.in-Ok-one_write.ensures in
    delete_planned tables past c.args.name.now here c.args.rows.now c.args.session.now asked c.args.key.now readable before there told.0.0
    (record { message = c.in_ok-message.message; size = c.in-Ok.size; writes = c.in-Ok-one_write.writes }) w.0 told.1 c.in_ok-message.ensures.message w.1
    (subst (λ (k : Key). IsWrite c.args.name.now k None w.0) from w.2) told.0.1 told.0.2 told.0.3
