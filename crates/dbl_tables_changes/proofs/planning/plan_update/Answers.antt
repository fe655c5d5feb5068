use Rattle.std.proofs.Common.{◌≡◌, ◌∙◌, ◌≤◌, ℕ, inr, true, Option, Some, None, List, length, sym, ap, subst}
use Rattle.std.proofs.lemmas.Result.{err_from_is_err_and}
use Rattle.std.specs.Prelude.{◌&&◌, Ok, Err}
use Rattle.dbl_pgmsg.specs.declared.messages.Message.{Message}
use Rattle.dbl_model_table.specs.declared.row.Key.{Key}
use Rattle.dbl_tables_rows.specs.SourceLog.Texts.{Texts, key_from}
use Rattle.dbl_tables_rows.specs.Acts.{messages_by}
use Rattle.dbl_tables_rows.specs.Cells.{key_given, key_set, key_texts_set, row_set, are_readable, keep_key, is_readable_key, is_readable_set}
use Rattle.dbl_tables_rows.specs.Given.{IsUtf8Change}
use Rattle.dbl_tables_rows.specs.Sending.{raw_of, entry_limit, update_message}
use Rattle.dbl_tables_rows.specs.Holders.{other_than, lesser_if}
use Rattle.dbl_tables_rows.specs.Views.{owner_at, seen_at}
use Rattle.dbl_tables_changes.specs.Planned.{Blocks, UpdatePlans, found_here}
use Rattle.dbl_tables_changes.proofs.ExitLemmas.{has_columns, update_by_key, update_by_set, update_by_null, update_by_lock_none, update_plans, utf8_wide, wide_seen, session_short, unblocked, both_yes}
use Rattle.dbl_tables_changes.proofs.VerdictLemmas.{update_missing}
use Rattle.dbl_tables_changes.proofs.planning.plan_update.Goals as goal

-- the key can't be read
pub returns-in_err-old_key : goal.returns-in_err-old_key
returns-in_err-old_key c tables past asked =
    let p = err_from_is_err_and c.from_residual.result c.from_residual.ensures.1 in
    let here = found_here c.args.oid c.args.rows.now in
    rw (p.1, p.2) (update_by_key tables past c.args.name.now here c.args.rows.now c.args.session.now asked c.args.key.now c.args.set.now c.in_err-old_key.field-0.0 (c.in_err-old_key.ensures.reads (has_columns tables past here c.args.rows.now asked.are_rows)))

-- what is set can't
pub returns-in_err-read_cells : goal.returns-in_err-read_cells
returns-in_err-read_cells c tables past asked =
    let p = err_from_is_err_and c.from_residual-in_err-read_cells.result c.from_residual-in_err-read_cells.ensures.1 in
    let here = found_here c.args.oid c.args.rows.now in
    rw (p.1, p.2) (update_by_set tables past c.args.name.now here c.args.rows.now c.args.session.now asked c.args.key.now c.args.set.now c.in_err-read_cells.field-0.0 (c.in_err-read_cells.ensures.reads (has_columns tables past here c.args.rows.now asked.are_rows)))

-- a key cell would be null
pub returns-then-not-keep_key : goal.returns-then-not-keep_key
returns-then-not-keep_key c tables past asked =
    inr (update_by_null tables past c.args.name.now (found_here c.args.oid c.args.rows.now) c.args.rows.now c.args.session.now asked c.args.key.now c.args.set.now (sym c.keep_key.ensures ∙ c.if-not-keep_key.true))

-- no row: somebody is in the way
pub returns-in_err-pass : goal.returns-in_err-pass
returns-in_err-pass c tables past asked =
    let p = err_from_is_err_and c.from_residual-in_err-pass.result c.from_residual-in_err-pass.ensures.1 in
    let here = found_here c.args.oid c.args.rows.now in
    let messages : List Message = messages_by c.args.name.now past in
    let hc = has_columns tables past here c.args.rows.now asked.are_rows in
    let readable : (is_readable_key (raw_of c.args.rows.now.table) c.args.key.now && is_readable_set (raw_of c.args.rows.now.table) c.args.set.now) ≡ true =
    both_yes (is_readable_key (raw_of c.args.rows.now.table) c.args.key.now) (is_readable_set (raw_of c.args.rows.now.table) c.args.set.now) (c.in_ok-old_key.ensures.reads hc) (both_yes (are_readable (raw_of c.args.rows.now.table) c.args.set.now) (keep_key (raw_of c.args.rows.now.table) c.args.set.now) (c.in_ok-read_cells.ensures.reads hc) (sym c.keep_key.ensures ∙ c.if-not-keep_key.false)) in
    let from : c.in_ok-from.from ≡ key_given (raw_of c.args.rows.now.table) c.args.key.now = c.in_ok-from.ensures ∙ ap (key_from (raw_of c.args.rows.now.table)) (c.as_slice-2.ensures.value ∙ c.in_ok-old_key.ensures.key) in
    let to : c.in_ok-to.to ≡ key_set (raw_of c.args.rows.now.table) c.args.key.now c.args.set.now =
    c.in_ok-to.ensures ∙ (ap (key_from (raw_of c.args.rows.now.table)) (c.as_slice-3.ensures.value ∙ c.in_ok-new_key.ensures) ∙ ap (λ (l : List (Option (List ℕ))). key_from (raw_of c.args.rows.now.table) (key_texts_set c.args.set.now (raw_of c.args.rows.now.table).key l)) (c.as_slice.ensures.value ∙ c.in_ok-old_key.ensures.key)) in
    let way : lesser_if (other_than c.args.name.now (owner_at c.args.rows.now c.in_ok-from.from)) (other_than c.args.name.now (owner_at c.args.rows.now c.in_ok-to.to)) ≡ lesser_if (other_than c.args.name.now (owner_at c.args.rows.now (key_given (raw_of c.args.rows.now.table) c.args.key.now))) (other_than c.args.name.now (owner_at c.args.rows.now (key_set (raw_of c.args.rows.now.table) c.args.key.now c.args.set.now))) =
    ap (λ (k : Key). lesser_if (other_than c.args.name.now (owner_at c.args.rows.now k)) (other_than c.args.name.now (owner_at c.args.rows.now c.in_ok-to.to))) from ∙ ap (λ (k : Key). lesser_if (other_than c.args.name.now (owner_at c.args.rows.now (key_given (raw_of c.args.rows.now.table) c.args.key.now))) (other_than c.args.name.now (owner_at c.args.rows.now k))) to in
    let none : seen_at c.args.rows.now c.args.name.now (key_given (raw_of c.args.rows.now.table) c.args.key.now) ≡ None = sym (ap (seen_at c.args.rows.now c.args.name.now) from) ∙ sym c.in_default.ensures in
    rw (p.1, p.2) (update_by_lock_none tables past c.args.name.now here c.args.rows.now c.args.session.now asked c.args.key.now c.args.set.now readable none c.in_err-pass.field-0.0 (subst (λ (o : Option (List ℕ)). Blocks {A = Unit {0}} o (Err c.in_err-pass.field-0.0)) (c.in_the_way.ensures ∙ way) c.in_err-pass.ensures))

-- no row, and nobody
pub returns-in_default : goal.returns-in_default
returns-in_default c tables past asked =
    let here = found_here c.args.oid c.args.rows.now in
    let messages : List Message = messages_by c.args.name.now past in
    let hc = has_columns tables past here c.args.rows.now asked.are_rows in
    let readable : (is_readable_key (raw_of c.args.rows.now.table) c.args.key.now && is_readable_set (raw_of c.args.rows.now.table) c.args.set.now) ≡ true =
    both_yes (is_readable_key (raw_of c.args.rows.now.table) c.args.key.now) (is_readable_set (raw_of c.args.rows.now.table) c.args.set.now) (c.in_ok-old_key.ensures.reads hc) (both_yes (are_readable (raw_of c.args.rows.now.table) c.args.set.now) (keep_key (raw_of c.args.rows.now.table) c.args.set.now) (c.in_ok-read_cells.ensures.reads hc) (sym c.keep_key.ensures ∙ c.if-not-keep_key.false)) in
    let from : c.in_ok-from.from ≡ key_given (raw_of c.args.rows.now.table) c.args.key.now = c.in_ok-from.ensures ∙ ap (key_from (raw_of c.args.rows.now.table)) (c.as_slice-2.ensures.value ∙ c.in_ok-old_key.ensures.key) in
    let to : c.in_ok-to.to ≡ key_set (raw_of c.args.rows.now.table) c.args.key.now c.args.set.now =
    c.in_ok-to.ensures ∙ (ap (key_from (raw_of c.args.rows.now.table)) (c.as_slice-3.ensures.value ∙ c.in_ok-new_key.ensures) ∙ ap (λ (l : List (Option (List ℕ))). key_from (raw_of c.args.rows.now.table) (key_texts_set c.args.set.now (raw_of c.args.rows.now.table).key l)) (c.as_slice.ensures.value ∙ c.in_ok-old_key.ensures.key)) in
    let way : lesser_if (other_than c.args.name.now (owner_at c.args.rows.now c.in_ok-from.from)) (other_than c.args.name.now (owner_at c.args.rows.now c.in_ok-to.to)) ≡ lesser_if (other_than c.args.name.now (owner_at c.args.rows.now (key_given (raw_of c.args.rows.now.table) c.args.key.now))) (other_than c.args.name.now (owner_at c.args.rows.now (key_set (raw_of c.args.rows.now.table) c.args.key.now c.args.set.now))) =
    ap (λ (k : Key). lesser_if (other_than c.args.name.now (owner_at c.args.rows.now k)) (other_than c.args.name.now (owner_at c.args.rows.now c.in_ok-to.to))) from ∙ ap (λ (k : Key). lesser_if (other_than c.args.name.now (owner_at c.args.rows.now (key_given (raw_of c.args.rows.now.table) c.args.key.now))) (other_than c.args.name.now (owner_at c.args.rows.now k))) to in
    let none : seen_at c.args.rows.now c.args.name.now (key_given (raw_of c.args.rows.now.table) c.args.key.now) ≡ None = sym (ap (seen_at c.args.rows.now c.args.name.now) from) ∙ sym c.in_default.ensures in
    inr (update_missing tables past c.args.name.now here c.args.rows.now c.args.session.now asked c.args.key.now c.args.set.now readable none (unblocked (lesser_if (other_than c.args.name.now (owner_at c.args.rows.now (key_given (raw_of c.args.rows.now.table) c.args.key.now))) (other_than c.args.name.now (owner_at c.args.rows.now (key_set (raw_of c.args.rows.now.table) c.args.key.now c.args.set.now)))) tt
    (subst (λ (o : Option (List ℕ)). Blocks {A = Unit {0}} o (Ok tt)) (c.in_the_way.ensures ∙ way) c.in_ok-pass.ensures)))

-- a row: the rest is judged after it
pub returns : goal.returns
returns c tables past asked =
    let here = found_here c.args.oid c.args.rows.now in
    let messages : List Message = messages_by c.args.name.now past in
    let hc = has_columns tables past here c.args.rows.now asked.are_rows in
    let readable : (is_readable_key (raw_of c.args.rows.now.table) c.args.key.now && is_readable_set (raw_of c.args.rows.now.table) c.args.set.now) ≡ true =
    both_yes (is_readable_key (raw_of c.args.rows.now.table) c.args.key.now) (is_readable_set (raw_of c.args.rows.now.table) c.args.set.now) (c.in_ok-old_key.ensures.reads hc) (both_yes (are_readable (raw_of c.args.rows.now.table) c.args.set.now) (keep_key (raw_of c.args.rows.now.table) c.args.set.now) (c.in_ok-read_cells.ensures.reads hc) (sym c.keep_key.ensures ∙ c.if-not-keep_key.false)) in
    let from : c.in_ok-from.from ≡ key_given (raw_of c.args.rows.now.table) c.args.key.now = c.in_ok-from.ensures ∙ ap (key_from (raw_of c.args.rows.now.table)) (c.as_slice-2.ensures.value ∙ c.in_ok-old_key.ensures.key) in
    let to : c.in_ok-to.to ≡ key_set (raw_of c.args.rows.now.table) c.args.key.now c.args.set.now =
    c.in_ok-to.ensures ∙ (ap (key_from (raw_of c.args.rows.now.table)) (c.as_slice-3.ensures.value ∙ c.in_ok-new_key.ensures) ∙ ap (λ (l : List (Option (List ℕ))). key_from (raw_of c.args.rows.now.table) (key_texts_set c.args.set.now (raw_of c.args.rows.now.table).key l)) (c.as_slice.ensures.value ∙ c.in_ok-old_key.ensures.key)) in
    let way : lesser_if (other_than c.args.name.now (owner_at c.args.rows.now c.in_ok-from.from)) (other_than c.args.name.now (owner_at c.args.rows.now c.in_ok-to.to)) ≡ lesser_if (other_than c.args.name.now (owner_at c.args.rows.now (key_given (raw_of c.args.rows.now.table) c.args.key.now))) (other_than c.args.name.now (owner_at c.args.rows.now (key_set (raw_of c.args.rows.now.table) c.args.key.now c.args.set.now))) =
    ap (λ (k : Key). lesser_if (other_than c.args.name.now (owner_at c.args.rows.now k)) (other_than c.args.name.now (owner_at c.args.rows.now c.in_ok-to.to))) from ∙ ap (λ (k : Key). lesser_if (other_than c.args.name.now (owner_at c.args.rows.now (key_given (raw_of c.args.rows.now.table) c.args.key.now))) (other_than c.args.name.now (owner_at c.args.rows.now k))) to in
    let before : Texts = c.in-Some.before.now.cells in
    let there : seen_at c.args.rows.now c.args.name.now (key_given (raw_of c.args.rows.now.table) c.args.key.now) ≡ Some before = sym (ap (seen_at c.args.rows.now c.args.name.now) from) ∙ sym c.in-Some.ensures in
    let message : c.in_ok-message.message ≡ update_message c.args.oid c.args.rows.now.table before (row_set (raw_of c.args.rows.now.table).columns c.args.set.now before) = c.in_ok-message.ensures.message ∙ ap (update_message c.args.oid c.args.rows.now.table before) c.in_ok-row.ensures in
    let utf8 : length c.args.rows.now.table.info.columns ≤ 1600 → IsUtf8Change c.in_ok-message.message = utf8_wide c.args.rows.now.table before c.in_ok-message.message (wide_seen tables past c.args.name.now here c.args.rows.now c.args.session.now asked (key_given (raw_of c.args.rows.now.table) c.args.key.now) before there) c.in_ok-message.ensures.utf8 in
    let short : c.args.session.now.size ≤ entry_limit = session_short tables past c.args.name.now here c.args.rows.now c.args.session.now asked in
    let plans = c.plan_update_of.ensures messages utf8 short asked.is_session.size in
    update_plans tables past c.args.name.now here c.args.rows.now c.args.session.now asked c.args.key.now c.args.set.now readable before there c.in_ok-row.row c.in_ok-row.ensures c.plan_update_of.result
    (subst (λ (m : Message). UpdatePlans c.args.rows.now c.args.name.now messages m (key_given (raw_of c.args.rows.now.table) c.args.key.now) (key_set (raw_of c.args.rows.now.table) c.args.key.now c.args.set.now) c.in_ok-row.row c.plan_update_of.result) message
    (subst (λ (k : Key). UpdatePlans c.args.rows.now c.args.name.now messages c.in_ok-message.message (key_given (raw_of c.args.rows.now.table) c.args.key.now) k c.in_ok-row.row c.plan_update_of.result) to
    (subst (λ (k : Key). UpdatePlans c.args.rows.now c.args.name.now messages c.in_ok-message.message k c.in_ok-to.to c.in_ok-row.row c.plan_update_of.result) from plans)))
