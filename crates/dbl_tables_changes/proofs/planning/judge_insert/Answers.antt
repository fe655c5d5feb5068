use Rattle.std.proofs.Common.{◌≡◌, ◌∙◌, ℕ, inr, Option, List, sym, ap, subst}
use Rattle.std.proofs.lemmas.Result.{err_from_is_err_and}
use Rattle.std.specs.Prelude.{is_some, Ok, Err}
use Rattle.dbl_tables_rows.specs.Views.{seen_at}
use Rattle.dbl_tables_changes.specs.Planned.{Judges}
use Rattle.dbl_tables_changes.proofs.ExitLemmas.{insert_judged, insert_taken, row_found}
use Rattle.dbl_tables_changes.proofs.planning.judge_insert.Goals as goal

-- too long, or somebody holds the key
pub returns-in_err-size : goal.returns-in_err-size
returns-in_err-size c messages utf8 short is =
    let p = err_from_is_err_and c.from_residual.result c.from_residual.ensures.1 in
    rw (p.1, p.2) (insert_judged c.args.rows.now c.args.name.now messages c.args.message.now c.args.key.now c.in_err-size.field-0.0
    (subst (λ (o : Option (List ℕ)). Judges c.args.rows.now.table messages c.args.message.now o (Err c.in_err-size.field-0.0)) c.key_holder-by.ensures (c.in_err-size.ensures messages utf8 short is)))

-- a row is there
pub returns-then-is_some : goal.returns-then-is_some
returns-then-is_some c messages utf8 short is =
    let told = subst (λ (o : Option (List ℕ)). Judges c.args.rows.now.table messages c.args.message.now o (Ok c.in_ok-size.size)) c.key_holder-by.ensures (c.in_ok-size.ensures messages utf8 short is) in
    let seen : is_some (seen_at c.args.rows.now c.args.name.now c.args.key.now) ≡ c.is_some.result = sym (ap is_some c.seen_row.ensures) ∙ (row_found c.seen_row.result ∙ sym c.is_some.ensures) in
    inr (insert_taken c.args.rows.now c.args.name.now messages c.args.message.now c.args.key.now told.0.0 told.1 (seen ∙ c.if-is_some.true))

pub returns : goal.returns
returns c messages utf8 short is =
    let told = subst (λ (o : Option (List ℕ)). Judges c.args.rows.now.table messages c.args.message.now o (Ok c.in_ok-size.size)) c.key_holder-by.ensures (c.in_ok-size.ensures messages utf8 short is) in
    let seen : is_some (seen_at c.args.rows.now c.args.name.now c.args.key.now) ≡ c.is_some.result = sym (ap is_some c.seen_row.ensures) ∙ (row_found c.seen_row.result ∙ sym c.is_some.ensures) in
    record { fits = told.0; free = told.1; absent = seen ∙ c.if-is_some.false }
