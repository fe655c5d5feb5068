use Rattle.std.proofs.Common.{◌∙◌, ℕ, inr, Option, List, sym, subst}
use Rattle.std.proofs.lemmas.Result.{err_from_is_err_and}
use Rattle.std.specs.Prelude.{Ok, Err}
use Rattle.dbl_tables_changes.specs.Planned.{Judges}
use Rattle.dbl_tables_changes.proofs.ExitLemmas.{update_judged, late_by_row}
use Rattle.dbl_tables_changes.proofs.planning.judge_update.Goals as goal

-- too long, or somebody holds one of the keys
pub returns-in_err-size : goal.returns-in_err-size
returns-in_err-size c messages utf8 short is =
    let p = err_from_is_err_and c.from_residual.result c.from_residual.ensures.1 in
    rw (p.1, p.2) (update_judged c.args.rows.now c.args.name.now messages c.args.message.now c.args.from.now c.args.to.now c.in_err-size.field-0.0
    (subst (λ (o : Option (List ℕ)). Judges c.args.rows.now.table messages c.args.message.now o (Err c.in_err-size.field-0.0)) c.in_the_way-by.ensures (c.in_err-size.ensures messages utf8 short is)))

-- a row is where it leads
pub returns-then-is_taken : goal.returns-then-is_taken
returns-then-is_taken c messages utf8 short is =
    let told = subst (λ (o : Option (List ℕ)). Judges c.args.rows.now.table messages c.args.message.now o (Ok c.in_ok-size.size)) c.in_the_way-by.ensures (c.in_ok-size.ensures messages utf8 short is) in
    inr (late_by_row c.args.rows.now c.args.name.now messages c.args.message.now c.args.from.now c.args.to.now told.0.0 told.1 (sym c.is_taken.ensures ∙ c.if-is_taken.true))

pub returns : goal.returns
returns c messages utf8 short is =
    let told = subst (λ (o : Option (List ℕ)). Judges c.args.rows.now.table messages c.args.message.now o (Ok c.in_ok-size.size)) c.in_the_way-by.ensures (c.in_ok-size.ensures messages utf8 short is) in
    record { fits = told.0; free = told.1; absent = sym c.is_taken.ensures ∙ c.if-is_taken.false }
