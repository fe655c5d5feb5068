use Rattle.std.proofs.lemmas.Result.{err_from_is_err_and}
use Rattle.dbl_demo_workload.proofs.PrepareLemmas.{all_committed}
use Rattle.dbl_demo_workload.proofs.RowLemmas.{commit_refused}
use Rattle.dbl_demo_workload.proofs.preparing.commit_each_row.Goals as goal

pub returns-in_err-insert_each_row : goal.returns-in_err-insert_each_row
returns-in_err-insert_each_row c = λ tables stands.
    let p = err_from_is_err_and c.from_residual.result c.from_residual.ensures.1 in
    rw (p.1, p.2) (commit_refused tables c.args.rows.items c.insert_each_row.new.first c.in_err-insert_each_row.field-0.0 (c.in_err-insert_each_row.ensures tables _ (c.begin-first.ensures tables stands)))

pub returns : goal.returns
returns c = λ tables stands.
    let rows = c.in_ok-insert_each_row.ensures tables _ (c.begin-first.ensures tables stands) in
    all_committed tables c.args.rows.items c.insert_each_row.new.first c.commit-store.result.0 c.commit-store.result.1 c.requires rows (c.commit-store.ensures.ends tables _ rows.1) (c.commit-store.ensures.given tables _ rows.1)
