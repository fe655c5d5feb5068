use Rattle.std.proofs.Common.{◌∙◌, sym}
use Rattle.dbl_demo_workload.proofs.PrepareLemmas.{none_committed}
use Rattle.dbl_demo_workload.proofs.RowLemmas.{no_rows, some_rows}
use Rattle.dbl_demo_workload.proofs.preparing.commit_rows.Goals as goal

pub returns-then-is_empty : goal.returns-then-is_empty
returns-then-is_empty c = λ tables stands.
    none_committed tables c.args.rows.items c.args.store (no_rows c.args.rows.items c.args.rows.len c.args.rows.ok.0 (sym c.is_empty.ensures ∙ c.if-is_empty.true)) stands

pub commit_each_row-requires : goal.commit_each_row-requires
commit_each_row-requires c = some_rows c.args.rows.items c.args.rows.len c.args.rows.ok.0 (sym c.is_empty.ensures ∙ c.if-is_empty.false)
