use Rattle.std.proofs.Common.{◌≡◌, ◌∙◌, ◌<◌, ◌≤◌, List, length, get_or, ap, subst}
use Rattle.dbl_model_table.specs.declared.change.Commit.{Commit}
use Rattle.dbl_model_history.specs.PlainRows.{plain_row_cells}
use Rattle.cases_ages.proofs.PlainRowLemmas.{walked_more, walked_whole}
use Rattle.cases_ages.proofs.plain_rows.row_at.Goals as goal

pub loop-commit-preserved : goal.loop-commit-preserved
loop-commit-preserved c =
    let commits : c.deref-commit-items.result.now ≡ c.args.commits.now.items = c.deref-commit-items.ensures.value in
    walked_more c.args.infos.now.items c.args.table c.args.key.now c.args.commits.now.items c.args.moment c.loop-commit.commit-index (plain_row_cells c.loop-commit.row) (plain_row_cells c.in_ok-row.row) c.loop-commit.left c.left_after-left.result c.commit-item.result
    (subst (λ (l : List Commit). c.loop-commit.commit-index < length l) commits c.loop-commit-test.true)
    (c.commit-item.is ∙ ap (λ (l : List Commit). get_or l c.loop-commit.commit-index c.commit-item.result) commits)
    c.loop-commit.invariant c.in_ok-row.ensures c.left_after-left.ensures

pub returns : goal.returns
returns c =
    let commits : c.deref-commit-items.result.now ≡ c.args.commits.now.items = c.deref-commit-items.ensures.value in
    walked_whole c.args.infos.now.items c.args.table c.args.key.now c.args.commits.now.items c.args.moment c.loop-commit.commit-index (plain_row_cells c.loop-commit.row) c.loop-commit.left
    (subst (λ (l : List Commit). length l ≤ c.loop-commit.commit-index) commits c.loop-commit-test.false) c.loop-commit.invariant
