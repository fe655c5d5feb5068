use Rattle.std.proofs.Common.{◌≡◌, ◌∙◌, ◌<◌, List, length, get_or, ap, subst, arith}
use Rattle.dbl_model_table.specs.declared.change.Change.{Change}
use Rattle.dbl_model_history.specs.PlainRows.{plain_row_cells}
use Rattle.cases_ages.proofs.PlainRowLemmas.{changes_more}
use Rattle.cases_ages.proofs.plain_rows.row_after_changes.Goals as goal

pub loop-i-preserved : goal.loop-i-preserved
loop-i-preserved c =
    let changes : c.deref-change-items.result.now ≡ c.args.changes.now = c.deref-change-items.ensures.value ∙ c.items.ensures in
    record {
      row = changes_more c.args.infos.now.items c.args.table c.args.key.now (plain_row_cells c.args.row) (plain_row_cells c.loop-i.row) (plain_row_cells c.in_ok-row.row) c.args.changes.now c.loop-i.i c.change-item.result
          (subst (λ (l : List Change). c.loop-i.i < length l) changes c.loop-i-test.true)
          (c.change-item.is ∙ ap (λ (l : List Change). get_or l c.loop-i.i c.change-item.result) changes)
          c.loop-i.invariant.row c.in_ok-row.ensures;
      within = omega (arith, c.loop-i.invariant.within, c.if-i-count.false);
    }
