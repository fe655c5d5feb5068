use Rattle.std.proofs.Common.{◌≡◌, ◌∙◌, ◌++◌, ◌+◌, ◌<◌, ◌≤◌, List, length, drop, get_or, ap, subst}
use Rattle.dbl_value_types.specs.declared.value.Val.{Val}
use Rattle.dbl_model_table.specs.Rows.{overlay}
use Rattle.cases_ages.proofs.PlainRowLemmas.{overlay_more, overlay_whole}
use Rattle.cases_ages.proofs.plain_rows.overlaid_cells.Goals as goal

pub loop-i-preserved : goal.loop-i-preserved
loop-i-preserved c =
    let row : c.deref-old-items.result.now ≡ c.args.row.now = c.deref-old-items.ensures.value ∙ c.items.ensures in
    ap (λ (l : List Val). l ++ overlay (drop (c.loop-i.i + 1) c.args.cells.now) (drop (c.loop-i.i + 1) c.args.row.now)) c.in_ok-push.ensures.items
    ∙ overlay_more c.args.cells.now c.args.row.now c.loop-i.new.items c.loop-i.i c.old-item.result c.in_ok-cell_over.field-0
    (subst (λ (l : List Val). c.loop-i.i < length l) row c.loop-i-test.true)
    (c.old-item.is ∙ ap (λ (l : List Val). get_or l c.loop-i.i c.old-item.result) row)
    c.in_ok-cell_over.ensures c.loop-i.invariant

pub returns : goal.returns
returns c =
    let row : c.deref-old-items.result.now ≡ c.args.row.now = c.deref-old-items.ensures.value ∙ c.items.ensures in
    c.make.ensures ∙ overlay_whole c.args.cells.now c.args.row.now c.loop-i.new.items c.loop-i.i (subst (λ (l : List Val). length l ≤ c.loop-i.i) row c.loop-i-test.false) c.loop-i.invariant
