use Rattle.std.proofs.Common.{◌≡◌, ◌∙◌, ◌<◌, List, length, get_or, sym, ap, subst, arith}
use Rattle.std.proofs.lemmas.List.{take_all}
use Rattle.dbl_model_table.specs.declared.change.Cell.{Cell}
use Rattle.dbl_model_table.specs.Rows.{overlay}
use Rattle.dbl_window.specs.Changing.{laid}
use Rattle.dbl_window.proofs.Overlays.{overlay-more}
use Rattle.dbl_window.proofs.rows.overlaid_row.Goals as goal

pub loop-place-preserved : goal.loop-place-preserved
loop-place-preserved c =
    let cells : c.deref-cell-items.result.now ≡ c.args.cells.now = c.deref-cell-items.ensures.value ∙ c.items.ensures in
    let lt : c.loop-place.place < length c.args.cells.now = subst (λ (l : List Cell). c.loop-place.place < length l) cells c.loop-place-test.true in
    let is : c.cell-item.result ≡ get_or c.args.cells.now c.loop-place.place c.cell-item.result = c.cell-item.is ∙ ap (λ (l : List Cell). get_or l c.loop-place.place c.cell-item.result) cells in
    c.in_ok-lay_cell.ensures
    ∙ (ap (laid c.loop-place.place c.cell-item.result) c.loop-place.invariant
    ∙ sym (overlay-more c.args.cells.now c.args.row.cells c.loop-place.place c.cell-item.result lt is))

-- at the end all cells were laid over
pub returns : goal.returns
returns c =
    let cells : c.deref-cell-items.result.now ≡ c.args.cells.now = c.deref-cell-items.ensures.value ∙ c.items.ensures in
    let long : length c.args.cells.now ≡ length c.deref-cell-items.result.now = ap length (sym cells) in
    c.make.ensures ∙ (c.loop-place.invariant ∙ ap (λ (l : List Cell). overlay l c.args.row.cells) (take_all c.loop-place.place c.args.cells.now (omega (arith, long))))
