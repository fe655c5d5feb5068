use Rattle.std.proofs.Common.{◌≡◌, ◌∙◌, ◌+◌, ◌<◌, List, ◌∷◌, ◌++◌, [], length, drop, get_or, sym, ap, arith}
use Rattle.std.proofs.lemmas.Result.{err_from_is_err_and}
use Rattle.std.specs.Prelude.{Ok}
use Rattle.std.specs.Vec.Iter.{into_iter_items}
use Rattle.dbl_model_table.specs.declared.table.Column.{Column}
use Rattle.dbl_value_types.specs.declared.value.Val.{Val}
use Rattle.dbl_model_commit.specs.Tuples.{each_from, row_cell}
use Rattle.dbl_txn_changes.proofs.Loops.{with_front, no_items, cell_more, cell_stopped, cells_end}
use Rattle.dbl_txn_changes.proofs.rows.read_cells.Goals as goal

pub loop-cell-preserved : goal.loop-cell-preserved
loop-cell-preserved c =
    let columns = c.args.info.now.columns in
    let read = row_cell c.args.info.now c.args.relation.now c.args.whole in
    let place = c.loop-cell.place in
    let column = c.index.result.now in
    let front = c.loop-cell.values.items in
    let items = into_iter_items c.loop-cell.cell-iterator in
    let rest = into_iter_items c.next.new.self in
    let are : items ≡ c.in-Some.cell ∷ rest = c.in-Some.ensures.steps.0 in
    let counted : place + length items ≡ length columns = c.loop-cell.invariant.1 in
    let long : length items ≡ length rest + 1 = ap length are ∙ omega arith in
    let lt : place < length columns = omega (arith, counted, long) in
    let is : column ≡ get_or columns place column = c.index.ensures ∙ ap (λ (l : List Column). get_or l place column) c.items-columns.ensures in
    let value = c.in_ok-read_cell.field-0 in
    let pushed : c.push.new.self.items ≡ front ++ value ∷ [] = c.in_ok-push.ensures.items in (
      ap (λ (l : List Val). with_front l (each_from read (place + 1) (drop (place + 1) columns) rest)) pushed
          ∙ cell_more read columns place column front items rest c.in-Some.cell value _ c.loop-cell.invariant.0 lt is are c.in_ok-read_cell.ensures,
      omega (arith, counted, long),
    )

pub returns-in_err-read_cell : goal.returns-in_err-read_cell
returns-in_err-read_cell c =
    let columns = c.args.info.now.columns in
    let read = row_cell c.args.info.now c.args.relation.now c.args.whole in
    let place = c.loop-cell.place in
    let column = c.index.result.now in
    let front = c.loop-cell.values.items in
    let items = into_iter_items c.loop-cell.cell-iterator in
    let rest = into_iter_items c.next.new.self in
    let are : items ≡ c.in-Some.cell ∷ rest = c.in-Some.ensures.steps.0 in
    let counted : place + length items ≡ length columns = c.loop-cell.invariant.1 in
    let long : length items ≡ length rest + 1 = ap length are ∙ omega arith in
    let lt : place < length columns = omega (arith, counted, long) in
    let is : column ≡ get_or columns place column = c.index.ensures ∙ ap (λ (l : List Column). get_or l place column) c.items-columns.ensures in
    let p = err_from_is_err_and c.from_residual-in_err-read_cell.result c.from_residual-in_err-read_cell.ensures.1 in
    rw (p.1, p.2) (cell_stopped read columns place column front items rest c.in-Some.cell c.in_err-read_cell.field-0.0 _ c.loop-cell.invariant.0 lt is are c.in_err-read_cell.ensures)

pub returns : goal.returns
returns c =
    let columns = c.args.info.now.columns in
    let read = row_cell c.args.info.now c.args.relation.now c.args.whole in
    let place = c.loop-cell.place in
    let front = c.loop-cell.values.items in
    let items = into_iter_items c.loop-cell.cell-iterator in
    let none : items ≡ [] = no_items items (omega (arith, c.in-None.ensures.steps.0, c.loop-cell.cell-iterator.rest.ok)) in
    cells_end read columns place front items _ c.loop-cell.invariant.0 none ∙ ap (λ (l : List Val). Ok l) (sym c.make.ensures)
