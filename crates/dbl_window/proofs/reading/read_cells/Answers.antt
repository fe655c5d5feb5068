use Rattle.std.proofs.Common.{◌≡◌, ◌∙◌, ◌+◌, ◌<◌, List, ◌∷◌, ◌++◌, [], length, drop, get_or, sym, ap, subst, arith}
use Rattle.std.specs.Vec.Iter.{into_iter_items}
use Rattle.dbl_value_types.specs.declared.column_type.PgType.{PgType}
use Rattle.dbl_value_types.specs.declared.value.Val.{Val}
use Rattle.dbl_model_table.specs.declared.table.Column.{Column}
use Rattle.dbl_window.specs.Reading.{cells_read}
use Rattle.dbl_window.specs.ReadParts.{FitsColumnCell}
use Rattle.dbl_window.proofs.Loops.{with_front}
use Rattle.dbl_window.proofs.CellLemmas.{FitSoFar, fit_push}
use Rattle.dbl_window.proofs.LoopLemmas.{cells_more, type_there}
use Rattle.dbl_window.proofs.reading.read_cells.Goals as goal

pub loop-cell-preserved : goal.loop-cell-preserved
loop-cell-preserved c =
    let info = c.args.info.now in
    let place = c.loop-cell.place in
    let column = c.index.result.now in
    let value = c.in_ok-read_cell.field-0 in
    let values = c.loop-cell.values.items in
    let items = into_iter_items c.loop-cell.cell-iterator in
    let rest = into_iter_items c.next.new.self in
    let are : items ≡ c.in-Some.cell ∷ rest = c.in-Some.ensures.steps.0 in
    let counted : place + length items ≡ length info.columns = c.loop-cell.invariant.counted in
    let long : length items ≡ length rest + 1 = ap length are ∙ omega arith in
    let lt : place < length info.columns = omega (arith, counted, long) in
    let is : column ≡ get_or info.columns place column = c.index.ensures ∙ ap (λ (l : List Column). get_or l place column) c.items-columns.ensures in
    let pushed : c.push.new.self.items ≡ values ++ value ∷ [] = c.in_ok-push.ensures.items in
    record {
      read = ap (λ (l : List Val). with_front l (cells_read info c.args.number (place + 1) (drop (place + 1) info.columns) rest)) pushed
          ∙ cells_more info c.args.number place column values items rest c.in-Some.cell value _ c.loop-cell.invariant.read lt is are c.in_ok-read_cell.ensures.read;
      counted = omega (arith, counted, long);
      fit = subst (λ (l : List Val). FitSoFar info l (place + 1)) (sym pushed)
          (fit_push info values place value c.loop-cell.invariant.fit
          (subst (λ (ty : PgType). FitsColumnCell info place ty value) (sym (type_there info place column lt is)) c.in_ok-read_cell.ensures.fits));
    }
