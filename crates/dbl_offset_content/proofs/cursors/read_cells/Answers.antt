use Rattle.std.proofs.Common.{◌≡◌, Ok, map, get_or, refl, ap, sym, subst, ◌∙◌}
use Rattle.std.proofs.lemmas.Result.{err_from_is_err_and}
use Rattle.dbl_value_types.specs.declared.column_type.PgType.{PgType}
use Rattle.dbl_model_table.specs.Tables.{type_at}
use Rattle.dbl_record.specs.GroupReading.{Fails}
use Rattle.dbl_offset_content.specs.Reading.{offset_cell_at, cells_at}
use Rattle.dbl_offset_content.proofs.Many.{cells_go_on, cells_end, cells_done}
use Rattle.dbl_offset_content.proofs.cursors.read_cells.Goals as goal

pub returns-in_err-cell : goal.returns-in_err-cell
returns-in_err-cell c =
    let p = err_from_is_err_and c.from_residual-in_err-cell.result c.from_residual-in_err-cell.ensures.1 in
    let place = get_or c.args.key.now c.loop-place.place-index 0 in
    let failed : Fails c.in_err-cell.field-0.0 (offset_cell_at (type_at c.args.columns.now place) c.loop-place.rest.now) = subst (λ (ty : PgType). Fails c.in_err-cell.field-0.0 (offset_cell_at ty c.loop-place.rest.now)) c.type_of_column-ty.ensures c.in_err-cell.ensures in
    rw (p.1, p.2) (cells_end (type_at c.args.columns.now) c.args.key.now c.in_err-cell.field-0.0 c.loop-place.cells.items c.loop-place.place-index place c.loop-place.rest.now (cells_at (map (type_at c.args.columns.now) c.args.key.now) c.args.bytes.now) c.loop-place-test.true refl failed c.loop-place.invariant)

pub loop-place-preserved : goal.loop-place-preserved
loop-place-preserved c =
    let place = get_or c.args.key.now c.loop-place.place-index 0 in
    let read : offset_cell_at (type_at c.args.columns.now place) c.loop-place.rest.now ≡ Ok (c.in_ok-cell.cell, c.in_ok-cell.after.now) = ap (λ (ty : PgType). offset_cell_at ty c.loop-place.rest.now) (sym c.type_of_column-ty.ensures) ∙ c.in_ok-cell.ensures in
    rw c.in_ok-push.ensures.items (cells_go_on (type_at c.args.columns.now) c.args.key.now c.loop-place.cells.items c.loop-place.place-index place c.loop-place.rest.now c.in_ok-cell.cell c.in_ok-cell.after.now (cells_at (map (type_at c.args.columns.now) c.args.key.now) c.args.bytes.now) c.loop-place-test.true refl read c.loop-place.invariant)

pub returns : goal.returns
returns c = cells_done (type_at c.args.columns.now) c.args.key.now c.loop-place.cells.items c.loop-place.place-index c.loop-place.rest.now (cells_at (map (type_at c.args.columns.now) c.args.key.now) c.args.bytes.now) c.loop-place-test.false c.loop-place.invariant
