use Rattle.std.proofs.Common.{◌≡◌, ◌∙◌, List, length, take, inr, sym, subst, ap, arith, refl}
use Rattle.std.proofs.lemmas.List.{map-id, length-map}
use Rattle.std.proofs.lemmas.Result.{err_from_is_err_and}
use Rattle.std.proofs.lemmas.Iterator.Adapters.{YieldsList-from_vec}
use Rattle.std.proofs.lemmas.Iterator.Consumers.{YieldsList-end, YieldsList-so_far, YieldsList-turn}
use Rattle.dbl_model_table.specs.declared.named_cell.NamedCell.{NamedCell}
use Rattle.dbl_model_table.specs.declared.table.Column.{Column}
use Rattle.dbl_tables_changes.specs.First.{AreTaken}
use Rattle.dbl_tables_changes.proofs.MovedLemmas.{begin_named, taken_more, taken_twice}
use Rattle.dbl_tables_changes.proofs.first.take_cells.Goals as goal

pub loop-cell-init : goal.loop-cell-init
loop-cell-init c = λ placed. (c.in_ok-named.ensures ∙ begin_named c.args.rows.now.table.info c.len.result (omega (arith, ap length c.items.ensures, length-map c.args.rows.now.table.info.columns (λ (column : Column). column.name))), refl)

pub loop-cell-preserved : goal.loop-cell-preserved
loop-cell-preserved c = λ placed.
    let before = c.loop-cell.invariant placed in
    let one = c.in_ok-take_cell.ensures c.args.rows.now.table.info c.loop-cell.yielded placed before.0 in
    (one.0, taken_more c.loop-cell.yielded c.in-Some.cell before.1 one.1)

pub returns-in_err-take_cell-clause-twice : goal.returns-in_err-take_cell-clause-twice
returns-in_err-take_cell-clause-twice c placed readable =
    let p = err_from_is_err_and c.from_residual-in_err-take_cell.result c.from_residual-in_err-take_cell.ensures.1 in
    let cells = c.args.cells.items in
    let yielded = c.loop-cell.yielded in
    let gives = c.into_iter-cell-iterator.ensures.into_iter_gives in
    let road = YieldsList-from_vec cells gives.0 (omega (arith, gives.1, c.args.cells.ok.0)) in
    let turn = YieldsList-turn road yielded c.loop-cell.cell-iterator c.loop-cell.yielded_by c.next.result c.next.new.self c.in-Some.cell c.in-Some.is c.next.ensures.steps in
    let front : yielded ≡ take (length yielded) cells = sym (map-id yielded) ∙ YieldsList-so_far road yielded c.loop-cell.cell-iterator c.loop-cell.yielded_by in
    let before = c.loop-cell.invariant placed in
    let told = c.in_err-take_cell.ensures c.args.rows.now.table.info yielded placed before.0 in
    rw (p.1, p.2) (inr (told.0, taken_twice c.args.rows.now.table.info cells yielded (length yielded) c.in-Some.cell turn.0 turn.1 front readable told.1))

pub returns-clause-taken : goal.returns-clause-taken
returns-clause-taken c placed readable =
    let gives = c.into_iter-cell-iterator.ensures.into_iter_gives in
    let road = YieldsList-from_vec c.args.cells.items gives.0 (omega (arith, gives.1, c.args.cells.ok.0)) in
    let all : c.loop-cell.yielded ≡ c.args.cells.items =
    sym (map-id c.loop-cell.yielded) ∙ (YieldsList-end road c.loop-cell.yielded c.loop-cell.cell-iterator c.loop-cell.yielded_by c.next.result c.next.new.self c.in-None.is c.next.ensures.steps).0 in
    let before = c.loop-cell.invariant placed in
    subst (λ (l : List NamedCell). AreTaken c.args.rows.now.table.info l c.loop-cell.named.items) all before
