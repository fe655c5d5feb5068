use Rattle.std.proofs.Common.{◌≡◌, ◌∙◌, [], sym, ap, arith}
use Rattle.std.specs.Vec.Iter.{into_iter_items}
use Rattle.dbl_consume.specs.Cells.{cells_data}
use Rattle.dbl_consume.specs.JsonValues.{put_all}
use Rattle.dbl_consume.proofs.CellLemmas.{one_put, no_cells}
use Rattle.dbl_consume.proofs.cells.index_cells.Goals as goal

pub loop-name-preserved : goal.loop-name-preserved
loop-name-preserved c =
    let l = c.loop-name in
    one_put (into_iter_items l.name-iterator) (into_iter_items c.next.new.self) l.found.entries c.insert.new.self.entries (c.in-Some.name, c.in-Some.part)
    c.in-Some.ensures.steps.0 c.in_ok-insert.ensures.entries ∙ l.invariant

pub returns : goal.returns
returns c =
    let l = c.loop-name in
    let none : into_iter_items l.name-iterator ≡ []
    = no_cells (into_iter_items l.name-iterator) (omega (arith, c.in-None.ensures.steps.0, l.name-iterator.rest.ok)) in
    ap (λ cells. put_all (cells_data cells) (cells_data l.found.entries)) (sym none) ∙ l.invariant
