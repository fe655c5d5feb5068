use Rattle.std.proofs.Common.{◌∙◌, ap}
use Rattle.std.proofs.Math.ListN.{set}
use Rattle.dbl_pgmsg.specs.declared.messages.TupleCell.{TupleCell}
use Rattle.dbl_hooks_masks.proofs.CellLemmas.{cells_at, cells_past}
use Rattle.dbl_hooks_masks.proofs.ResultLemmas.{on_success}
use Rattle.dbl_hooks_masks.proofs.mapper.mask_at.Goals as goal

pub returns-in-Some : goal.returns-in-Some
returns-in-Some g c =
    on_success c.mask_cell.result c.mask_cell.ensures (λ masked. ap (λ (x : TupleCell). set c.args.cells.now.items c.args.place x) masked
    ∙ cells_at _ c.args.place c.args.cells.now.items c.in-Some.cell.now c.in-Some.ensures.item.3.0 c.in-Some.ensures.item.1)

pub returns-in-None : goal.returns-in-None
returns-in-None g c = cells_past _ c.args.place c.args.cells.now.items c.in-None.ensures.item.3
