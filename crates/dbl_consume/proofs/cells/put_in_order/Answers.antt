use Rattle.std.proofs.Common.{◌≡◌, ◌∙◌, true, sym, ap}
use Rattle.dbl_consume.specs.Cells.{names_ascend, cells_data}
use Rattle.dbl_consume.proofs.CellLemmas.{put_ascending}
use Rattle.dbl_consume.proofs.cells.put_in_order.Goals as goal

pub returns-then-names_ascend : goal.returns-then-names_ascend
returns-then-names_ascend c =
    let in_order : names_ascend (cells_data c.args.cells.items) ≡ true = ap (λ l. names_ascend (cells_data l)) (sym c.as_slice.ensures.value) ∙ sym c.names_ascend.ensures ∙ c.if-names_ascend.true in
    sym (put_ascending (cells_data c.args.cells.items) in_order)
