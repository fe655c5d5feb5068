use Rattle.std.proofs.Common.{◌∙◌, ◌++◌, ap, append_assoc, codes, false}
use Rattle.std.proofs.lemmas.Result.{IfOk-weaker}
use Rattle.dbl_consume.specs.RowTexts.{cells_tail}
use Rattle.dbl_consume.proofs.PrintingLemmas.{row_is}
use Rattle.dbl_consume.proofs.printing.append_row.Goals as goal

pub returns : goal.returns
returns c =
    let cells = c.args.row.now.entries in
    IfOk-weaker c.append_cells.result _ _ (λ done is.
    is ∙ ap (λ t. t ++ cells_tail false cells) c.in_ok-extend_from_slice.ensures.items ∙ append_assoc c.args.out.items (codes "{") (cells_tail false cells) ∙ ap (λ t. c.args.out.items ++ t) (row_is cells)) c.append_cells.ensures
