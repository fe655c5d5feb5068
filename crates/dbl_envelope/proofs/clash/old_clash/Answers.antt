use Rattle.std.proofs.Common.{◌∙◌, Option, sym, ap}
use Rattle.dbl_model_table.specs.declared.row.Row.{Row}
use Rattle.dbl_model_table.specs.Tables.{column_names}
use Rattle.dbl_model_event.specs.Clashes.{clash_among, old_cells}
use Rattle.dbl_envelope.proofs.ClashLemmas.{none_among}
use Rattle.dbl_envelope.proofs.clash.old_clash.Goals as goal

pub returns-in-None : goal.returns-in-None
returns-in-None c =
    let p = c.args.placeholder.now in
    let names = column_names c.args.columns.now in
    sym (ap (λ (o : Option Row). clash_among p names (old_cells o)) c.in-None.is ∙ none_among p names)
