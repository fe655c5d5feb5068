use Rattle.std.proofs.Common.{sym, subst}
use Rattle.dbl_model_table.specs.declared.row.Key.{Key}
use Rattle.dbl_window.specs.Changing.{FitsRow}
use Rattle.dbl_window.proofs.CellLemmas.{row_fits}
use Rattle.dbl_window.proofs.reading.place_row.Goals as goal

pub returns-then-comes_after-clause-fits : goal.returns-then-comes_after-clause-fits
returns-then-comes_after-clause-fits c =
    subst (λ (k : Key). FitsRow c.args.info.now (k, record { cells = c.args.cells })) (sym c.in_ok-key.ensures) (row_fits c.args.info.now c.args.cells c.requires)
