use Rattle.dbl_model_history.proofs.RowKeys.{fit_rows}
use Rattle.dbl_model_history.proofs.laws.fit_rows_are_rows.Goals as goal

pub returns : goal.returns
returns c = fit_rows
