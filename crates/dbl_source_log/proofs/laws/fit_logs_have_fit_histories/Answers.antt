use Rattle.dbl_source_log.proofs.FitLogLemmas.{fit_histories}
use Rattle.dbl_source_log.proofs.laws.fit_logs_have_fit_histories.Goals as goal

pub returns : goal.returns
returns c = fit_histories
