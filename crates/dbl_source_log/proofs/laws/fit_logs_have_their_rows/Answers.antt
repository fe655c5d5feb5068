use Rattle.dbl_source_log.proofs.FitLogLemmas.{their_rows}
use Rattle.dbl_source_log.proofs.laws.fit_logs_have_their_rows.Goals as goal

pub returns : goal.returns
returns c = their_rows
