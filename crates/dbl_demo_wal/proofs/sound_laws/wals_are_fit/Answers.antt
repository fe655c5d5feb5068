use Rattle.dbl_demo_wal.proofs.FitLaws.{wal_is_fit, wal_has_fit_history}
use Rattle.dbl_demo_wal.proofs.sound_laws.wals_are_fit.Goals as goal

pub returns-clause-log : goal.returns-clause-log
returns-clause-log c = wal_is_fit

pub returns-clause-history : goal.returns-clause-history
returns-clause-history c = wal_has_fit_history
