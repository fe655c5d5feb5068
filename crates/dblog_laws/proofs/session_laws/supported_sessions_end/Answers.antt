use Rattle.dblog_laws.proofs.Ending.{supported_sessions_end}
use Rattle.dblog_laws.proofs.session_laws.supported_sessions_end.Goals as goal

pub returns : goal.returns
returns g c = supported_sessions_end g.S.Source.stands g.K.Sink.holds
