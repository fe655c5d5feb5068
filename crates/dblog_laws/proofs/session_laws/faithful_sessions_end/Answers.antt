use Rattle.dblog_laws.proofs.Contract.{faithful_sessions_end}
use Rattle.dblog_laws.proofs.session_laws.faithful_sessions_end.Goals as goal

pub returns : goal.returns
returns g c =
    faithful_sessions_end g.S.Source g.K.Sink g.D.Disk g.met.S.Source.rising g.met.S.Source.may g.met.S.Source.fit g.met.K.Sink.may g.met.D.Disk.seen_may_be_left
