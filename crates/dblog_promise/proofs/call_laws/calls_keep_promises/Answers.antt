use Rattle.dblog_promise.proofs.Calling.{calls_keep_promises}
use Rattle.dblog_promise.proofs.call_laws.calls_keep_promises.Goals as goal

pub returns : goal.returns
returns g c = calls_keep_promises g.S.Source g.K.Sink g.D.Disk (λ source left may is. g.met.S.Source.fit source left may is)
