use Rattle.dblog_streams.specs.Generates.{made}
use Rattle.dblog_streams.proofs.AnswerLemmas.{starved}
use Rattle.dblog_streams.proofs.generating.print_workload.Goals as goal

pub returns-in-Err-clause-ends : goal.returns-in-Err-clause-ends
returns-in-Err-clause-ends g c = starved (made c.args.number c.args.rows c.args.groups) _ _ _ c.say.ensures.says
