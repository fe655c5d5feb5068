use Rattle.dblog_replay.proofs.CommitLemmas.{one_put, none_to_put}
use Rattle.dblog_replay.proofs.log.put_ended.Goals as goal

pub returns-in-Some-clause-puts : goal.returns-in-Some-clause-puts
returns-in-Some-clause-puts g c = one_put _ _ c.args.ended.now c.in-Some.commit c.args.now_ms.now _ _ _ _ _ c.in-Some.is c.put_commit.ensures.puts

pub returns-in-None-clause-puts : goal.returns-in-None-clause-puts
returns-in-None-clause-puts g c = none_to_put c.args.writer.now.identity c.args.writer.now.infos c.args.ended.now c.args.now_ms.now c.args.lines.now (g.O.Output.written c.args.output.now) c.in-None.is
