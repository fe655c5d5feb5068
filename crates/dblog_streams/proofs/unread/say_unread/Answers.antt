use Rattle.dblog_streams.proofs.AnswerLemmas.{starved}
use Rattle.dblog_streams.proofs.unread.say_unread.Goals as goal
use Rattle.dblog_streams.specs.Streaming.{unread_answer}

pub returns-in-Err-clause-told : goal.returns-in-Err-clause-told
returns-in-Err-clause-told g c = starved (unread_answer c.args.unread) _ _ _ c.say.ensures.says
