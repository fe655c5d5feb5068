use Rattle.dblog_streams.proofs.AnswerLemmas.{starved}
use Rattle.dblog_streams.proofs.ApplyRunLemmas.{says_memory}
use Rattle.dblog_streams.proofs.applying.say_fault.Goals as goal

pub returns-in-Err : goal.returns-in-Err
returns-in-Err g c = record {
  told = λ other. starved _ c.say-in-Err.result _ _ c.say-in-Err.ensures.says;
  memory = λ is. c.say-in-Err.ensures.says;
  output_failed = c.say-in-Err.ensures.output_failed;
  known = says_memory c.say-in-Err.result _ _ c.say-in-Err.ensures.says;
}
