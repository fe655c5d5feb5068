use Rattle.dblog_replay.proofs.PieceLemmas.{messages_spelled}
use Rattle.dblog_replay.proofs.laws.messages_are_spelled.Goals as goal

pub returns : goal.returns
returns c = messages_spelled
