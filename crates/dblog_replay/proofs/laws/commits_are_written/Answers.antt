use Rattle.dblog_replay.proofs.CommitLaws.{commits_are_written}
use Rattle.dblog_replay.proofs.laws.commits_are_written.Goals as goal

pub returns : goal.returns
returns c = commits_are_written
