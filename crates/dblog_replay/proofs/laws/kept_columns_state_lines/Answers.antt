use Rattle.dblog_replay.proofs.CommitLaws.{kept_state}
use Rattle.dblog_replay.proofs.laws.kept_columns_state_lines.Goals as goal

pub returns : goal.returns
returns c = kept_state
