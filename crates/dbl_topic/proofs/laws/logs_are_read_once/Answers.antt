use Rattle.dbl_topic.specs.SinkLaws.{one_log}
use Rattle.dbl_topic.proofs.LogLaws.{one_records}
use Rattle.dbl_topic.proofs.laws.logs_are_read_once.Goals as goal

pub returns-clause-groups : goal.returns-clause-groups
returns-clause-groups c = one_log

pub returns-clause-records : goal.returns-clause-records
returns-clause-records c = one_records
