use Rattle.dbl_topic.proofs.LogLaws as logs
use Rattle.dbl_topic.proofs.laws.logs_or_faults.Goals as goal

pub returns-clause-not_bad : goal.returns-clause-not_bad
returns-clause-not_bad c = logs.not_bad

pub returns-clause-not_faulty : goal.returns-clause-not_faulty
returns-clause-not_faulty c = logs.not_faulty

pub returns-clause-one_cause : goal.returns-clause-one_cause
returns-clause-one_cause c = logs.one_cause

pub returns-clause-one_entry : goal.returns-clause-one_entry
returns-clause-one_entry c = logs.one_entry
