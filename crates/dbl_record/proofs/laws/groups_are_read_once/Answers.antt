use Rattle.dbl_record.proofs.GroupLaws as groups
use Rattle.dbl_record.proofs.laws.groups_are_read_once.Goals as goal

pub returns-clause-one_group : goal.returns-clause-one_group
returns-clause-one_group c = groups.one_group

pub returns-clause-one_form : goal.returns-clause-one_form
returns-clause-one_form c = groups.one_form
