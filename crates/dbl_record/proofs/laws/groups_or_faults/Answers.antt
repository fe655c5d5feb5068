use Rattle.dbl_record.proofs.GroupLaws as groups
use Rattle.dbl_record.proofs.laws.groups_or_faults.Goals as goal

pub returns-clause-one_of : goal.returns-clause-one_of
returns-clause-one_of c = groups.either

pub returns-clause-not_both : goal.returns-clause-not_both
returns-clause-not_both c = groups.not_both

pub returns-clause-one_place : goal.returns-clause-one_place
returns-clause-one_place c = groups.one_place
