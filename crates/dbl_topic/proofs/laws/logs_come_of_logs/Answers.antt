use Rattle.dbl_journal.proofs.Growth.{told_from}
use Rattle.dbl_topic.proofs.HeldLaws.{has_groups, log_grown}
use Rattle.dbl_topic.proofs.laws.logs_come_of_logs.Goals as goal

pub returns-clause-told : goal.returns-clause-told
returns-clause-told g c old new groups comes held = told_from g.D.Disk old new held.entries comes.journal held.lists

pub returns-clause-grown : goal.returns-clause-grown
returns-clause-grown g c old new groups before after comes held was told = log_grown g.D.Disk old new groups before after comes.journal held was told

pub returns-clause-holds : goal.returns-clause-holds
returns-clause-holds g c old new groups comes held live = (comes.groups (has_groups g.D.Disk old groups held)).holds live

pub returns-clause-leaves : goal.returns-clause-leaves
returns-clause-leaves g c old new groups comes held = (comes.groups (has_groups g.D.Disk old groups held)).leaves
