use Rattle.dbl_demo_wal.proofs.WalLaws as wals
use Rattle.dbl_demo_wal.proofs.sound_laws.wals_or_faults.Goals as goal

pub returns-clause-no_fault : goal.returns-clause-no_fault
returns-clause-no_fault c = wals.no_fault

pub returns-clause-not_bad : goal.returns-clause-not_bad
returns-clause-not_bad c = wals.not_bad

pub returns-clause-not_both : goal.returns-clause-not_both
returns-clause-not_both c = wals.not_both

pub returns-clause-one_bad : goal.returns-clause-one_bad
returns-clause-one_bad c = wals.one_bad
