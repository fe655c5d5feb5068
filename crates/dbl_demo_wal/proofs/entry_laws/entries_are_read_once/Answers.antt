use Rattle.dbl_demo_wal.proofs.EntryLaws.{one_entry, form_spells}
use Rattle.dbl_demo_wal.proofs.entry_laws.entries_are_read_once.Goals as goal

pub returns-clause-one : goal.returns-clause-one
returns-clause-one c = one_entry

pub returns-clause-spelled : goal.returns-clause-spelled
returns-clause-spelled c = form_spells
