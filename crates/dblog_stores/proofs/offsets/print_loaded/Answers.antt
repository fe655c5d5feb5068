use Rattle.dblog_stores.proofs.offsets.print_loaded.Goals as goal

pub returns-in-Some-clause-told : goal.returns-in-Some-clause-told
returns-in-Some-clause-told g c = rw c.in-Some.is c.print_text.ensures.told
