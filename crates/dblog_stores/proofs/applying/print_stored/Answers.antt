use Rattle.dblog_stores.proofs.applying.print_stored.Goals as goal

pub returns-in-Some-clause-told : goal.returns-in-Some-clause-told
returns-in-Some-clause-told g c groups held = rw c.in-Some.is (c.print_listed.ensures.told groups held)
