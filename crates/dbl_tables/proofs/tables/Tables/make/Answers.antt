use Rattle.dbl_tables.proofs.MadeLemmas.{stands_made}
use Rattle.dbl_tables.proofs.tables.Tables.make.Goals as goal

pub returns-clause-stands : goal.returns-clause-stands
returns-clause-stands c =
    stands_made c.args.tables.items (record { alloc = c.args.alloc; tables = c.in_ok-make_tables.field-0; sessions = c.new.result }) (record { few = c.requires.few; distinct = c.requires.distinct })
    c.in_ok-make_tables.ensures.made c.new.ensures.empty
