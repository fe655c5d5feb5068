use Rattle.std.proofs.Common.{List, [], sym, subst}
use Rattle.dbl_pgmsg.specs.declared.messages.Message.{Message}
use Rattle.dbl_tables.specs.Stands.{IsGiven}
use Rattle.dbl_tables.proofs.FirstLemmas.{commits_first, gives_first}
use Rattle.dbl_tables.proofs.first_rows.FirstRows.commit.Goals as goal

pub returns-clause-ends : goal.returns-clause-ends
returns-clause-ends c tables past after = commits_first tables past c.args.self after

pub returns-clause-given : goal.returns-clause-given
returns-clause-given c tables past after = subst (λ (l : List Message). IsGiven past [] l) (sym c.make.ensures) (gives_first tables past c.args.self after)
