use Rattle.std.proofs.Common.{List, refl, sym, subst}
use Rattle.dbl_pgmsg.specs.declared.messages.Message.{Message}
use Rattle.dbl_tables_rows.specs.Acts.Accepted.{Committed}
use Rattle.dbl_tables.specs.Stands.{IsGiven}
use Rattle.dbl_tables.proofs.EndLemmas.{committed, given, not_open, nothing_taken, unmoved}
use Rattle.dbl_tables.proofs.tables.Tables.commit.Goals as goal

pub returns-in_default-clause-ends : goal.returns-in_default-clause-ends
returns-in_default-clause-ends c tables past st =
    let new = record c.args.self.now { sessions = c.remove.new.self } in (
      not_open tables past c.args.session.now c.args.self.now new st c.in_default.ensures.updates.0 c.in_default.ensures.value (Committed c.args.session.now),
      unmoved tables past c.args.self.now new st refl (nothing_taken tables past c.args.session.now c.args.self.now new st c.in_default.ensures.updates.0 c.in_default.ensures.value),
    )

pub returns-clause-ends : goal.returns-clause-ends
returns-clause-ends c tables past st =
    committed tables past c.args.session.now c.args.self.now (record c.args.self.now { tables = c.commit_tables.new.tables; sessions = c.remove.new.self }) st c.in-Some.ensures.updates.0 c.in-Some.ended c.in-Some.ensures.value
    c.as_slice.result.now c.as_slice.ensures.value c.commit_tables.ensures

pub returns-clause-given : goal.returns-clause-given
returns-clause-given c tables past st =
    subst (λ (l : List Message). IsGiven past c.args.session.now l) (sym c.make.ensures)
    (given tables past c.args.session.now c.args.self.now (record c.args.self.now { tables = c.commit_tables.new.tables; sessions = c.remove.new.self }) st c.in-Some.ensures.updates.0 c.in-Some.ended c.in-Some.ensures.value)
