use Rattle.std.proofs.Common.{refl}
use Rattle.dbl_tables_rows.specs.Acts.Accepted.{RolledBack}
use Rattle.dbl_tables.proofs.EndLemmas.{rolled_back, not_open, nothing_taken, unmoved}
use Rattle.dbl_tables.proofs.tables.Tables.rollback.Goals as goal

pub returns-in_default : goal.returns-in_default
returns-in_default c tables past st =
    let new = record c.args.self.now { sessions = c.remove.new.self } in (
      not_open tables past c.args.session.now c.args.self.now new st c.in_default.ensures.updates.0 c.in_default.ensures.value (RolledBack c.args.session.now),
      unmoved tables past c.args.self.now new st refl (nothing_taken tables past c.args.session.now c.args.self.now new st c.in_default.ensures.updates.0 c.in_default.ensures.value),
    )

pub returns : goal.returns
returns c tables past st =
    rolled_back tables past c.args.session.now c.args.self.now (record c.args.self.now { tables = c.roll_back_tables.new.tables; sessions = c.remove.new.self }) st c.in-Some.ensures.updates.0 c.in-Some.ended c.in-Some.ensures.value
    c.as_slice.result.now c.as_slice.ensures.value c.roll_back_tables.ensures
