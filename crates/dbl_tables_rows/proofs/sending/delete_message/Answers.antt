use Rattle.std.proofs.Common.{◌≡◌, sym, subst}
use Rattle.std.specs.List.{AllByRecursion}
use Rattle.dbl_pgmsg.specs.declared.messages.OldTuple.{OldTuple}
use Rattle.dbl_tables_rows.specs.Sending.{old_tuple}
use Rattle.dbl_tables_rows.specs.Given.{IsUtf8Cell, IsUtf8Old, old_tuple_cells}
use Rattle.dbl_tables_rows.proofs.Utf8Lemmas.{old_is_utf8}
use Rattle.dbl_tables_rows.proofs.sending.delete_message.Goals as goal

pub returns-clause-utf8 : goal.returns-clause-utf8
returns-clause-utf8 c few =
    let is : c.in_ok-old_tuple.field-0 ≡ old_tuple c.args.table.now c.args.before.now.cells = c.in_ok-old_tuple.ensures.old in
    (c.ranges.oid.fits, subst IsUtf8Old (sym is) (old_is_utf8 c.args.table.now c.args.before.now.cells few (subst (λ (b : OldTuple). AllByRecursion IsUtf8Cell (old_tuple_cells b)) is c.in_ok-old_tuple.ensures.utf8)))
