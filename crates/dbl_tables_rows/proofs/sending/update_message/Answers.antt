use Rattle.std.proofs.Common.{◌≡◌, Option, length, sym, ap, subst, arith}
use Rattle.std.specs.Prelude.{IfSome}
use Rattle.std.specs.List.{AllByRecursion}
use Rattle.dbl_pgmsg.specs.declared.messages.OldTuple.{OldTuple}
use Rattle.dbl_pgmsg.specs.declared.messages.Tuple.{Tuple}
use Rattle.dbl_tables_rows.specs.Sending.{raw_of, optional_old}
use Rattle.dbl_tables_rows.specs.Given.{IsUtf8Cell, IsUtf8OldIfAny, old_tuple_cells}
use Rattle.dbl_tables_rows.proofs.Utf8Lemmas.{optional_is_utf8, new_cells_few}
use Rattle.dbl_tables_rows.proofs.sending.update_message.Goals as goal

pub returns-clause-utf8 : goal.returns-clause-utf8
returns-clause-utf8 c few =
    let is : c.in_ok-optional_old.field-0 ≡ optional_old c.args.table.now c.in_ok-moved.moved c.args.before.now.cells = c.in_ok-optional_old.ensures.old in
    let count = ap (λ (t : Tuple). length t.cells) c.in_ok-new_tuple.ensures.tuple in
    let less = new_cells_few c.args.table.now (raw_of c.args.table.now).columns c.args.before.now.cells c.args.row.now.cells in (
      c.ranges.oid.fits,
      subst IsUtf8OldIfAny (sym is) (optional_is_utf8 c.args.table.now c.in_ok-moved.moved c.args.before.now.cells few (subst (λ (o : Option OldTuple). IfSome o (λ b. AllByRecursion IsUtf8Cell (old_tuple_cells b))) is c.in_ok-optional_old.ensures.utf8)),
      record { count = omega (arith, count, less, few); each = c.in_ok-new_tuple.ensures.utf8 },
    )
