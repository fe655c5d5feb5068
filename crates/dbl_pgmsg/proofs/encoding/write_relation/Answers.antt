use Rattle.std.proofs.Common.{◌≡◌, ◌++◌, ◌∙◌, OnOk, length, flat_map, subst, arith}
use Rattle.dbl_pgmsg.specs.Grammar.{spelling, int16, column}
use Rattle.dbl_pgmsg.specs.Room.{Appends}
use Rattle.dbl_pgmsg.proofs.Fronts.{begins_same, begins_front, two_steps, last_step, last_left, left_at}
use Rattle.dbl_pgmsg.proofs.encoding.write_relation.Goals as goal

pub returns-in_err-extend_from_slice-clause-kept : goal.returns-in_err-extend_from_slice-clause-kept
returns-in_err-extend_from_slice-clause-kept c = left_at c.from_residual.result (begins_same _ _ c.in_err-extend_from_slice.ensures.items)

pub returns-in_err-write_name-clause-kept : goal.returns-in_err-write_name-clause-kept
returns-in_err-write_name-clause-kept c = left_at c.from_residual-in_err-write_name.result (begins_front _ _ _ _ c.in_ok-extend_from_slice.ensures.items
    c.in_err-write_name.ensures.kept)

pub returns-in_err-extend_from_slice-2-clause-kept : goal.returns-in_err-extend_from_slice-2-clause-kept
returns-in_err-extend_from_slice-2-clause-kept c =
    left_at c.from_residual-in_err-extend_from_slice-2.result (begins_front _ _ _ _ c.in_ok-extend_from_slice.ensures.items
    (begins_front _ _ _ _ c.in_ok-write_name.ensures.written (begins_same _ _ c.in_err-extend_from_slice-2.ensures.items)))

pub returns-in_err-int16-clause-kept : goal.returns-in_err-int16-clause-kept
returns-in_err-int16-clause-kept c = left_at c.from_residual-in_err-int16.result (begins_front _ _ _ _ c.in_ok-extend_from_slice.ensures.items
    (begins_front _ _ _ _ c.in_ok-write_name.ensures.written (begins_front _ _ _ _ c.in_ok-extend_from_slice-2.ensures.items
    c.in_err-int16.ensures.kept)))

pub returns-clause-written : goal.returns-clause-written
unfolding spelling
returns-clause-written c =
    let count : c.len.result ≡ length c.args.columns.now.items = c.len.ensures ∙ omega (arith, c.args.columns.now.ok) in
    let listed : OnOk c.write_columns.result (Appends c.int16.new.out.items (flat_map column c.args.columns.now.items) c.write_columns.new.out.items) =
    subst (λ l. OnOk c.write_columns.result (Appends c.int16.new.out.items (flat_map column l) c.write_columns.new.out.items))
    c.deref.ensures.value c.write_columns.ensures.written in
    last_step c.write_columns.result c.args.out.now.items _ c.int16.new.out.items _ _
    (two_steps c.args.out.now.items _ c.extend_from_slice-2.new.self.items _ c.int16.new.out.items
    (two_steps c.args.out.now.items _ c.write_name.new.out.items _ c.extend_from_slice-2.new.self.items
    (two_steps c.args.out.now.items _ c.extend_from_slice.new.self.items _ c.write_name.new.out.items
    c.in_ok-extend_from_slice.ensures.items c.in_ok-write_name.ensures.written) c.in_ok-extend_from_slice-2.ensures.items)
    (subst (λ n. c.int16.new.out.items ≡ c.extend_from_slice-2.new.self.items ++ int16 n) count c.in_ok-int16.ensures.written)) listed

pub returns-clause-kept : goal.returns-clause-kept
returns-clause-kept c = last_left c.write_columns.result _ _ _ _ c.in_ok-extend_from_slice.ensures.items
    (last_left c.write_columns.result _ _ _ _ c.in_ok-write_name.ensures.written
    (last_left c.write_columns.result _ _ _ _ c.in_ok-extend_from_slice-2.ensures.items
    (last_left c.write_columns.result _ _ _ _ c.in_ok-int16.ensures.written c.write_columns.ensures.kept)))
