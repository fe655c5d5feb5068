use Rattle.dbl_pgmsg.specs.Grammar.{spelling}
use Rattle.dbl_pgmsg.proofs.Fronts.{begins_same, begins_front, two_steps, last_step, last_left, left_at}
use Rattle.dbl_pgmsg.proofs.encoding.write_delete.Goals as goal

pub returns-in_err-extend_from_slice-clause-kept : goal.returns-in_err-extend_from_slice-clause-kept
returns-in_err-extend_from_slice-clause-kept c = left_at c.from_residual.result (begins_same _ _ c.in_err-extend_from_slice.ensures.items)

pub returns-in_err-int32-clause-kept : goal.returns-in_err-int32-clause-kept
returns-in_err-int32-clause-kept c = left_at c.from_residual-in_err-int32.result (begins_front _ _ _ _ c.in_ok-extend_from_slice.ensures.items
    c.in_err-int32.ensures.kept)

pub returns-clause-written : goal.returns-clause-written
unfolding spelling
returns-clause-written c = last_step c.write_old.result c.args.out.now.items _ c.int32.new.out.items _ _
    (two_steps c.args.out.now.items _ c.extend_from_slice.new.self.items _ c.int32.new.out.items
    c.in_ok-extend_from_slice.ensures.items c.in_ok-int32.ensures.written) c.write_old.ensures.written

pub returns-clause-kept : goal.returns-clause-kept
returns-clause-kept c = last_left c.write_old.result _ _ _ _ c.in_ok-extend_from_slice.ensures.items
    (last_left c.write_old.result _ _ _ _ c.in_ok-int32.ensures.written c.write_old.ensures.kept)
