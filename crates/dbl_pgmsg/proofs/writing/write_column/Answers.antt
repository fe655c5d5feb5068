use Rattle.dbl_pgmsg.specs.Grammar.{column}
use Rattle.dbl_pgmsg.proofs.Fronts.{begins_same, begins_front, two_steps, last_step, last_left, left_at}
use Rattle.dbl_pgmsg.proofs.writing.write_column.Goals as goal

pub returns-in_err-extend_from_slice-clause-kept : goal.returns-in_err-extend_from_slice-clause-kept
returns-in_err-extend_from_slice-clause-kept c = left_at c.from_residual.result (begins_same _ _ c.in_err-extend_from_slice.ensures.items)

pub returns-in_err-string-clause-kept : goal.returns-in_err-string-clause-kept
returns-in_err-string-clause-kept c = left_at c.from_residual-in_err-string.result (begins_front _ _ _ _ c.in_ok-extend_from_slice.ensures.items
    c.in_err-string.ensures.kept)

pub returns-in_err-int32-clause-kept : goal.returns-in_err-int32-clause-kept
returns-in_err-int32-clause-kept c = left_at c.from_residual-in_err-int32.result (begins_front _ _ _ _ c.in_ok-extend_from_slice.ensures.items
    (begins_front _ _ _ _ c.in_ok-string.ensures.written c.in_err-int32.ensures.kept))

pub returns-clause-written : goal.returns-clause-written
unfolding column
returns-clause-written c = last_step c.signed32.result c.args.out.now.items _ c.int32.new.out.items _ _
    (two_steps c.args.out.now.items _ c.string.new.out.items _ c.int32.new.out.items
    (two_steps c.args.out.now.items _ c.extend_from_slice.new.self.items _ c.string.new.out.items
    c.in_ok-extend_from_slice.ensures.items c.in_ok-string.ensures.written) c.in_ok-int32.ensures.written) c.signed32.ensures.written

pub returns-clause-kept : goal.returns-clause-kept
returns-clause-kept c = last_left c.signed32.result _ _ _ _ c.in_ok-extend_from_slice.ensures.items
    (last_left c.signed32.result _ _ _ _ c.in_ok-string.ensures.written (last_left c.signed32.result _ _ _ _ c.in_ok-int32.ensures.written
    c.signed32.ensures.kept))
