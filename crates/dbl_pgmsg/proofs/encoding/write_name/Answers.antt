use Rattle.dbl_pgmsg.proofs.Fronts.{begins_front, two_steps, last_step, last_left, left_at}
use Rattle.dbl_pgmsg.proofs.encoding.write_name.Goals as goal

pub returns-in_err-int32-clause-kept : goal.returns-in_err-int32-clause-kept
returns-in_err-int32-clause-kept c = left_at c.from_residual.result c.in_err-int32.ensures.kept

pub returns-in_err-string-clause-kept : goal.returns-in_err-string-clause-kept
returns-in_err-string-clause-kept c = left_at c.from_residual-in_err-string.result (begins_front _ _ _ _ c.in_ok-int32.ensures.written
    c.in_err-string.ensures.kept)

pub returns-clause-written : goal.returns-clause-written
returns-clause-written c = last_step c.string-2.result c.args.out.now.items _ c.string.new.out.items _ _
    (two_steps c.args.out.now.items _ c.int32.new.out.items _ c.string.new.out.items
    c.in_ok-int32.ensures.written c.in_ok-string.ensures.written) c.string-2.ensures.written

pub returns-clause-kept : goal.returns-clause-kept
returns-clause-kept c = last_left c.string-2.result _ _ _ _ c.in_ok-int32.ensures.written
    (last_left c.string-2.result _ _ _ _ c.in_ok-string.ensures.written c.string-2.ensures.kept)
