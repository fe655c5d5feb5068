use Rattle.dbl_pgmsg.specs.Grammar.{spelling}
use Rattle.dbl_pgmsg.proofs.Fronts.{begins_same, begins_front, two_steps, last_step, last_left, left_at}
use Rattle.dbl_pgmsg.proofs.encoding.write_commit.Goals as goal

pub returns-in_err-extend_from_slice-clause-kept : goal.returns-in_err-extend_from_slice-clause-kept
returns-in_err-extend_from_slice-clause-kept c = left_at c.from_residual.result (begins_same _ _ c.in_err-extend_from_slice.ensures.items)

pub returns-in_err-int64-clause-kept : goal.returns-in_err-int64-clause-kept
returns-in_err-int64-clause-kept c = left_at c.from_residual-in_err-int64.result (begins_front _ _ _ _ c.in_ok-extend_from_slice.ensures.items
    c.in_err-int64.ensures.kept)

pub returns-in_err-int64-2-clause-kept : goal.returns-in_err-int64-2-clause-kept
returns-in_err-int64-2-clause-kept c = left_at c.from_residual-in_err-int64-2.result (begins_front _ _ _ _ c.in_ok-extend_from_slice.ensures.items
    (begins_front _ _ _ _ c.in_ok-int64.ensures.written c.in_err-int64-2.ensures.kept))

pub returns-clause-written : goal.returns-clause-written
unfolding spelling
returns-clause-written c = last_step c.signed64.result c.args.out.now.items _ c.int64-2.new.out.items _ _
    (two_steps c.args.out.now.items _ c.int64.new.out.items _ c.int64-2.new.out.items
    (two_steps c.args.out.now.items _ c.extend_from_slice.new.self.items _ c.int64.new.out.items
    c.in_ok-extend_from_slice.ensures.items c.in_ok-int64.ensures.written) c.in_ok-int64-2.ensures.written) c.signed64.ensures.written

pub returns-clause-kept : goal.returns-clause-kept
returns-clause-kept c = last_left c.signed64.result _ _ _ _ c.in_ok-extend_from_slice.ensures.items
    (last_left c.signed64.result _ _ _ _ c.in_ok-int64.ensures.written (last_left c.signed64.result _ _ _ _ c.in_ok-int64-2.ensures.written
    c.signed64.ensures.kept))
