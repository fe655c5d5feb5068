use Rattle.dbl_pgmsg.proofs.Fronts.{begins_same, begins_front, left_at}
use Rattle.dbl_pgmsg.proofs.encoding.write_logical.Goals as goal

pub returns-in_err-extend_from_slice-clause-kept : goal.returns-in_err-extend_from_slice-clause-kept
returns-in_err-extend_from_slice-clause-kept c = left_at c.from_residual.result (begins_same _ _ c.in_err-extend_from_slice.ensures.items)

pub returns-in_err-int64-clause-kept : goal.returns-in_err-int64-clause-kept
returns-in_err-int64-clause-kept c = left_at c.from_residual-in_err-int64.result (begins_front _ _ _ _ c.in_ok-extend_from_slice.ensures.items
    c.in_err-int64.ensures.kept)

pub returns-in_err-string-clause-kept : goal.returns-in_err-string-clause-kept
returns-in_err-string-clause-kept c = left_at c.from_residual-in_err-string.result (begins_front _ _ _ _ c.in_ok-extend_from_slice.ensures.items
    (begins_front _ _ _ _ c.in_ok-int64.ensures.written c.in_err-string.ensures.kept))

pub returns-in_err-int32-clause-kept : goal.returns-in_err-int32-clause-kept
returns-in_err-int32-clause-kept c = left_at c.from_residual-in_err-int32.result (begins_front _ _ _ _ c.in_ok-extend_from_slice.ensures.items
    (begins_front _ _ _ _ c.in_ok-int64.ensures.written (begins_front _ _ _ _ c.in_ok-string.ensures.written c.in_err-int32.ensures.kept)))
