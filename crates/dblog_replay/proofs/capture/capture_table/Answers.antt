use Rattle.std.proofs.Common.{◌∙◌, inr, arith}
use Rattle.std.proofs.lemmas.Result.{err_from_is_err_and}
use Rattle.dblog_replay.proofs.CaptureLemmas.{entry_fails, capture_full, capture_left, column_fails}
use Rattle.dblog_replay.proofs.capture.capture_table.Goals as goal

pub returns-in_err-info-clause-fault : goal.returns-in_err-info-clause-fault
returns-in_err-info-clause-fault c =
    let p = err_from_is_err_and c.from_residual.result c.from_residual.ensures.1 in
    rw (p.1, p.2) (entry_fails c.args.mask.now c.args.count c.args.raw.now c.in_err-info.field-0.0 c.in_err-info.ensures.fault)

pub returns-then-count-ge-TABLE_LIMIT-clause-fault : goal.returns-then-count-ge-TABLE_LIMIT-clause-fault
returns-then-count-ge-TABLE_LIMIT-clause-fault c = inr (capture_full c.args.mask.now c.args.count c.args.raw.now c.in_ok-info.ensures.fault (omega arith))

pub returns-in_err-check_mask-clause-fault : goal.returns-in_err-check_mask-clause-fault
returns-in_err-check_mask-clause-fault c =
    let p = err_from_is_err_and c.from_residual-in_err-check_mask.result c.from_residual-in_err-check_mask.ensures.1 in
    rw (p.1, p.2)
    (column_fails c.args.mask.now c.args.count c.args.raw.now c.in_err-check_mask.field-0.0 c.in_ok-info.ensures.fault (omega arith) c.in_err-check_mask.ensures)

pub returns-clause-fault : goal.returns-clause-fault
returns-clause-fault c = capture_left c.args.mask.now c.args.count c.args.raw.now c.in_ok-info.ensures.fault (omega arith) ∙ c.in_ok-check_mask.ensures
