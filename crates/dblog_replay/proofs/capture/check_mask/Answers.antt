use Rattle.std.proofs.Common.{◌≡◌, ◌∙◌, true, sym, inr, rules}
use Rattle.dbl_model_table.specs.Tables.{same_name}
use Rattle.dblog_replay.proofs.CaptureLemmas.{column_judged}
use Rattle.dblog_replay.proofs.capture.check_mask.Goals as goal

pub returns-in_ok-copy-in-Some-mask_fault-2 : goal.returns-in_ok-copy-in-Some-mask_fault-2
returns-in_ok-copy-in-Some-mask_fault-2 c =
    let same : same_name c.in-Some.masking.table c.args.raw.now.name ≡ true = search rules in
    inr (column_judged c.args.mask.now c.in-Some.masking c.args.raw.now c.in-Some-mask_fault.error c.in_ok-copy-in-Some-mask_fault.field-0
    c.in_ok-copy-in-Some-mask_fault-2.field-0 c.in-Some.is same (sym c.mask_fault.ensures ∙ c.in-Some-mask_fault.is)
    c.in_ok-copy-in-Some-mask_fault.ensures c.in_ok-copy-in-Some-mask_fault-2.ensures)
