-- Bytes have one answer of `apply --lines`.
use Rattle.std.proofs.Common.{◌≡◌, ◌∙◌, map, sym, ap, arith}
use Rattle.dbl_base.specs.Lines.{lines_of}
use Rattle.dbl_record.specs.Consumers.{consumer_of}
use Rattle.dbl_consume.specs.Printing.{row_line}
use Rattle.dbl_consume.proofs.RowLemmas.{rows_are_one}
use Rattle.dblog_replay.specs.Apply.{readings_of_lines}
use Rattle.dblog_streams.specs.Answers.{done}
use Rattle.dblog_streams.specs.Applies.{line_fault, long_input, refused, applied, ApplyAnswersAreOne}

-- bytes have one answer
pub applies_one : ApplyAnswersAreOne
applies_one placeholder bytes a b (long_input long is) (long_input long' is') = is ∙ sym is'
applies_one placeholder bytes a b (long_input long is) (refused at within found is') = absurd (omega arith)
applies_one placeholder bytes a b (long_input long is) (applied rows within (none, are) is') = absurd (omega arith)
applies_one placeholder bytes a b (refused at within found is) (long_input long is') = absurd (omega arith)
applies_one placeholder bytes a b (refused at within found is) (refused other within' found' is') =
    let same : at ≡ other = cc in
    is ∙ ap line_fault same ∙ sym is'
applies_one placeholder bytes a b (refused at within found is) (applied rows within' (none, are) is') = cc
applies_one placeholder bytes a b (applied rows within (none, are) is) (long_input long is') = absurd (omega arith)
applies_one placeholder bytes a b (applied rows within (none, are) is) (refused at within' found is') = cc
applies_one placeholder bytes a b (applied rows within (none, are) is) (applied others within' (none', are') is') =
    is ∙ ap (λ rs. done (map row_line rs)) (rows_are_one (consumer_of placeholder (readings_of_lines (lines_of bytes))) rows others are are') ∙ sym is'
