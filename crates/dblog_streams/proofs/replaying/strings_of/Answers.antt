use Rattle.std.proofs.Common.{◌∙◌, Ok, Err, sym, ap}
use Rattle.dbl_base.specs.Lines.{lines_of}
use Rattle.dblog_replay.specs.Lines.{first_bad_line, message_bytes_in}
use Rattle.dblog_streams.specs.Inputs.{good_lines, encoded}
use Rattle.dblog_streams.proofs.ErrorLemmas.{line_halts, line_no_failure, line_no_usage}
use Rattle.dblog_streams.proofs.replaying.strings_of.Goals as goal

pub returns-in-Ok-clause-encodes : goal.returns-in-Ok-clause-encodes
returns-in-Ok-clause-encodes c =
    let text = c.as_slice.ensures.value ∙ c.items.ensures in
    encoded c.requires
    (good_lines (ap (λ text. first_bad_line (lines_of text)) (sym text) ∙ c.in-Ok.ensures.good)
    (ap Ok (c.in-Ok.ensures.ok ∙ ap (λ text. message_bytes_in (lines_of text)) text)))

pub returns-clause-halts : goal.returns-clause-halts
returns-clause-halts c =
    let text = c.as_slice.ensures.value ∙ c.items.ensures in
    line_halts c.args.text c.in-Err.error _ c.line_error.ensures c.requires
    (λ number is. ap (λ text. first_bad_line (lines_of text)) (sym text) ∙ c.in-Err.ensures.bad number (ap Err is))

pub returns-clause-kinds : goal.returns-clause-kinds
returns-clause-kinds c = line_no_failure c.in-Err.error _ c.line_error.ensures

pub returns-clause-command : goal.returns-clause-command
returns-clause-command c = line_no_usage c.in-Err.error _ c.line_error.ensures
