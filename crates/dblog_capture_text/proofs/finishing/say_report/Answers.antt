use Rattle.std.proofs.Common.{◌∙◌, sym}
use Rattle.dblog_capture_text.proofs.EndStatuses.{ending_no_output}
use Rattle.dblog_capture_text.proofs.finishing.say_report.Goals as goal

pub write_text-requires : goal.write_text-requires
write_text-requires g c = λ same. ending_no_output c.args.summary.ending (sym c.ending_status.ensures ∙ same)
