use Rattle.std.proofs.Common.{◌∙◌, sym}
use Rattle.dblog_capture_text.proofs.EndStatuses.{error_no_output}
use Rattle.dblog_capture_text.proofs.finishing.say_error.Goals as goal

pub write_text-requires : goal.write_text-requires
write_text-requires g c = λ same. error_no_output c.args.error (sym c.error_status-status.ensures ∙ same)
