use Rattle.std.proofs.Common.{◌∙◌, sym}
use Rattle.dblog_run_stores.proofs.FinishLemmas.{no_output_status}
use Rattle.dblog_run_stores.proofs.stores.say_error.Goals as goal

pub write_text-requires : goal.write_text-requires
write_text-requires g c = λ same. no_output_status c.args.error c.requires (sym c.status.ensures ∙ same)
