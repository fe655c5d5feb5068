use Rattle.dblog_run_stores.proofs.FinishLemmas.{error_finishes, output_finishes}
use Rattle.dblog_run_stores.proofs.stores.end_with.Goals as goal

pub returns-in-OutputFailed-clause-finishes : goal.returns-in-OutputFailed-clause-finishes
returns-in-OutputFailed-clause-finishes g c = output_finishes c.args.error _ c.in-OutputFailed.is

pub returns-in_default-clause-finishes : goal.returns-in_default-clause-finishes
returns-in_default-clause-finishes g c = error_finishes c.args.error c.say_error.result _ _ c.in_default.not-OutputFailed c.say_error.ensures.says
