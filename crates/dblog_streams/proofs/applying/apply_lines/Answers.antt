use Rattle.std.proofs.Common.{Err, ap}
use Rattle.dblog_streams.proofs.ApplyRunLemmas.{halt_applies, apply_said}
use Rattle.dblog_streams.proofs.applying.apply_lines.Goals as goal

pub returns-in-Err-clause-told : goal.returns-in-Err-clause-told
returns-in-Err-clause-told g c = λ bytes told.
    halt_applies c.args.placeholder bytes c.in-Err.halt _ _ _ _ _ (c.in-Err.ensures.applying bytes c.args.placeholder told) (λ is. c.in-Err.ensures.failed (ap Err is)) c.say.ensures.says

pub returns-in-Err-clause-known : goal.returns-in-Err-clause-known
returns-in-Err-clause-known g c = apply_said c.in-Err.halt _ _ _ c.in-Err.ensures.kinds c.say.ensures.says
