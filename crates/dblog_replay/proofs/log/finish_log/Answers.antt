use Rattle.std.proofs.Common.{Err, ◌++◌, ap}
use Rattle.dblog_replay.specs.Log.{end_lines}
use Rattle.dblog_replay.proofs.LogPrintLemmas.{end_cut, finish_cut}
use Rattle.dblog_replay.proofs.log.finish_log.Goals as goal

pub returns-in-Ok-finish-clause-ends : goal.returns-in-Ok-finish-clause-ends
returns-in-Ok-finish-clause-ends g c =
    (c.in-Ok.ensures.status, λ start earlier begun. c.in-Ok-finish.ensures.prints start (earlier ++ end_lines c.args.fault.now) (c.in-Ok.ensures.puts start earlier begun))

pub returns-in-Err-clause-ends : goal.returns-in-Err-clause-ends
returns-in-Err-clause-ends g c = end_cut c.args.fault.now c.args.lines c.in-Err.error _ _ c.in-Err.ensures.puts (λ is. c.in-Err.ensures.unwritten (ap Err is))

pub returns-in-Err-finish-clause-ends : goal.returns-in-Err-finish-clause-ends
returns-in-Err-finish-clause-ends g c =
    finish_cut c.args.fault.now c.args.lines c.in-Err-finish.error _ _ c.in-Err-finish.ensures.prefix.0
    (λ start earlier begun. c.in-Err-finish.ensures.prints start (earlier ++ end_lines c.args.fault.now) (c.in-Ok.ensures.puts start earlier begun))
