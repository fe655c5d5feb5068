use Rattle.std.proofs.Common.{[], refl}
use Rattle.dbl_lines.proofs.WritingLemmas.{wrote_none}
use Rattle.dblog_replay.specs.Masked.{masked_pieces}
use Rattle.dblog_replay.proofs.LogPrintLemmas.{fails_log, ended_log}
use Rattle.dblog_replay.proofs.log.print_log.Goals as goal

pub returns-in-Err-clause-prints : goal.returns-in-Err-clause-prints
returns-in-Err-clause-prints g c = λ pieces read lines end writes. (0, wrote_none (g.O.Output.written c.args.output.now) [] refl)

pub returns-in-Err-put_log-clause-prints : goal.returns-in-Err-put_log-clause-prints
returns-in-Err-put_log-clause-prints g c =
    λ pieces read lines end writes. fails_log lines end c.in-Ok.lines c.in-Err-put_log.error _ _ c.in-Ok.ensures
    (c.in-Err-put_log.ensures.puts pieces read lines end writes)

pub returns-in-Ok-put_log-clause-prints : goal.returns-in-Ok-put_log-clause-prints
returns-in-Ok-put_log-clause-prints g c =
    λ pieces read. ended_log c.args.options c.args.now_ms.now (masked_pieces c.args.options.mask [] pieces) c.in-Ok.lines _ _ _ _ _ _ c.in-Ok.ensures
    (c.in-Ok-put_log.ensures.puts pieces read) c.finish_log-result.ensures.ends
