use Rattle.std.proofs.Common.{◌∷◌, [], refl, subst}
use Rattle.dbl_lines.specs.Gathering.{Puts}
use Rattle.dbl_lines.proofs.PutLemmas.{line_starves}
use Rattle.dblog_replay.specs.LogFaults.{log_line}
use Rattle.dblog_replay.proofs.log.put_fault.Goals as goal

pub returns-in-Err-clause-puts : goal.returns-in-Err-clause-puts
returns-in-Err-clause-puts g c = line_starves (log_line c.args.fault.now ∷ []) c.args.lines.now _ (g.O.Output.written c.args.output.now) refl

pub returns-in-Ok-put-clause-puts : goal.returns-in-Ok-put-clause-puts
returns-in-Ok-put-clause-puts g c = subst (λ line. Puts (line ∷ []) c.args.lines.now c.put.new.self (g.O.Output.written c.args.output.now) (g.O.Output.written c.put.new.output)) c.in-Ok.ensures c.in-Ok-put.ensures.puts
