use Rattle.std.proofs.Common.{◌≡◌, IfOk, sym, subst}
use Rattle.dbl_lines.specs.Gathering.{Puts, PutsLines}
use Rattle.dbl_lines.proofs.PutLemmas.{no_lines}
use Rattle.dblog_replay.specs.Log.{end_status, end_lines}
use Rattle.dblog_replay.proofs.log.put_end.Goals as goal

pub returns-in-None-clause-puts : goal.returns-in-None-clause-puts
returns-in-None-clause-puts g c = subst (λ fault. Puts (end_lines fault) c.args.lines.now c.args.lines.now (g.O.Output.written c.args.output.now) (g.O.Output.written c.args.output.now)) (sym c.in-None.is) (no_lines c.args.lines.now (g.O.Output.written c.args.output.now))

pub returns-in-Some-clause-status : goal.returns-in-Some-clause-status
returns-in-Some-clause-status g c = subst (λ fault. IfOk c.put_fault.result (λ status. status ≡ end_status fault)) (sym c.in-Some.is) c.put_fault.ensures.status

pub returns-in-Some-clause-puts : goal.returns-in-Some-clause-puts
returns-in-Some-clause-puts g c = subst (λ fault. PutsLines (end_lines fault) c.put_fault.result c.args.lines.now c.put_fault.new.lines (g.O.Output.written c.args.output.now) (g.O.Output.written c.put_fault.new.output)) (sym c.in-Some.is) c.put_fault.ensures.puts
