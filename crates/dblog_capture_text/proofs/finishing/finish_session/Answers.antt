use Rattle.std.proofs.Common.{sym, subst}
use Rattle.dblog_connect_ends.specs.Ends.{ConnectEnd}
use Rattle.dblog_capture_text.specs.Ends.{SaysSession}
use Rattle.dblog_capture_text.proofs.finishing.finish_session.Goals as goal

pub returns-in-Ok-clause-says : goal.returns-in-Ok-clause-says
returns-in-Ok-clause-says g c =
    subst (λ (end : ConnectEnd). SaysSession end c.say_report.result (g.O.Output.written c.args.output.now) (g.O.Output.written c.say_report.new.output)) (sym c.in-Ok.is) c.say_report.ensures.says

pub returns-in-Err-clause-says : goal.returns-in-Err-clause-says
returns-in-Err-clause-says g c =
    subst (λ (end : ConnectEnd). SaysSession end c.say_error.result (g.O.Output.written c.args.output.now) (g.O.Output.written c.say_error.new.output)) (sym c.in-Err.is) c.say_error.ensures.says
