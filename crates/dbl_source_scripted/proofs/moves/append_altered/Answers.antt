use Rattle.std.proofs.Common.{◌∙◌}
use Rattle.dbl_source_scripted.proofs.AlterLemmas.{altered_front, altered_some}
use Rattle.dbl_source_scripted.proofs.CallLemmas.{on_err}
use Rattle.dbl_source_scripted.proofs.moves.append_altered.Goals as goal

pub returns-in_err-bare_alteration-clause-err : goal.returns-in_err-bare_alteration-clause-err
returns-in_err-bare_alteration-clause-err c =
    on_err c.from_residual.result (altered_front c.args.call c.args.alters.now c.loop-alter.alter-index c.args.log.now.items c.loop-alter.log.items c.loop-alter.invariant)

pub returns-in_err-bare_alteration-clause-none : goal.returns-in_err-bare_alteration-clause-none
returns-in_err-bare_alteration-clause-none c none =
    absurd (altered_some c.args.call c.args.alters.now c.loop-alter.alter-index c.alter-item.result c.loop-alter-test.true c.alter-item.is c.if-alter-call.true none)

pub returns-in_err-push-clause-err : goal.returns-in_err-push-clause-err
returns-in_err-push-clause-err c =
    on_err c.from_residual-in_err-push.result
    (altered_front c.args.call c.args.alters.now c.loop-alter.alter-index c.args.log.now.items c.push.new.self.items (c.in_err-push.ensures.items ∙ c.loop-alter.invariant))

pub returns-in_err-push-clause-none : goal.returns-in_err-push-clause-none
returns-in_err-push-clause-none c none =
    absurd (altered_some c.args.call c.args.alters.now c.loop-alter.alter-index c.alter-item.result c.loop-alter-test.true c.alter-item.is c.if-alter-call.true none)
