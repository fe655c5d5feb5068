use Rattle.std.proofs.Common.{Err, inl, inr}
use Rattle.std.proofs.lemmas.Result.{err_from_is_err_and, MatchResult-weaker}
use Rattle.dbl_stream2.specs.State.{in_stream}
use Rattle.dbl_stream2.proofs.Steps.{taken_so, refused_so}
use Rattle.dbl_stream2.proofs.Refusals.{refused_exactly}
use Rattle.dbl_stream2.proofs.unstream.Unstream.take.Goals as goal

pub returns-in_err-message-clause-refused : goal.returns-in_err-message-clause-refused
returns-in_err-message-clause-refused c = λ past s. (
    let p = err_from_is_err_and c.from_residual.result c.from_residual.ensures.1 in
    rw p.1 (refused_so past c.args.bytes.now _ p.0 p.2 (rw (← c.inside-inside.ensures past s) c.in_err-message.ensures.refused)))

pub returns-clause-taken : goal.returns-clause-taken
returns-clause-taken c = λ past s. MatchResult-weaker c.process.result (c.process.ensures past s)
    (λ out moved. taken_so past c.args.bytes.now c.in_ok-message.message out.items _
    (rw (← c.inside-inside.ensures past s) c.in_ok-message.ensures.encoded) moved) (λ e refuses. tt)

pub returns-clause-refused : goal.returns-clause-refused
returns-clause-refused c = λ past s. MatchResult-weaker c.process.result (c.process.ensures past s) (λ out moved. tt)
    (λ e refuses. elim refuses [
      | inl memory ↦ inl memory
      | inr fault ↦ inr
          (in_stream c.in_ok-message.message (rw (← c.inside-inside.ensures past s) c.in_ok-message.ensures.encoded) fault)
    ])

pub returns-in_err-message-clause-exactly : goal.returns-in_err-message-clause-exactly
returns-in_err-message-clause-exactly c = λ past e s refusal. (
    let p = err_from_is_err_and c.from_residual.result c.from_residual.ensures.1 in
    rw p.1 (refused_exactly past c.args.bytes.now (Err p.0) (refused_so past c.args.bytes.now _ p.0 p.2
    (rw (← c.inside-inside.ensures past s) c.in_err-message.ensures.refused)) e refusal))

pub returns-clause-exactly : goal.returns-clause-exactly
returns-clause-exactly c = λ past e s refusal. refused_exactly past c.args.bytes.now c.process.result
    (MatchResult-weaker c.process.result (c.process.ensures past s)
    (λ out processed. (c.in_ok-message.message, rw (← c.inside-inside.ensures past s) c.in_ok-message.ensures.encoded, processed.clean))
    (λ e refuses. elim refuses [
      | inl memory ↦ inl memory
      | inr fault ↦ inr
          (in_stream c.in_ok-message.message (rw (← c.inside-inside.ensures past s) c.in_ok-message.ensures.encoded) fault)
    ]))
    e refusal
