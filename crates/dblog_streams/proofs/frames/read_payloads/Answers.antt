use Rattle.std.proofs.Common.{◌≢◌, true, inr, refl, subst}
use Rattle.std.specs.Prelude.{IfErr}
use Rattle.std.proofs.lemmas.Result.{IfOk-weaker, IfErr-weaker}
use Rattle.dbl_lines.specs.declared.run_error.RunError.TheVariants.{Usage, InputFailed}
use Rattle.dblog_streams.specs.declared.unread.Unread.TheVariants.{Run}
use Rattle.dblog_streams.specs.Inputs.{encoded}
use Rattle.dblog_streams.proofs.FrameInputLemmas.{read_within}
use Rattle.dblog_streams.proofs.InputLemmas.{strings_small}
use Rattle.dblog_streams.proofs.frames.read_payloads.Goals as goal

pub returns-in-Ok-clause-encodes : goal.returns-in-Ok-clause-encodes
returns-in-Ok-clause-encodes g c = λ bytes told.
    let read = c.in-Ok.ensures.all bytes told in
    IfOk-weaker c.finish.result _ _ (λ strings enc. encoded (read_within bytes c.in-Ok.stream read c.in-Ok.ensures.within) enc)
    (c.finish.ensures.encodes bytes read)

pub returns-in-Ok-clause-small : goal.returns-in-Ok-clause-small
returns-in-Ok-clause-small g c =
    let some = c.in-Ok.ensures.some in
    IfOk-weaker c.finish.result _ _
    (λ strings enc. strings_small true some.0 strings.items (encoded (read_within some.0 c.in-Ok.stream some.1 c.in-Ok.ensures.within) enc))
    (c.finish.ensures.encodes some.0 some.1)

pub returns-in-Ok-clause-halts : goal.returns-in-Ok-clause-halts
returns-in-Ok-clause-halts g c = λ bytes told.
    let read = c.in-Ok.ensures.all bytes told in
    IfErr-weaker c.finish.result _ _ (λ unread enc. inr (encoded (read_within bytes c.in-Ok.stream read c.in-Ok.ensures.within) enc))
    (c.finish.ensures.invalid bytes read)

pub returns-in-Ok-clause-failed : goal.returns-in-Ok-clause-failed
returns-in-Ok-clause-failed g c = λ is.
    absurd ((subst (λ r. IfErr r (λ unread. unread ≢ Run InputFailed)) is (c.finish.ensures.stream InputFailed)) refl)

pub returns-in-Ok-clause-command : goal.returns-in-Ok-clause-command
returns-in-Ok-clause-command g c = c.finish.ensures.stream Usage
