use Rattle.std.proofs.Common.{ℕ, Option, List, [], Err, inl, inr, ap, subst}
use Rattle.dblog_replay.specs.declared.options.LogOptions.{LogOptions}
use Rattle.dblog_replay.specs.Masked.{masked_pieces}
use Rattle.dblog_streams.specs.Replays.{RunsLog}
use Rattle.dblog_streams.proofs.ReplayRunLemmas.{strings_replay, unread_replays, unread_said, unread_input, failure_no_answer}
use Rattle.dblog_streams.proofs.replaying.replay_input.Goals as goal

pub returns-in-Ok-clause-told : goal.returns-in-Ok-clause-told
returns-in-Ok-clause-told g c = λ bytes told.
    let before : Option (List ℕ) = g.O.Output.written c.args.output.now in
    let after : Option (List ℕ) = g.O.Output.written c.replay_strings.new.output in
    inl (strings_replay c.args.options c.args.now_ms.now bytes c.in-Ok.strings.items _ before after (c.in-Ok.ensures.encodes bytes told)
    (λ pieces read. subst (λ (o : LogOptions). RunsLog o c.args.now_ms.now (masked_pieces o.mask [] pieces) c.replay_strings.result before after) c.log_options.ensures
    (c.replay_strings.ensures.told pieces read)))

pub returns-in-Err-clause-told : goal.returns-in-Err-clause-told
returns-in-Err-clause-told g c = λ bytes told.
    unread_replays c.args.options c.args.now_ms.now bytes c.in-Err.unread _ _ _ _ _ (c.in-Err.ensures.halts bytes told)
    (λ is. c.in-Err.ensures.failed (ap Err is)) c.say_unread.ensures.told

pub returns-in-Err-clause-known : goal.returns-in-Err-clause-known
returns-in-Err-clause-known g c = unread_said c.in-Err.unread _ _ _ c.in-Err.ensures.command c.say_unread.ensures.told

pub returns-in-Err-clause-input_failed : goal.returns-in-Err-clause-input_failed
returns-in-Err-clause-input_failed g c = λ is. c.in-Err.ensures.failed (ap Err (unread_input c.in-Err.unread _ _ _ c.say_unread.ensures.told is))

pub returns-in-Err-clause-whole : goal.returns-in-Err-clause-whole
returns-in-Err-clause-whole g c = λ bytes told within answer. elim (c.in-Err.ensures.whole bytes told within) [
  | inl fails ↦ absurd (failure_no_answer c.in-Err.unread _ _ _ fails c.say_unread.ensures.told answer)
  | inr end ↦ end
]
