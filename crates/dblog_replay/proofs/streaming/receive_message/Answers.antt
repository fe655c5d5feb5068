use Rattle.std.proofs.Common.{◌≡◌, ℕ, List, ap, ◌∙◌, subst, inl, inr}
use Rattle.dbl_stream2.specs.State.{HasTaken, IsStreamRefusal}
use Rattle.dblog_replay.specs.Streams.{refusal_fault}
use Rattle.dblog_replay.proofs.StreamingLemmas.{has_added, added_fit}
use Rattle.dblog_replay.proofs.streaming.receive_message.Goals as goal

pub returns-in-Ok-clause-added : goal.returns-in-Ok-clause-added
returns-in-Ok-clause-added c = λ past receiving.
    let same : c.as_slice.result.now ≡ c.args.bytes = c.as_slice.ensures.value ∙ c.items.ensures in
    has_added past c.args.bytes c.in-Ok.messages.items c.args.unstream.now c.take.new.self receiving
    (subst (λ (b : List ℕ). HasTaken past b c.in-Ok.messages.items c.take.new.self) same (c.in-Ok.ensures.taken past receiving.received))

pub returns-in-Ok-clause-fits : goal.returns-in-Ok-clause-fits
returns-in-Ok-clause-fits c =
    let u = c.requires in
    let same : c.as_slice.result.now ≡ c.args.bytes = c.as_slice.ensures.value ∙ c.items.ensures in
    added_fit u.past c.args.bytes c.in-Ok.messages.items c.take.new.self
    (has_added u.past c.args.bytes c.in-Ok.messages.items c.args.unstream.now c.take.new.self u.receiving
    (subst (λ (b : List ℕ). HasTaken u.past b c.in-Ok.messages.items c.take.new.self) same (c.in-Ok.ensures.taken u.past u.receiving.received)))

pub returns-clause-refused : goal.returns-clause-refused
returns-clause-refused c = λ past receiving.
    let same : c.as_slice.result.now ≡ c.args.bytes = c.as_slice.ensures.value ∙ c.items.ensures in
    elim (c.in-Err.ensures.refused past receiving.received) [
      | inl memory ↦ inl (c.refusal_fault.ensures ∙ ap (refusal_fault c.args.number) memory)
      | inr refusal ↦ inr
          (c.in-Err.error, subst (λ (b : List ℕ). IsStreamRefusal past b c.in-Err.error) same refusal, c.refusal_fault.ensures)
    ]
