use Rattle.std.proofs.Common.{◌≡◌, Option, Some, None, List, [], ◌∷◌, sym, subst, arith}
use Rattle.std.specs.List.{AllByRecursion}
use Rattle.dbl_pgmsg.specs.declared.messages.Message.{Message}
use Rattle.dbl_pgmsg.specs.Grammar.{FitsFields}
use Rattle.dblog_replay.proofs.FollowLemmas.{empty_is}
use Rattle.dblog_replay.proofs.StreamingLemmas.{IsAdding, adding_begins, adding_more, adding_stops, adding_fails, adding_ends, stepping_same, step_replays}
use Rattle.dblog_replay.proofs.streaming.put_added.Goals as goal

pub messages-init : goal.messages-init
messages-init g c =
    let written : Option (List _) = g.O.Output.written c.args.output.now in
    let all : c.into_iter-message-iterator.result.rest.items ≡ c.args.messages.items = c.into_iter-message-iterator.ensures.into_iter_gives.0 in (
      λ options ms follows. subst
          (λ (left : List Message). IsAdding options c.args.now_ms.now ms c.args.number c.args.messages.items left c.args.lines.now c.args.lines.now written
          written c.args.replayer.now) (sym all)
          (adding_begins options c.args.now_ms.now ms c.args.number c.args.messages.items c.args.lines.now written c.args.replayer.now follows),
      c.requires.replaying,
      subst (λ (l : List Message). AllByRecursion FitsFields l) (sym all) c.requires.fits,
      omega arith,
    )

pub put_message-requires-clause-fits : goal.put_message-requires-clause-fits
put_message-requires-clause-fits g c =
    let split : c.messages.message-iterator.rest.items ≡ c.in-Some.message ∷ c.next.new.self.rest.items = c.in-Some.ensures.steps.0 in
    (subst (λ (l : List Message). AllByRecursion FitsFields l) split c.messages.invariant.2).0

pub messages-preserved : goal.messages-preserved
messages-preserved g c =
    let split : c.messages.message-iterator.rest.items ≡ c.in-Some.message ∷ c.next.new.self.rest.items = c.in-Some.ensures.steps.0 in
    let f = c.messages.invariant.1 in
    let on = stepping_same f.options c.args.now_ms.now f.ms c.args.number c.in-Some.message _ _ c.put_message.new.replayer c.in-Ok-None.field-0 None _ _
    (c.in-Ok-None.ensures.steps f.options f.ms f.follows) c.in-Ok-None.field-0-is in (
      λ options ms follows. (
          let so_far = c.messages.invariant.0 options ms follows in
          adding_more _ _ _ _ _ _ _ _ _ _ _ _ _ _ _ _ so_far split
          (stepping_same options c.args.now_ms.now so_far.put.last c.args.number c.in-Some.message _ _ c.put_message.new.replayer c.in-Ok-None.field-0 None _ _
          (c.in-Ok-None.ensures.steps options so_far.put.last so_far.put.follows) c.in-Ok-None.field-0-is)),
      step_replays _ _ _ _ _ _ _ _ _ on,
      (subst (λ (l : List Message). AllByRecursion FitsFields l) split c.messages.invariant.2).1,
      omega arith,
    )

pub returns-in-Ok-Some-clause-puts : goal.returns-in-Ok-Some-clause-puts
returns-in-Ok-Some-clause-puts g c = λ options ms follows.
    let so_far = c.messages.invariant.0 options ms follows in
    let split : c.messages.message-iterator.rest.items ≡ c.in-Some.message ∷ c.next.new.self.rest.items = c.in-Some.ensures.steps.0 in
    adding_stops _ _ _ _ _ _ _ _ _ _ _ _ _ _ _ c.put_message.new.replayer so_far split c.in-Ok-Some.fault
    (stepping_same options c.args.now_ms.now so_far.put.last c.args.number c.in-Some.message _ _ c.put_message.new.replayer c.in-Ok-Some.field-0
    (Some c.in-Ok-Some.fault) _ _ (c.in-Ok-Some.ensures.steps options so_far.put.last so_far.put.follows) c.in-Ok-Some.field-0-is)

pub returns-in-Err-clause-puts : goal.returns-in-Err-clause-puts
returns-in-Err-clause-puts g c = λ options ms follows.
    let so_far = c.messages.invariant.0 options ms follows in
    let split : c.messages.message-iterator.rest.items ≡ c.in-Some.message ∷ c.next.new.self.rest.items = c.in-Some.ensures.steps.0 in
    adding_fails _ _ _ _ _ _ _ _ _ _ c.put_message.new.lines _ _ _ _ c.put_message.new.replayer so_far split c.in-Err.error
    (c.in-Err.ensures.steps options so_far.put.last so_far.put.follows)

pub returns-clause-puts : goal.returns-clause-puts
returns-clause-puts g c = λ options ms follows.
    let none : c.messages.message-iterator.rest.items ≡ [] =
    empty_is c.messages.message-iterator.rest.items (omega (arith, c.in-None.ensures.steps.0, c.messages.message-iterator.rest.ok)) in
    adding_ends _ _ _ _ _ _ _ _ _ _ _ (c.messages.invariant.0 options ms follows) none
