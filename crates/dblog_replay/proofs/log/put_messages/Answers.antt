use Rattle.std.proofs.Common.{◌≡◌, ℕ, ◌+◌, Option, Some, None, List, [], ◌∷◌, length, sym, ap, subst, arith}
use Rattle.dblog_replay.proofs.FollowLemmas.{IsLogging, reading_same, read_on, stepped_replays, logging_begins, logging_more, logging_stops, logging_ends}
use Rattle.dblog_replay.proofs.FollowLemmas.{logging_fails, empty_is}
use Rattle.dblog_replay.proofs.log.put_messages.Goals as goal

pub messages-init : goal.messages-init
messages-init g c =
    let written : Option (List ℕ) = g.O.Output.written c.args.output.now in
    let all : c.into_iter-bytes-iterator.result.rest.items ≡ c.args.messages.items = c.into_iter-bytes-iterator.ensures.into_iter_gives.0 in (
      λ options pieces follows read. subst
          (λ (left : List (List ℕ)). IsLogging options c.args.now_ms.now pieces left c.args.lines.now c.args.lines.now written written 0 c.args.replayer.now)
          (sym all)
          (logging_begins options c.args.now_ms.now pieces c.args.messages.items c.args.lines.now written c.args.replayer.now follows read),
      record { options = c.requires.0; ms = []; follows = c.requires.1 },
      omega (arith, ap length all),
      omega arith,
    )

pub messages-preserved : goal.messages-preserved
messages-preserved g c =
    let split : c.messages.bytes-iterator.rest.items ≡ c.in-Some.bytes ∷ c.next.new.self.rest.items = c.in-Some.ensures.steps.0 in
    let f = c.messages.invariant.1 in
    let is = reading_same f.options c.args.now_ms.now f.ms _ c.in-Some.bytes _ _ c.put_bytes.new.replayer c.in-Ok-None.field-0 None _ _
    (c.in-Ok-None.ensures.steps f.options f.ms f.follows) c.in-Ok-None.field-0-is in
    let on = read_on f.options c.args.now_ms.now f.ms (c.messages.number + 1) c.in-Some.bytes _ _ c.put_bytes.new.replayer _ _ is in (
      λ options pieces follows read. (
          let so_far = c.messages.invariant.0 options pieces follows read in
          let is = reading_same options c.args.now_ms.now so_far.ms _ c.in-Some.bytes _ _ c.put_bytes.new.replayer c.in-Ok-None.field-0 None _ _
          (c.in-Ok-None.ensures.steps options so_far.ms so_far.follows) c.in-Ok-None.field-0-is in
          logging_more _ _ _ _ _ _ _ _ _ _ _ _ _ _ _ so_far split (read_on _ _ _ _ _ _ _ _ _ _ is)),
      stepped_replays _ _ _ _ _ _ _ _ _ _ on,
      omega (arith, c.messages.invariant.2, ap length split),
      omega arith,
    )

pub returns-in-Ok-Some-clause-puts : goal.returns-in-Ok-Some-clause-puts
returns-in-Ok-Some-clause-puts g c = λ options pieces follows read.
    let so_far = c.messages.invariant.0 options pieces follows read in
    let split : c.messages.bytes-iterator.rest.items ≡ c.in-Some.bytes ∷ c.next.new.self.rest.items = c.in-Some.ensures.steps.0 in
    let is = reading_same options c.args.now_ms.now so_far.ms _ c.in-Some.bytes _ _ c.put_bytes.new.replayer c.in-Ok-Some.field-0 (Some c.in-Ok-Some.fault) _ _
    (c.in-Ok-Some.ensures.steps options so_far.ms so_far.follows) c.in-Ok-Some.field-0-is in
    logging_stops _ _ _ _ _ _ _ _ _ _ _ _ _ _ c.put_bytes.new.replayer c.in-Ok-Some.fault so_far split is

pub returns-in-Err-clause-puts : goal.returns-in-Err-clause-puts
returns-in-Err-clause-puts g c = λ options pieces follows read.
    let so_far = c.messages.invariant.0 options pieces follows read in
    let split : c.messages.bytes-iterator.rest.items ≡ c.in-Some.bytes ∷ c.next.new.self.rest.items = c.in-Some.ensures.steps.0 in
    logging_fails _ _ _ _ _ _ _ _ c.put_bytes.new.lines _ _ _ _ _ c.put_bytes.new.replayer _ so_far split (c.in-Err.ensures.steps options so_far.ms so_far.follows)

pub returns-clause-puts : goal.returns-clause-puts
returns-clause-puts g c = λ options pieces follows read.
    let so_far = c.messages.invariant.0 options pieces follows read in
    let none : c.messages.bytes-iterator.rest.items ≡ [] = empty_is c.messages.bytes-iterator.rest.items (omega (arith, c.in-None.ensures.steps.0, c.messages.bytes-iterator.rest.ok)) in
    logging_ends _ _ _ _ _ _ _ _ _ _ _ c.inside.result so_far none (c.inside.ensures options so_far.ms so_far.follows) c.unfinished_fault.ensures

pub overflow_add-number : goal.overflow_add-number
overflow_add-number g c = omega (arith, c.messages.invariant.2, c.args.messages.ok)
