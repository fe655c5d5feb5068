use Rattle.std.proofs.Common.{◌≡◌, ℕ, ◌+◌, Bool, Option, Some, None, List, [], ◌∷◌, length, sym, ap, ◌∙◌, subst, arith}
use Rattle.std.specs.Prelude.{◌||◌}
use Rattle.dbl_stream2.specs.Flat.{is_inside}
use Rattle.dblog_replay.specs.Log.{end_fault}
use Rattle.dblog_replay.proofs.FollowLemmas.{empty_is}
use Rattle.dblog_replay.proofs.StreamingLemmas.{IsStreamPut, stream_begins, stream_more, stream_stops, stream_fails}
use Rattle.dblog_replay.proofs.StreamingLemmas.{stream_ends, streaming_same, begins_receiving, streams_on, replays_on}
use Rattle.dblog_replay.proofs.streaming.put_streamed.Goals as goal

pub strings-init : goal.strings-init
strings-init g c =
    let written : Option (List ℕ) = g.O.Output.written c.args.output.now in
    let all : c.into_iter-bytes-iterator.result.rest.items ≡ c.args.strings.items = c.into_iter-bytes-iterator.ensures.into_iter_gives.0 in
    let receiving = begins_receiving c.make-unstream.result c.make-unstream.ensures in (
      λ options pieces follows read. subst
          (λ (left : List (List ℕ)). IsStreamPut options c.args.now_ms.now pieces left c.args.lines.now c.args.lines.now written written 0
          c.make-unstream.result c.args.replayer.now) (sym all)
          (stream_begins options c.args.now_ms.now pieces c.args.strings.items c.args.lines.now written c.make-unstream.result c.args.replayer.now follows
          receiving read),
      record { past = []; receiving = receiving },
      record { options = c.requires.0; ms = []; follows = c.requires.1 },
      omega (arith, ap length all),
      omega arith,
    )

pub strings-preserved : goal.strings-preserved
strings-preserved g c =
    let split : c.strings.bytes-iterator.rest.items ≡ c.in-Some.bytes ∷ c.next.new.self.rest.items = c.in-Some.ensures.steps.0 in
    let u = c.strings.invariant.1 in
    let f = c.strings.invariant.2 in
    let on = streaming_same f.options c.args.now_ms.now u.past f.ms (c.strings.number + 1) c.in-Some.bytes c.put_received.new.unstream _ _
    c.put_received.new.replayer c.in-Ok-None.field-0 None _ _ (c.in-Ok-None.ensures.steps f.options u.past f.ms u.receiving f.follows)
    c.in-Ok-None.field-0-is in (
      λ options pieces follows read. (
          let so_far = c.strings.invariant.0 options pieces follows read in
          stream_more _ _ _ _ _ _ _ _ _ _ _ _ _ _ _ _ _ so_far split
          (streaming_same options c.args.now_ms.now so_far.past so_far.ms (c.strings.number + 1) c.in-Some.bytes c.put_received.new.unstream _ _
          c.put_received.new.replayer c.in-Ok-None.field-0 None _ _
          (c.in-Ok-None.ensures.steps options so_far.past so_far.ms so_far.receiving so_far.follows) c.in-Ok-None.field-0-is)),
      streams_on _ _ _ _ _ _ _ _ _ _ _ _ on,
      replays_on _ _ _ _ _ _ _ _ _ _ _ _ on,
      omega (arith, c.strings.invariant.3, ap length split),
      omega arith,
    )

pub returns-in-Ok-Some-clause-puts : goal.returns-in-Ok-Some-clause-puts
returns-in-Ok-Some-clause-puts g c = λ options pieces follows read.
    let so_far = c.strings.invariant.0 options pieces follows read in
    let split : c.strings.bytes-iterator.rest.items ≡ c.in-Some.bytes ∷ c.next.new.self.rest.items = c.in-Some.ensures.steps.0 in
    stream_stops _ _ _ _ _ _ _ _ _ _ _ _ _ _ _ _ _ so_far split c.in-Ok-Some.fault
    (streaming_same options c.args.now_ms.now so_far.past so_far.ms (c.strings.number + 1) c.in-Some.bytes c.put_received.new.unstream _ _
    c.put_received.new.replayer c.in-Ok-Some.field-0 (Some c.in-Ok-Some.fault) _ _
    (c.in-Ok-Some.ensures.steps options so_far.past so_far.ms so_far.receiving so_far.follows) c.in-Ok-Some.field-0-is)

pub returns-in-Err-clause-puts : goal.returns-in-Err-clause-puts
returns-in-Err-clause-puts g c = λ options pieces follows read.
    let so_far = c.strings.invariant.0 options pieces follows read in
    let split : c.strings.bytes-iterator.rest.items ≡ c.in-Some.bytes ∷ c.next.new.self.rest.items = c.in-Some.ensures.steps.0 in
    stream_fails _ _ _ _ _ _ _ _ _ _ _ _ _ _ _ _ _ so_far split c.in-Err.error
    (c.in-Err.ensures.steps options so_far.past so_far.ms so_far.receiving so_far.follows)

pub returns-clause-puts : goal.returns-clause-puts
returns-clause-puts g c = λ options pieces follows read.
    let so_far = c.strings.invariant.0 options pieces follows read in
    let none : c.strings.bytes-iterator.rest.items ≡ [] =
    empty_is c.strings.bytes-iterator.rest.items (omega (arith, c.in-None.ensures.steps.0, c.strings.bytes-iterator.rest.ok)) in
    stream_ends _ _ _ _ _ _ _ _ _ _ _ so_far _ none
    (c.unfinished_fault.ensures
    ∙ ap (λ (b : Bool). end_fault (b || c.inside-in_transaction.result)) (c.inside-in_block.ensures so_far.past so_far.receiving.received)
    ∙ ap (λ (b : Bool). end_fault (is_inside so_far.past || b)) (c.inside-in_transaction.ensures options so_far.ms so_far.follows))

pub overflow_add-number : goal.overflow_add-number
overflow_add-number g c = omega (arith, c.strings.invariant.3, c.args.strings.ok)
