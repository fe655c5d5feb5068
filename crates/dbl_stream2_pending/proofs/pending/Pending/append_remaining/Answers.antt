use Rattle.std.proofs.Common.{ltb, ◌∙◌, ap, arith}
use Rattle.std.specs.Prelude.{Some}
use Rattle.std.specs.Vec.Iter.{into_iter_items}
use Rattle.std.specs.Iterator.Adapters.{enumerate_source, enumerate_count}
use Rattle.dbl_stream2_pending.specs.Buffers.{aborts_in}
use Rattle.dbl_stream2_pending.proofs.RemainingLemmas.{more_left, none_appended, all_appended}
use Rattle.dbl_stream2_pending.proofs.pending.Pending.append_remaining.Goals as goal

pub loop-numbered-preserved : goal.loop-numbered-preserved
loop-numbered-preserved g c =
    let steps = c.in-Some.ensures.steps in
    more_left (λ y i. ltb i (aborts_in y (Some c.args.self))) c.loop-numbered.messages.items c.append_unless_lost.new.messages.items _ _ _ _ _
    c.in-Some.numbered.1 _ steps.0.0 steps.1 steps.2 c.in-Ok.ensures c.loop-numbered.invariant

pub loop-numbered-init : goal.loop-numbered-init
loop-numbered-init g c =
    let same = c.into_iter-numbered-iterator.ensures.into_iter_gives in
    none_appended (λ y i. ltb i (aborts_in y (Some c.args.self))) c.args.messages.now.items _ _ _
    (ap enumerate_count same ∙ c.enumerate-numbered-items.ensures.count)
    (ap into_iter_items (ap enumerate_source same ∙ c.enumerate-numbered-items.ensures.source) ∙ c.into_iter.ensures.rest)

pub returns : goal.returns
returns g c = all_appended (λ y i. ltb i (aborts_in y (Some c.args.self))) c.loop-numbered.messages.items _ _ _
    (omega (arith, c.in-None.ensures.steps.0, c.loop-numbered.numbered-iterator.iter.rest.ok)) c.loop-numbered.invariant
