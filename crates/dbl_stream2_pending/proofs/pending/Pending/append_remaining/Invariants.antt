use Rattle.std.proofs.Common.{◌≡◌, ◌++◌, ltb}
use Rattle.std.specs.Prelude.{Some}
use Rattle.std.specs.Vec.Iter.{into_iter_items}
use Rattle.std.specs.Iterator.Adapters.{enumerate_source, enumerate_count}
use Rattle.dbl_stream2_pending.specs.Buffers.{aborts_in, remaining}
use Rattle.dbl_stream2_pending.proofs.pending.Pending.append_remaining.Given as goal

abbrev pub invariant-loop-numbered : goal.invariant-loop-numbered
invariant-loop-numbered g l =
    l.messages.items ++ remaining (λ y i. ltb i (aborts_in y (Some l.fn.self))) (enumerate_count l.numbered-iterator)
    (into_iter_items (enumerate_source l.numbered-iterator))
    ≡ l.fn.messages.items ++ remaining (λ y i. ltb i (aborts_in y (Some l.fn.self))) 0 l.fn.self.buffer.items
