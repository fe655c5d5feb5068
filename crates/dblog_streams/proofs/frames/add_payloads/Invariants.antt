use Rattle.std.proofs.Common.{◌≡◌, ◌++◌}
use Rattle.dblog_streams.specs.Inputs.{payloads_of}
use Rattle.dblog_streams.proofs.frames.add_payloads.Given as goal

abbrev pub invariant-frames : goal.invariant-frames
invariant-frames l = l.payloads.items ++ payloads_of l.frame-iterator.rest.items ≡ l.fn.payloads.items ++ payloads_of l.fn.frames.items
