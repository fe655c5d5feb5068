use Rattle.std.proofs.Common.{◌+◌, ◌-◌, ◌≤◌, ℕ, List}
use Rattle.dbl_base.specs.Streams.{input_limit}
use Rattle.dbl_base.proofs.Readings.{IsReading}
use Rattle.dblog_streams.specs.Streaming.{HasRead}
use Rattle.dblog_streams.proofs.frames.read_stream.Given as goal

abbrev pub invariant-pieces : goal.invariant-pieces
invariant-pieces g l = (bytes : List ℕ) × HasRead bytes l.stream × IsReading (g.I.Input.left l.fn.input) (g.I.Input.left l.input) bytes
    × (g.I.Input.faults l.fn.input ≤ g.I.Input.faults l.input)

abbrev pub decreases-pieces : goal.decreases-pieces
decreases-pieces g l = input_limit + 1 - l.stream.size
