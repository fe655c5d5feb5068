use Rattle.std.proofs.Common.{◌≤◌, map, length}
use Rattle.dbl_record.specs.Line.{line_of}
use Rattle.dbl_lines.proofs.PutLemmas.{IsPutting}
use Rattle.dblog_replay.proofs.printing.put_left.Given as goal

abbrev pub invariant-left : goal.invariant-left
invariant-left g l =
    IsPutting (map line_of l.fn.records) (map line_of l.left) l.fn.lines l.lines (g.O.Output.written l.fn.output) (g.O.Output.written l.output)
    × (g.O.Output.faults l.fn.output ≤ g.O.Output.faults l.output)

abbrev pub decreases-left : goal.decreases-left
decreases-left g l = length l.left
