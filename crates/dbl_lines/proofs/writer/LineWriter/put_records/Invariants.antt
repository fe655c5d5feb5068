use Rattle.std.proofs.Common.{◌≤◌, map, drop}
use Rattle.dbl_record.specs.Line.{line_of}
use Rattle.dbl_lines.proofs.PutLemmas.{IsPutting}
use Rattle.dbl_lines.proofs.writer.LineWriter.put_records.Given as goal

abbrev pub invariant-records : goal.invariant-records
invariant-records g l =
    IsPutting (map line_of l.records.items) (map line_of (drop l.item-index l.records.items)) l.fn.self l.self (g.O.Output.written l.fn.output) (g.O.Output.written l.output)
    × (g.O.Output.faults l.fn.output ≤ g.O.Output.faults l.output)
