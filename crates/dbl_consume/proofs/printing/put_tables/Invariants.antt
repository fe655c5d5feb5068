use Rattle.std.proofs.Common.{◌≤◌, map}
use Rattle.dbl_lines.proofs.PutLemmas.{IsPutting}
use Rattle.dbl_consume.specs.Printing.{row_line}
use Rattle.dbl_consume.specs.RowTexts.{all_rows}
use Rattle.dbl_consume.proofs.printing.put_tables.Given as goal

abbrev pub invariant-loop-topic : goal.invariant-loop-topic
invariant-loop-topic g l =
    IsPutting (map row_line (all_rows l.tables.entries)) (map row_line (all_rows l.topic-iterator)) l.fn.lines l.lines (g.O.Output.written l.fn.output) (g.O.Output.written l.output)
    × (g.O.Output.faults l.fn.output ≤ g.O.Output.faults l.output)
