use Rattle.std.proofs.Common.{◌≤◌, map}
use Rattle.dbl_lines.proofs.PutLemmas.{IsPutting}
use Rattle.dbl_consume.specs.Printing.{row_line}
use Rattle.dbl_consume.specs.RowTexts.{rows_in}
use Rattle.dbl_consume.proofs.printing.put_table.Given as goal

abbrev pub invariant-loop-key : goal.invariant-loop-key
invariant-loop-key g l =
    IsPutting (map row_line (rows_in l.topic l.table.entries)) (map row_line (rows_in l.topic l.key-iterator)) l.fn.lines l.lines (g.O.Output.written l.fn.output) (g.O.Output.written l.output)
    × (g.O.Output.faults l.fn.output ≤ g.O.Output.faults l.output)
