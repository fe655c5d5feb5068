use Rattle.std.proofs.Common.{[], map}
use Rattle.dbl_lines.proofs.PutLemmas.{none_put}
use Rattle.dbl_consume.specs.Printing.{row_line}
use Rattle.dbl_consume.specs.RowTexts.{all_rows}
use Rattle.dbl_consume.proofs.printing.print.Goals as goal

pub returns-in-Err-clause-prints : goal.returns-in-Err-clause-prints
returns-in-Err-clause-prints g c =
    let start = g.O.Output.written c.args.output.now in
    c.in-Err.ensures.puts start [] (none_put start c.in_ok-lines.lines c.in_ok-lines.ensures)

pub returns-in-Ok-clause-prints : goal.returns-in-Ok-clause-prints
returns-in-Ok-clause-prints g c =
    let start = g.O.Output.written c.args.output.now in
    c.finish.ensures.prints start (map row_line (all_rows c.args.tables.now.entries)) (c.in-Ok.ensures.puts start [] (none_put start c.in_ok-lines.lines c.in_ok-lines.ensures))
