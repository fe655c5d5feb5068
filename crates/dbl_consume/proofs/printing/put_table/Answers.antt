use Rattle.std.proofs.Common.{map, ap, arith}
use Rattle.dbl_lines.proofs.PutLemmas.{putting_more, putting_fails}
use Rattle.dbl_consume.specs.Printing.{row_line}
use Rattle.dbl_consume.specs.RowTexts.{rows_in}
use Rattle.dbl_consume.proofs.printing.put_table.Goals as goal

pub loop-key-preserved : goal.loop-key-preserved
loop-key-preserved g c =
    (putting_more _ _ _ _ _ _ _ _ _ _ c.loop-key.invariant.0 (ap (λ es. map row_line (rows_in c.args.topic.now es)) c.in-Some.ensures.steps) c.in-Ok.ensures.puts, omega arith)

pub returns-in-Err-clause-puts : goal.returns-in-Err-clause-puts
returns-in-Err-clause-puts g c =
    putting_fails _ _ _ (map row_line (rows_in c.args.topic.now c.next.new.self)) _ _ _ _ _ _ c.loop-key.invariant.0 (ap (λ es. map row_line (rows_in c.args.topic.now es)) c.in-Some.ensures.steps) c.in-Err.ensures.puts
