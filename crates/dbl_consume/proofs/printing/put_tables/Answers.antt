use Rattle.std.proofs.Common.{◌∙◌, map, ap, arith}
use Rattle.dbl_lines.proofs.PutLemmas.{putting_more, putting_fails}
use Rattle.dbl_consume.specs.Printing.{row_line}
use Rattle.dbl_consume.specs.RowTexts.{all_rows}
use Rattle.dbl_consume.proofs.RowLemmas.{lines_split}
use Rattle.dbl_consume.proofs.printing.put_tables.Goals as goal

pub loop-topic-preserved : goal.loop-topic-preserved
loop-topic-preserved g c =
    let split = ap (λ ts. map row_line (all_rows ts)) c.in-Some.ensures.steps ∙ lines_split c.in-Some.topic.now c.in-Some.table.now c.next.new.self in
    (putting_more _ _ _ _ _ _ _ _ _ _ c.loop-topic.invariant.0 split c.in-Ok.ensures.puts, omega arith)

pub returns-in-Err-clause-puts : goal.returns-in-Err-clause-puts
returns-in-Err-clause-puts g c =
    let split = ap (λ ts. map row_line (all_rows ts)) c.in-Some.ensures.steps ∙ lines_split c.in-Some.topic.now c.in-Some.table.now c.next.new.self in
    putting_fails _ _ _ _ _ _ _ _ _ _ c.loop-topic.invariant.0 split c.in-Err.ensures.puts
