use Rattle.std.proofs.Common.{arith}
use Rattle.dbl_source_log.proofs.DescribedLemmas.{pairs_decide}
use Rattle.dbl_source_log.proofs.relations.are_table_columns.Goals as goal

pub returns-then-len : goal.returns-then-len
returns-then-len c =
    pairs_decide c.args.table.now c.args.columns.now.items c.items.result.now.items c.items-then-len.result.now.items c.len.result c.len-2.result c.are_same_in_pairs.result c.items.ensures c.items-then-len.ensures
    (omega (arith, c.len.ensures, c.items.result.now.ok.0)) (omega (arith, c.len-2.ensures, c.args.columns.now.ok.0)) c.if-len.true c.are_same_in_pairs.ensures
