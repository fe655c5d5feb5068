use Rattle.std.proofs.Common.{List}
use Rattle.dbl_tables_rows.specs.declared.demo_table.DemoTable.{DemoTable}
use Rattle.dbl_tables_rows.specs.Acts.{Accepted}
use Rattle.dbl_tables.specs.FirstRows.{InsertsAfter}
use Rattle.dbl_demo_workload.proofs.PrepareLemmas.{AreIn}
use Rattle.dbl_demo_workload.proofs.preparing.insert_each_row.Given as goal

abbrev pub invariant-loop-row : goal.invariant-loop-row
invariant-loop-row l = (tables : List DemoTable) (past : List Accepted) → InsertsAfter tables past l.fn.first → AreIn tables past l.yielded l.first
