use Rattle.std.proofs.Common.{◌≡◌, List, take, subst}
use Rattle.std.specs.Prelude.{IfOk}
use Rattle.std.specs.declared.cmp.Ordering.{Ordering}
use Rattle.std.specs.BTreeMap.{IsOrdered}
use Rattle.dbl_model_table.specs.declared.row.Key.{Key}
use Rattle.dbl_tables_rows.proofs.SlotLemmas.{orders}
use Rattle.dbl_tables.proofs.SelectLemmas.{Entry, rows_of}
use Rattle.dbl_tables.proofs.SelectStands.{range_after}
use Rattle.dbl_tables.proofs.selecting.rows_above.Goals as goal

pub returns-clause-rows : goal.returns-clause-rows
returns-clause-rows c = subst (λ (es : List Entry). IfOk c.first_rows.result (λ rows. rows.items ≡ take c.args.limit (rows_of es))) (range_after c.args.slots.now c.args.key.now c.range.result (c.range.ensures.between tt)) c.first_rows.ensures

pub returns-clause-ordered : goal.returns-clause-ordered
returns-clause-ordered c = subst (λ (cmp : Key → Key → Ordering). IsOrdered cmp c.args.slots.now) orders c.range.ensures.ordered
