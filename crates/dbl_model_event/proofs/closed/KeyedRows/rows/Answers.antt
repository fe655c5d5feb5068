use Rattle.std.proofs.Common.{List, subst}
use Rattle.std.specs.declared.cmp.Ordering.{Ordering}
use Rattle.std.specs.List.Sorted.{IsStrictlySortedBy}
use Rattle.std.specs.Map.{keys_of}
use Rattle.dbl_model_table.specs.declared.row.Key.{Key}
use Rattle.dbl_model_table.specs.declared.row.Row.{Row}
use Rattle.dbl_model_event.specs.Snapshots.{AreInKeyOrder}
use Rattle.dbl_model_table.proofs.DerivedOrder.{derived_order}
use Rattle.dbl_model_event.proofs.closed.KeyedRows.rows.Goals as goal

pub returns-clause-ordered : goal.returns-clause-ordered
returns-clause-ordered c =
    let ordered = subst (λ (cmp : Key → Key → Ordering). IsStrictlySortedBy cmp (keys_of c.self.inside.rows.entries)) (λ i a b. derived_order a b i) c.len-count.ensures.ordered in
    subst (λ (rows : List (Key × Row)). AreInKeyOrder rows) c.self.view_is ordered
