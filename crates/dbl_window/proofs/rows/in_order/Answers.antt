use Rattle.std.proofs.Common.{subst}
use Rattle.std.specs.declared.cmp.Ordering.{Ordering}
use Rattle.std.specs.List.Sorted.{IsStrictlySortedBy}
use Rattle.std.specs.Map.{keys_of}
use Rattle.dbl_model_table.specs.declared.row.Key.{Key}
use Rattle.dbl_model_table.proofs.DerivedOrder.{derived_order}
use Rattle.dbl_window.proofs.rows.in_order.Goals as goal

pub returns : goal.returns
returns c = subst (λ (cmp : Key → Key → Ordering). IsStrictlySortedBy cmp (keys_of c.args.rows.now.entries)) (λ i a b. derived_order a b i) c.len-count.ensures.ordered
