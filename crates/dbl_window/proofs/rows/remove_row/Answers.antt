use Rattle.std.proofs.Common.{◌≡◌, ◌∙◌, cond, None, List, sym, ap, subst}
use Rattle.std.specs.List.{AllByRecursion}
use Rattle.std.specs.Map.{lookup}
use Rattle.std.specs.Ordering.{is_eq}
use Rattle.std.specs.declared.cmp.Ordering.{Ordering}
use Rattle.dbl_model_table.specs.declared.row.Key.{Key}
use Rattle.dbl_model_table.specs.declared.row.Row.{Row}
use Rattle.dbl_window.specs.Changing.{FitsRow}
use Rattle.dbl_window.proofs.MapLemmas.{cells_in, order_is, row_in-lookup, row_changed, all_removed, found_fits}
use Rattle.dbl_window.proofs.rows.remove_row.Goals as goal

pub returns-clause-row : goal.returns-clause-row
returns-clause-row c =
    let found = subst (λ (cmp : Key → Key → Ordering). c.remove.result ≡ lookup (λ k. is_eq (cmp c.args.key.now k)) c.args.rows.now.entries) order_is c.remove.ensures.value in
    ap cells_in found ∙ sym (row_in-lookup c.args.rows.now.entries c.args.key.now)

pub returns-clause-left : goal.returns-clause-left
returns-clause-left c =
    let old = c.args.rows.now.entries in
    let new = c.remove.new.self.entries in
    row_changed old new c.args.key.now None
    (subst (λ (cmp : Key → Key → Ordering). (q : Key) → lookup (λ k. is_eq (cmp q k)) new ≡ cond (is_eq (cmp c.args.key.now q)) None (lookup (λ k. is_eq (cmp q k)) old)) order_is c.remove.ensures.updates.0)

pub returns-clause-fit : goal.returns-clause-fit
returns-clause-fit c info all =
    let found = subst (λ (cmp : Key → Key → Ordering). c.remove.result ≡ lookup (λ k. is_eq (cmp c.args.key.now k)) c.args.rows.now.entries) order_is c.remove.ensures.value in (
      subst (λ (l : List (Key × Row)). AllByRecursion (FitsRow info) l) (sym c.remove.ensures.entries) (all_removed (FitsRow info) _ c.args.rows.now.entries all),
      found_fits (FitsRow info) c.args.key.now c.args.rows.now.entries c.remove.result found all,
    )
