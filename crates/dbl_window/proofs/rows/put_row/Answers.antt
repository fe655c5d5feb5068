use Rattle.std.proofs.Common.{◌≡◌, ◌∙◌, cond, Some, List, sym, subst}
use Rattle.std.specs.List.{AllByRecursion}
use Rattle.std.specs.Map.{lookup}
use Rattle.std.specs.BTreeMap.{insert_entry}
use Rattle.std.specs.Ordering.{is_eq}
use Rattle.std.specs.declared.cmp.Ordering.{Ordering}
use Rattle.dbl_model_table.specs.declared.row.Key.{Key}
use Rattle.dbl_model_table.specs.declared.row.Row.{Row}
use Rattle.dbl_window.specs.Changing.{FitsRow}
use Rattle.dbl_window.proofs.MapLemmas.{order_is, row_changed, all_inserted, insert_last}
use Rattle.dbl_window.proofs.rows.put_row.Goals as goal

pub returns-in-Ok-clause-put : goal.returns-in-Ok-clause-put
returns-in-Ok-clause-put c =
    let old = c.args.rows.now.entries in
    let new = c.insert.new.self.entries in
    row_changed old new c.args.key (Some c.args.row)
    (subst (λ (cmp : Key → Key → Ordering). (q : Key) → lookup (λ k. is_eq (cmp q k)) new ≡ cond (is_eq (cmp c.args.key q)) (Some c.args.row) (lookup (λ k. is_eq (cmp q k)) old)) order_is c.in-Ok.ensures.updates.0)

pub returns-in-Ok-clause-fit : goal.returns-in-Ok-clause-fit
returns-in-Ok-clause-fit c info all new_fits =
    let old = c.args.rows.now.entries in
    let entries = subst (λ (cmp : Key → Key → Ordering). c.insert.new.self.entries ≡ insert_entry cmp old c.args.key c.args.row) order_is c.in-Ok.ensures.entries in
    subst (λ (l : List (Key × Row)). AllByRecursion (FitsRow info) l) (sym entries) (all_inserted (FitsRow info) c.args.key c.args.row old all new_fits)

-- a row after all others stands last
pub returns-in-Ok-clause-last : goal.returns-in-Ok-clause-last
returns-in-Ok-clause-last c bound above subsequent =
    let old = c.args.rows.now.entries in
    let entries = subst (λ (cmp : Key → Key → Ordering). c.insert.new.self.entries ≡ insert_entry cmp old c.args.key c.args.row) order_is c.in-Ok.ensures.entries in
    entries ∙ insert_last bound old c.args.key c.args.row above subsequent
