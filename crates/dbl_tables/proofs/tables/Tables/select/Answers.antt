use Rattle.std.proofs.Common.{◌≡◌, ◌∙◌, true, false, Option, Some, None, List, [], sym, ap, subst}
use Rattle.std.proofs.lemmas.Result.{err_from_is_err_and}
use Rattle.std.specs.Prelude.{IfSome, Ok, slice_get, option_copied}
use Rattle.std.specs.BTreeMap.{IsOrdered}
use Rattle.dbl_model_table.specs.declared.row.Key.{Key}
use Rattle.dbl_model_table.specs.declared.table.RawRow.{RawRow}
use Rattle.dbl_model_table.specs.Keys.{key_cmp}
use Rattle.dbl_model_history.specs.Fit.{IsKeyOf}
use Rattle.dbl_tables_rows.specs.Selects.{SelectsCommitted}
use Rattle.dbl_tables_rows.specs.declared.rows.Rows.{Rows}
use Rattle.dbl_tables_rows.specs.Views.{Slots, base_of}
use Rattle.dbl_tables.specs.Shown.{comes_after, rows_after_key}
use Rattle.dbl_tables.proofs.CutLemmas.{at_name}
use Rattle.dbl_tables.proofs.StoreLemmas.{got, got_none}
use Rattle.dbl_tables.proofs.SelectStands.{select_unknown, select_fails, select_none, select_rows, after_is_above, above_is_after}
use Rattle.dbl_tables.proofs.tables.Tables.select.Goals as goal

-- a table that isn't there
pub returns-in_default : goal.returns-in_default
returns-in_default c tables past st = select_unknown tables past [] c.args.self.now st c.args.table.now (option_copied c.args.above) c.args.limit (sym c.in_default.ensures)

-- a table that has a place is there
pub returns-in_default-get : goal.returns-in_default-get
returns-in_default-get c tables past st =
    let at = at_name tables past [] c.args.self.now st c.args.table.now c.in-Some.place (sym c.in-Some.ensures) in
    let none : slice_get c.args.self.now.tables.items c.in-Some.place ≡ None = got_none c.args.self.now.tables.items c.deref.result.now c.in-Some.place c.deref.ensures.value c.in_default-get.ensures.lookup.0 in
    let contra : None ≡ Some at.0 = sym none ∙ at.1 in
    cc

-- nothing is above a key that isn't of the table's
pub returns-then-not-is_bound_of : goal.returns-then-not-is_bound_of
returns-then-not-is_bound_of c tables past st =
    let rows : Rows = c.in-Some-get.rows.now in
    let there : slice_get c.args.self.now.tables.items c.in-Some.place ≡ Some rows = got c.args.self.now.tables.items c.deref.result.now c.in-Some.place rows c.deref.ensures.value c.in-Some-get.ensures.lookup.0 c.in-Some-get.ensures.lookup.1 in
    let other : IfSome (option_copied c.args.above) (IsKeyOf rows.table.info) → ⊥ = λ own. (let contra : true ≡ false = sym (c.is_bound_of.ensures.1 own) ∙ c.if-not-is_bound_of.true in cc) in
    subst (λ (l : List RawRow). SelectsCommitted tables past c.args.table.now (option_copied c.args.above) c.args.limit (Ok l)) (sym (c.make.ensures ∙ c.new.ensures.items))
    (select_none tables past [] c.args.self.now st c.args.table.now c.in-Some.place (sym c.in-Some.ensures) (option_copied c.args.above) c.args.limit rows there other)

pub returns-in_err-rows_after_key : goal.returns-in_err-rows_after_key
returns-in_err-rows_after_key c tables past st =
    let p = err_from_is_err_and c.from_residual.result c.from_residual.ensures.1 in
    rw (p.1, p.2) (select_fails tables past [] c.args.self.now st c.args.table.now c.in-Some.place (sym c.in-Some.ensures) (option_copied c.args.above) c.args.limit)

pub returns : goal.returns
returns c tables past st =
    let rows : Rows = c.in-Some-get.rows.now in
    let above : Option Key = option_copied c.args.above in
    let there : slice_get c.args.self.now.tables.items c.in-Some.place ≡ Some rows = got c.args.self.now.tables.items c.deref.result.now c.in-Some.place rows c.deref.ensures.value c.in-Some-get.ensures.lookup.0 c.in-Some-get.ensures.lookup.1 in
    let own : IfSome above (IsKeyOf rows.table.info) = c.is_bound_of.ensures.0 c.if-not-is_bound_of.false in
    let shown : c.make-2.result ≡ rows_after_key (base_of rows.cleared rows.slots) above c.args.limit = c.make-2.ensures ∙ (c.in_ok-rows_after_key.ensures.rows ∙ ap (λ (s : Slots). rows_after_key s above c.args.limit) c.base.ensures) in
    let sorted : IsOrdered key_cmp (base_of rows.cleared rows.slots) = subst (IsOrdered key_cmp) c.base.ensures c.rows_after_key.ensures.ordered in
    subst (λ (l : List RawRow). SelectsCommitted tables past c.args.table.now above c.args.limit (Ok l)) (sym shown)
    (select_rows tables past [] c.args.self.now st c.args.table.now c.in-Some.place (sym c.in-Some.ensures) above c.args.limit rows there (comes_after above) own sorted (after_is_above above) (above_is_after above))
