use Rattle.std.proofs.Common.{◌≡◌, ◌∙◌, Bool, Some, None, List, length, get_or, sym, ap, subst}
use Rattle.std.specs.Prelude.{IfOk, nat_lt}
use Rattle.dbl_model_table.specs.declared.table.Column.{Column}
use Rattle.dbl_model_table.specs.Tables.{column_names}
use Rattle.dbl_model_table.specs.Made.{place_of}
use Rattle.dbl_tables_rows.proofs.PlaceLemmas.{readable_there, unreadable_none, never_past}
use Rattle.dbl_tables_rows.proofs.given.is_readable.Goals as goal

pub returns-in_default : goal.returns-in_default
returns-in_default c placed =
    let none : place_of (column_names c.args.info.now.columns) c.args.cell.now.column ≡ None = sym (placed.each c.args.cell.now.column) ∙ sym c.in_default.ensures.value in
    unreadable_none c.args.info.now c.args.cell.now none

pub returns-in-Some-get : goal.returns-in-Some-get
returns-in-Some-get c placed =
    let columns : c.deref.result.now ≡ c.args.info.now.columns = c.deref.ensures.value ∙ c.items.ensures in
    let at : place_of (column_names c.args.info.now.columns) c.args.cell.now.column ≡ Some c.in-Some.place.now = sym (placed.each c.args.cell.now.column) ∙ sym c.in-Some.ensures.value in
    let same = readable_there c.args.info.now c.args.cell.now c.in-Some.place.now c.in-Some-get.column.now at
    (c.in-Some-get.ensures.lookup.0 ∙ ap (λ (l : List Column). nat_lt c.in-Some.place.now (length l)) columns)
    (c.in-Some-get.ensures.lookup.1 ∙ ap (λ (l : List Column). get_or l c.in-Some.place.now c.in-Some-get.column.now) columns) in
    subst (λ (b : Bool). IfOk c.spells.result (λ readable. readable ≡ b)) same c.spells.ensures

pub returns-in-None : goal.returns-in-None
returns-in-None c placed =
    let columns : c.deref.result.now ≡ c.args.info.now.columns = c.deref.ensures.value ∙ c.items.ensures in
    let at : place_of (column_names c.args.info.now.columns) c.args.cell.now.column ≡ Some c.in-Some.place.now = sym (placed.each c.args.cell.now.column) ∙ sym c.in-Some.ensures.value in
    absurd (never_past c.args.info.now c.args.cell.now c.in-Some.place.now at (c.in-None.ensures.lookup.0 ∙ ap (λ (l : List Column). nat_lt c.in-Some.place.now (length l)) columns))
