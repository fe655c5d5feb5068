use Rattle.std.proofs.Common.{◌≡◌, ◌∙◌, ℕ, true, false, Option, Some, None, List, refl, sym, ap}
use Rattle.std.specs.Prelude.{is_some, slice_get}
use Rattle.std.proofs.Math.ListN.{set}
use Rattle.std.proofs.lemmas.Option.{slice_get_past, slice_get_read}
use Rattle.dbl_model_table.specs.Made.{place_of}
use Rattle.dbl_model_table.specs.Tables.{column_names}
use Rattle.dbl_tables_changes.specs.First.{cell_given}
use Rattle.dbl_tables_changes.proofs.MovedLemmas.{given_named, named_there, cell_put}
use Rattle.dbl_tables_changes.proofs.first.take_cell.Goals as goal

-- no column has the name
pub returns-in_default : goal.returns-in_default
returns-in_default c info cells placed named =
    let none : place_of (column_names info.columns) c.args.cell.column ≡ None = sym (placed.each c.args.cell.column) ∙ sym c.in_default.ensures.value in
    (refl, λ some. (let never : is_some {T = ℕ} None ≡ true = ap is_some (sym none) ∙ some in cc))

-- each column has its place
pub returns-in_default-get_mut : goal.returns-in_default-get_mut
returns-in_default-get_mut c info cells placed named =
    let at : place_of (column_names info.columns) c.args.cell.column ≡ Some c.in-Some.place.now = sym (placed.each c.args.cell.column) ∙ sym c.in-Some.ensures.value in
    let none : slice_get c.args.named.now.items c.in-Some.place.now ≡ None = slice_get_past c.args.named.now.items c.in-Some.place.now c.in_default-get_mut.ensures.item.3 in
    let contra : None ≡ Some (cell_given cells c.args.cell.column) =
    sym none ∙ (ap (λ (l : List (Option (Option (List ℕ)))). slice_get l c.in-Some.place.now) named ∙ named_there info cells c.args.cell c.in-Some.place.now at) in
    cc

-- the column was named before
pub returns-then-is_some : goal.returns-then-is_some
returns-then-is_some c info cells placed named =
    let at : place_of (column_names info.columns) c.args.cell.column ≡ Some c.in-Some.place.now = sym (placed.each c.args.cell.column) ∙ sym c.in-Some.ensures.value in
    let there = slice_get_read c.args.named.now.items _ c.in-Some.place.now c.in-Some-get_mut.own.now refl c.in-Some-get_mut.ensures.item.3.0 c.in-Some-get_mut.ensures.item.1 in
    let both : Some (cell_given cells c.args.cell.column) ≡ Some c.in-Some-get_mut.own.now =
    sym (named_there info cells c.args.cell c.in-Some.place.now at) ∙ (ap (λ (l : List (Option (Option (List ℕ)))). slice_get l c.in-Some.place.now) (sym named) ∙ there) in
    let own : cell_given cells c.args.cell.column ≡ c.in-Some-get_mut.own.now = cc in
    (refl, λ some. sym (given_named cells c.args.cell.column) ∙ (ap is_some own ∙ (sym c.is_some.ensures ∙ c.if-is_some.true)))

pub returns : goal.returns
returns c info cells placed named =
    let at : place_of (column_names info.columns) c.args.cell.column ≡ Some c.in-Some.place.now = sym (placed.each c.args.cell.column) ∙ sym c.in-Some.ensures.value in
    let there = slice_get_read c.args.named.now.items _ c.in-Some.place.now c.in-Some-get_mut.own.now refl c.in-Some-get_mut.ensures.item.3.0 c.in-Some-get_mut.ensures.item.1 in
    let both : Some (cell_given cells c.args.cell.column) ≡ Some c.in-Some-get_mut.own.now =
    sym (named_there info cells c.args.cell c.in-Some.place.now at) ∙ (ap (λ (l : List (Option (Option (List ℕ)))). slice_get l c.in-Some.place.now) (sym named) ∙ there) in
    let own : cell_given cells c.args.cell.column ≡ c.in-Some-get_mut.own.now = cc in
    let none : is_some (cell_given cells c.args.cell.column) ≡ false = ap is_some own ∙ (sym c.is_some.ensures ∙ c.if-is_some.false) in
    (ap (λ (l : List (Option (Option (List ℕ)))). set l c.in-Some.place.now (Some c.args.cell.text)) named ∙ cell_put info cells c.args.cell c.in-Some.place.now at none, sym (given_named cells c.args.cell.column) ∙ none)
