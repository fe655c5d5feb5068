use Rattle.std.proofs.Common.{◌≡◌, ◌∙◌, ℕ, Some, None, List, sym, ap}
use Rattle.std.specs.Prelude.{option_and_then, slice_get}
use Rattle.std.specs.Ordering.{nat_cmp}
use Rattle.std.specs.Cmp.Lexicographic.{slice_cmp}
use Rattle.std.specs.BTreeMap.{get_by}
use Rattle.dbl_model_table.specs.Made.{place_of}
use Rattle.dbl_tables_rows.specs.Given.{given_names}
use Rattle.dbl_tables_rows.proofs.CellLemmas.{at_place, copied_at}
use Rattle.dbl_tables_rows.proofs.given.cell_named.Goals as goal

pub returns-in-Some : goal.returns-in-Some
returns-in-Some c =
    let place : place_of (given_names c.args.cells.now) c.args.name.now ≡ Some c.in-Some.place.now =
    sym (c.requires.each c.args.name.now) ∙ (ap (λ (n : List ℕ). get_by (λ k. slice_cmp nat_cmp n k.now) c.args.places.now) (sym c.as_str.ensures.value) ∙ sym c.in-Some.ensures.value) in
    copied_at c.args.cells.now c.in-Some.place.now c.get-in-Some.result c.get-in-Some.ensures.lookup.0 c.get-in-Some.ensures.lookup.1
    ∙ (ap (option_and_then (slice_get c.args.cells.now)) (sym place) ∙ sym (at_place c.args.cells.now c.args.name.now))

pub returns-in-None : goal.returns-in-None
returns-in-None c =
    let none : place_of (given_names c.args.cells.now) c.args.name.now ≡ None =
    sym (c.requires.each c.args.name.now) ∙ (ap (λ (n : List ℕ). get_by (λ k. slice_cmp nat_cmp n k.now) c.args.places.now) (sym c.as_str.ensures.value) ∙ sym c.in-None.ensures.value) in
    ap (option_and_then (slice_get c.args.cells.now)) (sym none) ∙ sym (at_place c.args.cells.now c.args.name.now)
