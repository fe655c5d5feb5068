use Rattle.std.proofs.Common.{◌≡◌, ◌∙◌, ◌⊎◌, ℕ, true, false, Option, None, List, map, inl, inr, refl, sym, ap}
use Rattle.std.proofs.lemmas.Result.{err_from_is_err_and}
use Rattle.std.specs.Prelude.{◌&&◌, is_some, option_and_then, unwrap_or, slice_get, bytes_eq}
use Rattle.std.specs.List.{list_all}
use Rattle.dbl_model_table.specs.declared.named_cell.NamedCell.{NamedCell}
use Rattle.dbl_model_table.specs.declared.table.TableInfo.{TableInfo}
use Rattle.dbl_model_table.specs.Infos.{catalogue_of}
use Rattle.dbl_model_table.specs.Tables.{are_distinct}
use Rattle.dbl_tables_rows.specs.declared.error.StepError.{StepError}
use Rattle.dbl_tables_rows.specs.declared.error.StepError.TheVariants as errors
use Rattle.dbl_tables_rows.specs.Cells.{are_each_readable, are_readable, has_key_texts, row_given}
use Rattle.dbl_tables_rows.specs.Given.{given_names}
use Rattle.dbl_tables_changes.specs.First.{NamesTwice}
use Rattle.dbl_tables_changes.proofs.ExitLemmas.{both_no_left, both_no_right, both_yes}
use Rattle.dbl_tables_changes.proofs.MovedLemmas.{row_of_named, key_of_texts}
use Rattle.dbl_tables_changes.proofs.first.read_first.Goals as goal

abbrev flat : List (Option (Option (List ℕ))) → List (Option (List ℕ))
flat named = map (option_and_then (λ (text : Option (List ℕ)). text)) named

-- a column that is named twice
untaken : (info : TableInfo) (cells : List NamedCell) (e : StepError) → NamesTwice cells e → (e ≡ errors.Memory) ⊎ ((e ≡ errors.BadRow) × ((are_readable (catalogue_of info) cells && has_key_texts (catalogue_of info) cells) ≡ false))
untaken info cells e (inl memory) = inl memory
untaken info cells e (inr twice) =
    inr (twice.0, both_no_left (are_readable (catalogue_of info) cells) (has_key_texts (catalogue_of info) cells) (both_no_right (are_each_readable (catalogue_of info) cells) (are_distinct bytes_eq (given_names cells)) twice.1))

-- the test of the key's texts
tested : (info : TableInfo) (cells : List NamedCell) (texts : List (Option (List ℕ))) (places : List ℕ) → texts ≡ row_given (catalogue_of info) cells → places ≡ info.key
    → list_all (λ (p : ℕ). is_some (unwrap_or (slice_get texts p) None)) places ≡ has_key_texts (catalogue_of info) cells
tested info cells texts places texts_are places_are =
    ap (λ (l : List (Option (List ℕ))). list_all (λ (p : ℕ). is_some (unwrap_or (slice_get l p) None)) places) texts_are
    ∙ (ap (list_all (λ (p : ℕ). is_some (unwrap_or (slice_get (row_given (catalogue_of info) cells) p) None))) places_are ∙ key_of_texts info cells)

-- a cell that can't be read
pub returns-then-not-branch-clause-reads : goal.returns-then-not-branch-clause-reads
returns-then-not-branch-clause-reads c has =
    let info = c.args.rows.now.table.info in
    let cells = c.args.cells.items in
    let each : are_each_readable (catalogue_of info) cells ≡ false = ap (are_each_readable (catalogue_of info)) (sym c.as_slice.ensures.value) ∙ (sym (c.in_ok-are_each_readable.ensures has) ∙ c.if-not-branch.true) in
    inr (refl, both_no_left (are_readable (catalogue_of info) cells) (has_key_texts (catalogue_of info) cells) (both_no_left (are_each_readable (catalogue_of info) cells) (are_distinct bytes_eq (given_names cells)) each))

pub returns-in_err-named-clause-reads : goal.returns-in_err-named-clause-reads
returns-in_err-named-clause-reads c has =
    let p = err_from_is_err_and c.from_residual-in_err-named.result c.from_residual-in_err-named.ensures.1 in
    let info = c.args.rows.now.table.info in
    let each : are_each_readable (catalogue_of info) c.args.cells.items ≡ true = ap (are_each_readable (catalogue_of info)) (sym c.as_slice.ensures.value) ∙ (sym (c.in_ok-are_each_readable.ensures has) ∙ c.if-not-branch.false) in
    rw (p.1, p.2) (untaken info c.args.cells.items c.in_err-named.field-0.0 (c.in_err-named.ensures.twice has each))

-- a key without a text
pub returns-then-not-are_texts_at-clause-reads : goal.returns-then-not-are_texts_at-clause-reads
returns-then-not-are_texts_at-clause-reads c has =
    let info = c.args.rows.now.table.info in
    let cells = c.args.cells.items in
    let each : are_each_readable (catalogue_of info) cells ≡ true = ap (are_each_readable (catalogue_of info)) (sym c.as_slice.ensures.value) ∙ (sym (c.in_ok-are_each_readable.ensures has) ∙ c.if-not-branch.false) in
    let named = c.in_ok-named.ensures.taken has each in
    let texts : c.as_slice-2.result.now ≡ row_given (catalogue_of info) cells = c.as_slice-2.ensures.value ∙ (c.in_ok-texts.ensures ∙ (ap flat named.0 ∙ row_of_named info cells)) in
    inr (
      refl,
      both_no_right (are_readable (catalogue_of info) cells) (has_key_texts (catalogue_of info) cells)
          (sym (tested info cells c.as_slice-2.result.now c.as_slice-3.result.now texts (c.as_slice-3.ensures.value ∙ c.items.ensures)) ∙ (sym c.are_texts_at.ensures ∙ c.if-not-are_texts_at.true)),
    )

pub returns-clause-reads : goal.returns-clause-reads
returns-clause-reads c has =
    let info = c.args.rows.now.table.info in
    let cells = c.args.cells.items in
    let each : are_each_readable (catalogue_of info) cells ≡ true = ap (are_each_readable (catalogue_of info)) (sym c.as_slice.ensures.value) ∙ (sym (c.in_ok-are_each_readable.ensures has) ∙ c.if-not-branch.false) in
    let named = c.in_ok-named.ensures.taken has each in
    let texts : c.as_slice-2.result.now ≡ row_given (catalogue_of info) cells = c.as_slice-2.ensures.value ∙ (c.in_ok-texts.ensures ∙ (ap flat named.0 ∙ row_of_named info cells)) in
    both_yes (are_readable (catalogue_of info) cells) (has_key_texts (catalogue_of info) cells) (both_yes (are_each_readable (catalogue_of info) cells) (are_distinct bytes_eq (given_names cells)) each named.1)
    (sym (tested info cells c.as_slice-2.result.now c.as_slice-3.result.now texts (c.as_slice-3.ensures.value ∙ c.items.ensures)) ∙ (sym c.are_texts_at.ensures ∙ c.if-not-are_texts_at.false))

pub returns-clause-row : goal.returns-clause-row
returns-clause-row c has =
    let info = c.args.rows.now.table.info in
    let cells = c.args.cells.items in
    let each : are_each_readable (catalogue_of info) cells ≡ true = ap (are_each_readable (catalogue_of info)) (sym c.as_slice.ensures.value) ∙ (sym (c.in_ok-are_each_readable.ensures has) ∙ c.if-not-branch.false) in
    let named = c.in_ok-named.ensures.taken has each in
    c.make.ensures ∙ (c.in_ok-texts.ensures ∙ (ap flat named.0 ∙ row_of_named info cells))
